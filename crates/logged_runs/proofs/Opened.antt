-- Definitions that the proofs of a function open together: each name here stands for those on its line, what is meant and what is seen.
use Rattle.sequence_rules.specs.Calls.{value_or_missing, guarded_rest, missing, use_now}
use Rattle.sequence_rules.specs.Direct.{direct}
use Rattle.sequence_rules.specs.Steps.{after_counted, condition, declared_variable, dropped_value, repeat_result, sequence_at}
use Rattle.sequence_rules.specs.Values.{assigned_value, both, call_of, call_result, choice, conjunction, disjunction, named_value, numbers_of, of_unary, operands, result_of, stored_value, strict_binary, truth_of, used_now, value}
use Rattle.run_events.specs.OfRuns.{sequence_events}
use Rattle.run_events.specs.OfSteps.{condition_events, repeat_events, tested_events}
use Rattle.run_events.specs.OfValues.{call_events, called_events, value_events}

-- an expression, and a name in it
unfoldable pub expressions : Unit {0}
unfolding value named_value value_or_missing missing direct value_events
expressions = tt

-- an operator before its operand
unfoldable pub unary_operators : Unit {0}
unfolding of_unary used_now use_now direct
unary_operators = tt

-- an operator that evaluates both sides
unfoldable pub strict_operators : Unit {0}
unfolding strict_binary operands both result_of use_now direct
strict_operators = tt

-- `&&`
unfoldable pub conjunctions : Unit {0}
unfolding conjunction used_now truth_of use_now direct
conjunctions = tt

-- `||`
unfoldable pub disjunctions : Unit {0}
unfolding disjunction used_now truth_of use_now direct
disjunctions = tt

-- `?:`
unfoldable pub choices : Unit {0}
unfolding choice used_now use_now direct
choices = tt

-- an assignment
unfoldable pub assignments : Unit {0}
unfolding assigned_value stored_value guarded_rest direct
assignments = tt

-- a call by its name
unfoldable pub calls : Unit {0}
unfolding call_of guarded_rest numbers_of direct
calls = tt

-- a call by its function
unfoldable pub callees : Unit {0}
unfolding call_result missing direct call_events
callees = tt

-- a call of a sequence, from its call to its return
unfoldable pub called_sequences : Unit {0}
unfolding call_result direct called_events
called_sequences = tt

-- a sequence by its name
unfoldable pub sequences : Unit {0}
unfolding sequence_at missing direct sequence_events
sequences = tt

-- the `if` of a control
unfoldable pub conditions : Unit {0}
unfolding condition used_now use_now direct condition_events
conditions = tt

-- the steps of a control, once or in turns
unfoldable pub repeats : Unit {0}
unfolding repeat_result value_or_missing missing direct repeat_events
repeats = tt

-- a turn that was counted
unfoldable pub tested_turns : Unit {0}
unfolding used_now use_now direct tested_events
tested_turns = tt

-- a declaration
unfoldable pub declarations : Unit {0}
unfolding after_counted declared_variable
declarations = tt

-- an expression whose value is dropped
unfoldable pub dropped_values : Unit {0}
unfolding after_counted dropped_value
dropped_values = tt
