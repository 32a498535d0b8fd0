-- Definitions that the proofs of a function open together: each name here stands for those on its line.
use Rattle.sequence_rules.specs.Calls.{abort, abort_at, counted_answer, ask, command, function_result, value_or_missing, guarded_rest, if_read, line_result, low_and_high, memory_at, missing, counted_number, one_unit, or_halt, second_half, use_now, zero_of}
use Rattle.sequence_rules.specs.Direct.{direct, made_call}
use Rattle.sequence_rules.specs.Steps.{condition, repeat_result, sequence_at}
use Rattle.sequence_rules.specs.Values.{both, call_of, call_result, choice, conjunction, disjunction, named_value, numbers_of, of_unary, operands, result_of, strict_binary, truth_of, used_now, value}

-- an expression, and a name in it
unfoldable pub expressions : Unit {0}
unfolding value named_value value_or_missing missing direct
expressions = tt

-- an operator before its operand
unfoldable pub unary_operators : Unit {0}
unfolding of_unary used_now use_now direct
unary_operators = tt

-- `&&`
unfoldable pub conjunctions : Unit {0}
unfolding conjunction used_now truth_of use_now direct
conjunctions = tt

-- `||`
unfoldable pub disjunctions : Unit {0}
unfolding disjunction used_now truth_of use_now direct
disjunctions = tt

-- `?:`
unfoldable pub choices : Unit {0}
unfolding choice used_now use_now direct
choices = tt

-- the `if` of a control
unfoldable pub conditions : Unit {0}
unfolding condition used_now use_now direct
conditions = tt

-- an operator that evaluates both sides
unfoldable pub strict_operators : Unit {0}
unfolding strict_binary operands both result_of use_now direct
strict_operators = tt

-- a call by its name
unfoldable pub calls : Unit {0}
unfolding call_of guarded_rest numbers_of direct
calls = tt

-- a call by its function
unfoldable pub callees : Unit {0}
unfolding call_result missing direct
callees = tt

-- a sequence by its name
unfoldable pub sequences : Unit {0}
unfolding sequence_at missing direct
sequences = tt

-- the steps of a control, once or in turns
unfoldable pub repeats : Unit {0}
unfolding repeat_result value_or_missing missing direct
repeats = tt

-- an access as a unit
unfoldable pub units : Unit {0}
unfolding ask counted_answer direct made_call
units = tt

-- a command of the probe as a unit
unfoldable pub commands : Unit {0}
unfolding command counted_number direct made_call
commands = tt

-- what a unit answers
unfoldable pub answers : Unit {0}
unfolding if_read zero_of low_and_high use_now direct
answers = tt

-- a memory call, once the port is known
unfoldable pub memory_calls : Unit {0}
unfolding memory_at one_unit or_halt
memory_calls = tt

-- the second unit of a 64-bit call
unfoldable pub second_halves : Unit {0}
unfolding second_half direct
second_halves = tt

-- `DAP_WriteABORT`
unfoldable pub aborts : Unit {0}
unfolding abort abort_at zero_of
aborts = tt

-- a line
unfoldable pub lines : Unit {0}
unfolding line_result direct
lines = tt

-- a call of a function, but for `Sequence`
unfoldable pub functions : Unit {0}
unfolding function_result direct
functions = tt
