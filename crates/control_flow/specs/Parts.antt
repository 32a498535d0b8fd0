-- What the parts of a program mean to a runner, where results come later and calls among sequences lead at most so deep.
use Rattle.std.specs.Prelude.{ℕ, Bool, List, [], Option}
use Rattle.expr_grammar.specs.declared.code.BinaryOp.{BinaryOp}
use Rattle.expr_grammar.specs.declared.code.Name.{Name}
use Rattle.expr_grammar.specs.declared.code.UnaryOp.{UnaryOp}
use Rattle.expr_grammar.specs.Tree.{ArgTree, ArgTrees, StmtTree, Tree}
use Rattle.function_table.specs.declared.function.Function.{Function}
use Rattle.sequence_trees.specs.Trees.{CodeStep, CodeSteps}
use Rattle.target_calls.specs.declared.calls.Value.{Value}
use Rattle.seq_check.specs.Answers.{checked_trees}
use Rattle.sequence_rules.specs.Polls.{poll_of}
use Rattle.sequence_rules.specs.Steps as st
use Rattle.sequence_rules.specs.Values as v
use Rattle.function_calls.specs.Frame.{LateMeaning}
use Rattle.control_flow.specs.Calls.{late_calls_of}
use Rattle.control_flow.specs.Calls as c
use Rattle.control_flow.specs.declared.runner.Runner.{Runner}

module _ (runner : Runner) (depth : ℕ) where
  -- ---- expressions

  -- the value of an expression, which is not used
  abbrev pub late_value_of : Tree → LateMeaning Value
  late_value_of e m = v.value m (late_calls_of m runner depth) e

  -- the number of an expression, whose value is used
  abbrev pub late_number_of : Tree → LateMeaning ℕ
  late_number_of e m s = v.used_now m (late_value_of e m s)

  -- an operator before its operand
  abbrev pub late_unary_of : UnaryOp → Tree → LateMeaning Value
  late_unary_of op a m s = v.of_unary m op (late_value_of a m s)

  -- the numbers of two operands
  abbrev pub late_operands_of : Tree → Tree → LateMeaning (ℕ × ℕ)
  late_operands_of a b m s = v.operands m (late_value_of a m s) (late_value_of b m)

  -- an operator that evaluates both sides
  abbrev pub late_strict_of : BinaryOp → Tree → Tree → LateMeaning Value
  late_strict_of op a b m s = v.strict_binary m op (late_value_of a m s) (late_value_of b m)

  -- 1 where an expression is not 0, and else 0
  abbrev pub late_truth_of : Tree → LateMeaning Value
  late_truth_of e m s = v.truth_of m (late_value_of e m s)

  -- `&&`
  abbrev pub late_and_of : Tree → Tree → LateMeaning Value
  late_and_of a b m s = v.conjunction m (late_value_of a m s) (late_value_of b m)

  -- `||`
  abbrev pub late_or_of : Tree → Tree → LateMeaning Value
  late_or_of a b m s = v.disjunction m (late_value_of a m s) (late_value_of b m)

  -- an operator between its operands
  abbrev pub late_binary_of : BinaryOp → Tree → Tree → LateMeaning Value
  late_binary_of op a b m s = v.of_binary m op (late_value_of a m s) (late_value_of b m)

  -- `?:`
  abbrev pub late_choice_of : Tree → Tree → Tree → LateMeaning Value
  late_choice_of test a b m s = v.choice m (late_value_of test m s) (late_value_of a m) (late_value_of b m)

  -- an assignment of the value of an expression
  abbrev pub late_assignment_of : Name → Tree → LateMeaning Value
  late_assignment_of name e m s = v.assigned_value m name (late_value_of e m s)

  -- ---- calls

  -- the values of the arguments so far and of this one, where it is an expression
  abbrev pub late_argument_of : ArgTree → List Value → LateMeaning (List Value)
  late_argument_of a got m = v.argument m (late_calls_of m runner depth) a got

  -- the values of the arguments so far, and that of an expression
  abbrev pub late_value_after : List Value → Tree → LateMeaning (List Value)
  late_value_after got e m s = v.appended_values m got (late_value_of e m s)

  -- the values of the arguments so far and of these, from left to right
  abbrev pub late_arguments_of : ArgTrees → List Value → LateMeaning (List Value)
  late_arguments_of args got m = v.arguments m (late_calls_of m runner depth) args got

  -- a call by its name: its arguments, and then the function
  abbrev pub late_call_of : Name → ArgTrees → LateMeaning Value
  late_call_of name args m s = v.call_of m (late_calls_of m runner depth) name args (late_arguments_of args [] m s)

  -- a function, with the text and the numbers among the arguments of its call
  abbrev pub late_function_of : Option Function → List ℕ → List ℕ → LateMeaning Value
  late_function_of function text numbers m = v.call_result m (late_calls_of m runner depth) function text numbers

  -- the sequence of the name
  abbrev pub late_named_of : List ℕ → LateMeaning (Unit {0})
  late_named_of name m = late_calls_of m runner depth name

  -- ---- steps

  -- steps, in order
  abbrev pub late_steps_of : CodeSteps → LateMeaning (Unit {0})
  late_steps_of steps m = st.steps_result m runner.turn_us (late_calls_of m runner depth) steps

  -- a step
  abbrev pub late_step_of : CodeStep → LateMeaning (Unit {0})
  late_step_of one m = st.step m runner.turn_us (late_calls_of m runner depth) one

  -- the statements of a block, in order
  abbrev pub late_block_of : List StmtTree → LateMeaning (Unit {0})
  late_block_of code m = st.block m runner.turn_us (late_calls_of m runner depth) code

  -- a statement
  abbrev pub late_statement_of : StmtTree → LateMeaning (Unit {0})
  late_statement_of one m = st.statement m runner.turn_us (late_calls_of m runner depth) one

  -- a declaration, which is a step
  abbrev pub late_declaration_of : Name → Tree → LateMeaning (Unit {0})
  late_declaration_of name e m = st.after_counted m (λ r. st.declared_variable m name (late_value_of e m r))

  -- an expression whose value is dropped, which is a step
  abbrev pub late_plain_of : Tree → LateMeaning (Unit {0})
  late_plain_of e m = st.after_counted m (λ r. st.dropped_value m (late_value_of e m r))

  -- the steps of a called sequence, with variables of its own
  abbrev pub late_sequence_of : CodeSteps → LateMeaning (Unit {0})
  late_sequence_of steps m = st.sequence_result m (late_steps_of steps m)

  -- ---- controls

  -- whether the `if` of a control is not 0; one that is not there is so
  abbrev pub late_condition_of : Option Tree → LateMeaning Bool
  late_condition_of cond m = st.condition m runner.turn_us (late_calls_of m runner depth) cond

  -- steps whose declarations are not visible after them
  abbrev pub late_inside_of : CodeSteps → LateMeaning (Unit {0})
  late_inside_of steps m = st.inside m (late_steps_of steps m)

  -- one turn of a loop by its `while`; whether another may follow
  abbrev pub late_turn_of : Tree → CodeSteps → LateMeaning Bool
  late_turn_of e steps m = st.turn m (late_value_of e m) (late_inside_of steps m)

  -- at most so many turns
  abbrev pub late_turns_of : Tree → ℕ → CodeSteps → LateMeaning (Unit {0})
  late_turns_of e count steps m = st.turns m (late_value_of e m) (late_inside_of steps m) count

  -- a loop: a poll where it has the form of one, and else at most so many turns
  abbrev pub late_loop_of : Tree → ℕ → CodeSteps → LateMeaning (Unit {0})
  late_loop_of e count steps m =
      st.loop_result m runner.turn_us (late_calls_of m runner depth) (poll_of e steps) e count (late_steps_of steps m)

  -- the steps of a control, once or as its `while` and its timeout say
  abbrev pub late_repeat_of : Option Tree → Option ℕ → CodeSteps → LateMeaning (Unit {0})
  late_repeat_of repeat timeout steps m =
      st.repeat_result m runner.turn_us (late_calls_of m runner depth) repeat timeout steps (late_steps_of steps m)

  -- a control: its condition, and then its steps
  abbrev pub late_control_of : Option Tree → Option Tree → Option ℕ → CodeSteps → LateMeaning (Unit {0})
  late_control_of cond repeat timeout steps m =
      st.control_result m runner.turn_us (late_calls_of m runner depth) cond repeat timeout steps (late_steps_of steps m)

module _ (runner : Runner) where
  -- ---- runs

  -- a debug variable gets its value
  abbrev pub late_definition_of : Name → Tree → LateMeaning (Unit {0})
  late_definition_of name e m = c.late_definition m runner.turn_us (checked_trees runner.set.now) name e

  -- one statement of the debug variables
  abbrev pub late_debug_of : StmtTree → LateMeaning (Unit {0})
  late_debug_of one m = c.late_debug_statement m runner.turn_us (checked_trees runner.set.now) one

  -- the debug variables get their values, in order
  abbrev pub late_debugs_of : List StmtTree → LateMeaning (Unit {0})
  late_debugs_of code m = st.debug_result m runner.turn_us (checked_trees runner.set.now) code

  -- a run: the debug variables, and then the sequence of the name
  abbrev pub late_run_of : List ℕ → LateMeaning (Unit {0})
  late_run_of start m = st.run_of m runner.turn_us (checked_trees runner.set.now) start
