-- What the parts of a program mean to the direct runner, where calls among sequences lead at most so deep.
use Rattle.std.specs.Prelude.{ℕ, Bool, false, List, [], Option}
use Rattle.expr_grammar.specs.declared.code.BinaryOp.{BinaryOp}
use Rattle.expr_grammar.specs.declared.code.Name.{Name}
use Rattle.expr_grammar.specs.declared.code.UnaryOp.{UnaryOp}
use Rattle.expr_grammar.specs.Tree.{ArgTree, ArgTrees, StmtTree, Tree}
use Rattle.function_table.specs.declared.function.Function.{Function}
use Rattle.sequence_trees.specs.Trees.{CodeStep, CodeSteps}
use Rattle.sequence_rules.specs.Calls as c
use Rattle.sequence_rules.specs.Direct.{direct}
use Rattle.sequence_rules.specs.Polls.{poll_of}
use Rattle.sequence_rules.specs.Steps as m
use Rattle.sequence_rules.specs.Values as v
use Rattle.sequence_meaning.specs.declared.runner.DirectRunner.{DirectRunner}
use Rattle.sequence_meaning.specs.Held.{Meaning, calls_of}

-- 0 in place of the value
abbrev pub zero_after : Meaning ℕ → Meaning ℕ
zero_after meaning s = c.zero_of (direct false) (meaning s)

module _ (runner : DirectRunner) (depth : ℕ) where
  -- ---- expressions

  -- the value of an expression
  abbrev pub value_meaning : Tree → Meaning ℕ
  value_meaning e = v.value (direct false) (calls_of runner depth) e

  -- an operator before its operand
  abbrev pub unary_meaning : UnaryOp → Tree → Meaning ℕ
  unary_meaning op a s = v.of_unary (direct false) op (value_meaning a s)

  -- an operator that evaluates both sides
  abbrev pub strict_meaning : BinaryOp → Tree → Tree → Meaning ℕ
  strict_meaning op a b s = v.strict_binary (direct false) op (value_meaning a s) (value_meaning b)

  -- `&&`
  abbrev pub and_meaning : Tree → Tree → Meaning ℕ
  and_meaning a b s = v.conjunction (direct false) (value_meaning a s) (value_meaning b)

  -- `||`
  abbrev pub or_meaning : Tree → Tree → Meaning ℕ
  or_meaning a b s = v.disjunction (direct false) (value_meaning a s) (value_meaning b)

  -- an operator between its operands
  abbrev pub binary_meaning : BinaryOp → Tree → Tree → Meaning ℕ
  binary_meaning op a b s = v.of_binary (direct false) op (value_meaning a s) (value_meaning b)

  -- `?:`
  abbrev pub choice_meaning : Tree → Tree → Tree → Meaning ℕ
  choice_meaning test a b s = v.choice (direct false) (value_meaning test s) (value_meaning a) (value_meaning b)

  -- an assignment of the value of an expression
  abbrev pub assignment_meaning : Name → Tree → Meaning ℕ
  assignment_meaning name e s = v.assigned_value (direct false) name (value_meaning e s)

  -- ---- calls

  -- the values of the arguments so far and of this one, where it is an expression
  abbrev pub argument_meaning : ArgTree → List ℕ → Meaning (List ℕ)
  argument_meaning a got = v.argument (direct false) (calls_of runner depth) a got

  -- the values of the arguments so far, and that of an expression
  abbrev pub value_after : List ℕ → Tree → Meaning (List ℕ)
  value_after got e s = v.appended_values (direct false) got (value_meaning e s)

  -- the values of the arguments so far and of these, from left to right
  abbrev pub arguments_meaning : ArgTrees → List ℕ → Meaning (List ℕ)
  arguments_meaning args got = v.arguments (direct false) (calls_of runner depth) args got

  -- a call by its name: its arguments, and then the function
  abbrev pub call_meaning : Name → ArgTrees → Meaning ℕ
  call_meaning name args s = v.call_of (direct false) (calls_of runner depth) name args (arguments_meaning args [] s)

  -- a function, with the text and the numbers among the arguments of its call
  abbrev pub function_meaning : Option Function → List ℕ → List ℕ → Meaning ℕ
  function_meaning function text numbers = v.call_result (direct false) (calls_of runner depth) function text numbers

  -- ---- steps

  -- steps, in order
  abbrev pub steps_meaning : CodeSteps → Meaning (Unit {0})
  steps_meaning steps = m.steps_result (direct false) runner.turn_us (calls_of runner depth) steps

  -- a step
  abbrev pub step_meaning : CodeStep → Meaning (Unit {0})
  step_meaning one = m.step (direct false) runner.turn_us (calls_of runner depth) one

  -- the statements of a block, in order
  abbrev pub block_meaning : List StmtTree → Meaning (Unit {0})
  block_meaning code = m.block (direct false) runner.turn_us (calls_of runner depth) code

  -- a statement
  abbrev pub statement_meaning : StmtTree → Meaning (Unit {0})
  statement_meaning one = m.statement (direct false) runner.turn_us (calls_of runner depth) one

  -- a declaration, which is a step
  abbrev pub declaration_meaning : Name → Tree → Meaning (Unit {0})
  declaration_meaning name e = m.after_counted (direct false) (λ r. m.declared_variable (direct false) name (value_meaning e r))

  -- an expression whose value is dropped, which is a step
  abbrev pub plain_meaning : Tree → Meaning (Unit {0})
  plain_meaning e = m.after_counted (direct false) (λ r. m.dropped_value (direct false) (value_meaning e r))

  -- the steps of a called sequence, with variables of its own
  abbrev pub called_sequence_meaning : CodeSteps → Meaning (Unit {0})
  called_sequence_meaning steps = m.sequence_result (direct false) (steps_meaning steps)

  -- ---- controls

  -- whether the `if` of a control is not 0; one that is not there is so
  abbrev pub condition_meaning : Option Tree → Meaning Bool
  condition_meaning cond = m.condition (direct false) runner.turn_us (calls_of runner depth) cond

  -- steps whose declarations are not visible after them
  abbrev pub inside_meaning : CodeSteps → Meaning (Unit {0})
  inside_meaning steps = m.inside (direct false) (steps_meaning steps)

  -- one turn of a loop by its `while`; whether another may follow
  abbrev pub turn_meaning : Tree → CodeSteps → Meaning Bool
  turn_meaning e steps = m.turn (direct false) (value_meaning e) (inside_meaning steps)

  -- at most so many turns
  abbrev pub turns_meaning : Tree → ℕ → CodeSteps → Meaning (Unit {0})
  turns_meaning e count steps = m.turns (direct false) (value_meaning e) (inside_meaning steps) count

  -- a loop: a poll where it has the form of one, and else at most so many turns
  abbrev pub loop_meaning : Tree → ℕ → CodeSteps → Meaning (Unit {0})
  loop_meaning e count steps = m.loop_result (direct false) runner.turn_us (calls_of runner depth) (poll_of e steps) e count (steps_meaning steps)

  -- the steps of a control, once or as its `while` and its timeout say
  abbrev pub repeat_meaning : Option Tree → Option ℕ → CodeSteps → Meaning (Unit {0})
  repeat_meaning repeat timeout steps =
      m.repeat_result (direct false) runner.turn_us (calls_of runner depth) repeat timeout steps (steps_meaning steps)

  -- a control: its condition, and then its steps
  abbrev pub control_meaning : Option Tree → Option Tree → Option ℕ → CodeSteps → Meaning (Unit {0})
  control_meaning cond repeat timeout steps =
      m.control_result (direct false) runner.turn_us (calls_of runner depth) cond repeat timeout steps (steps_meaning steps)
