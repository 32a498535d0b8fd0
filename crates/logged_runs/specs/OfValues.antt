-- What the parts of an expression come to in the walk of a runner, and what is seen of them.
use Rattle.std.specs.Prelude.{ℕ, false, List, [], ◌∷◌, ◌++◌, Option, nat_eq, if◌then◌else◌}
use Rattle.expr_grammar.specs.Tree.{tree, arg_tree, arg_trees}
use Rattle.expr_grammar.specs.declared.code.Arg.{Arg}
use Rattle.expr_grammar.specs.declared.code.BinaryOp.{BinaryOp}
use Rattle.expr_grammar.specs.declared.code.Expr.{Expr}
use Rattle.expr_grammar.specs.declared.code.Name.{Name}
use Rattle.expr_grammar.specs.declared.code.UnaryOp.{UnaryOp}
use Rattle.function_table.specs.Lookup.{function_named}
use Rattle.function_table.specs.declared.function.Function.{Function}
use Rattle.run_events.specs.Events.{Assigns, events_after}
use Rattle.run_events.specs.OfValues as o
use Rattle.sequence_rules.specs.Direct.{Now, direct}
use Rattle.sequence_rules.specs.Machine.{State, Out}
use Rattle.sequence_rules.specs.Values as v
use Rattle.logged_runs.specs.declared.runner.LoggedRunner.{LoggedRunner}
use Rattle.logged_runs.specs.Seen.{ShownEvents}
use Rattle.logged_runs.specs.Walk.{calls_in_walk, events_in_walk}

-- A runner, and how deep calls may lead from here.
module _ (runner : LoggedRunner) (depth : ℕ) where
  -- an expression comes to its value
  abbrev pub value_in_walk : Expr → State ℕ Now → Out ℕ Now ℕ
  value_in_walk e = v.value (direct false) (calls_in_walk runner depth) (tree e)

  -- what is seen of it
  abbrev pub value_seen : Expr → State ℕ Now → ShownEvents
  value_seen e s = λ shows. o.value_events (calls_in_walk runner depth) (events_in_walk shows runner depth) (tree e) s

  -- what is seen of an expression, and then of what its value leads to
  abbrev pub seen_then : Expr → (ℕ → State ℕ Now → ShownEvents) → State ℕ Now → ShownEvents
  seen_then e next s = λ shows. value_seen e s shows ++ events_after (value_in_walk e s) (λ n r. next n r shows)

  -- ---- operators

  -- an operator before its operand
  abbrev pub unary_in_walk : UnaryOp → Expr → State ℕ Now → Out ℕ Now ℕ
  unary_in_walk op e s = v.of_unary (direct false) op (value_in_walk e s)

  -- an operator of two operands that are both evaluated
  abbrev pub strict_in_walk : BinaryOp → Expr → Expr → State ℕ Now → Out ℕ Now ℕ
  strict_in_walk op left right s = v.strict_binary (direct false) op (value_in_walk left s) (value_in_walk right)

  -- what is seen of it
  abbrev pub strict_seen : Expr → Expr → State ℕ Now → ShownEvents
  strict_seen left right = seen_then left (λ n r. value_seen right r)

  -- both are not 0: the right one counts only where the left one is not 0
  abbrev pub and_in_walk : Expr → Expr → State ℕ Now → Out ℕ Now ℕ
  and_in_walk left right s = v.conjunction (direct false) (value_in_walk left s) (value_in_walk right)

  -- what is seen of it
  abbrev pub and_seen : Expr → Expr → State ℕ Now → ShownEvents
  and_seen left right = seen_then left (λ n r shows. if nat_eq n 0 then [] else value_seen right r shows)

  -- one of them is not 0: the right one counts only where the left one is 0
  abbrev pub or_in_walk : Expr → Expr → State ℕ Now → Out ℕ Now ℕ
  or_in_walk left right s = v.disjunction (direct false) (value_in_walk left s) (value_in_walk right)

  -- what is seen of it
  abbrev pub or_seen : Expr → Expr → State ℕ Now → ShownEvents
  or_seen left right = seen_then left (λ n r shows. if nat_eq n 0 then value_seen right r shows else [])

  -- an operator between its operands
  abbrev pub binary_in_walk : BinaryOp → Expr → Expr → State ℕ Now → Out ℕ Now ℕ
  binary_in_walk op left right s = v.of_binary (direct false) op (value_in_walk left s) (value_in_walk right)

  -- what is seen of it
  abbrev pub binary_seen : BinaryOp → Expr → Expr → State ℕ Now → ShownEvents
  binary_seen op left right = seen_then left (λ n r shows. if o.needs_right op n then value_seen right r shows else [])

  -- one of two, by a condition
  abbrev pub choice_in_walk : Expr → Expr → Expr → State ℕ Now → Out ℕ Now ℕ
  choice_in_walk test first second s = v.choice (direct false) (value_in_walk test s) (value_in_walk first) (value_in_walk second)

  -- what is seen of it
  abbrev pub choice_seen : Expr → Expr → Expr → State ℕ Now → ShownEvents
  choice_seen test first second = seen_then test (λ n r shows. if nat_eq n 0 then value_seen second r shows else value_seen first r shows)

  -- the variable gets the value
  abbrev pub assignment_in_walk : Name → Expr → State ℕ Now → Out ℕ Now ℕ
  assignment_in_walk name e s = v.assigned_value (direct false) name (value_in_walk e s)

  -- what is seen of it
  abbrev pub assigned_seen : Name → Expr → State ℕ Now → ShownEvents
  assigned_seen name e = seen_then e (λ n r shows. Assigns name.text n ∷ [])

  -- ---- calls

  -- an argument, after the values of the earlier ones
  abbrev pub argument_in_walk : Arg → List ℕ → State ℕ Now → Out ℕ Now (List ℕ)
  argument_in_walk a = v.argument (direct false) (calls_in_walk runner depth) (arg_tree a)

  -- what is seen of it
  abbrev pub argument_seen : Arg → State ℕ Now → ShownEvents
  argument_seen a s = λ shows. o.argument_events (calls_in_walk runner depth) (events_in_walk shows runner depth) (arg_tree a) s

  -- a value after others
  abbrev pub appended_in_walk : List ℕ → Expr → State ℕ Now → Out ℕ Now (List ℕ)
  appended_in_walk got e s = v.appended_values (direct false) got (value_in_walk e s)

  -- arguments in order, after the values of the earlier ones
  abbrev pub arguments_in_walk : List Arg → List ℕ → State ℕ Now → Out ℕ Now (List ℕ)
  arguments_in_walk args = v.arguments (direct false) (calls_in_walk runner depth) (arg_trees args)

  -- what is seen of it
  abbrev pub arguments_seen : List Arg → List ℕ → State ℕ Now → ShownEvents
  arguments_seen args got s = λ shows. o.arguments_events (calls_in_walk runner depth) (events_in_walk shows runner depth) (arg_trees args) got s

  -- a function, once its arguments are numbers
  abbrev pub function_in_walk : Option Function → List ℕ → List ℕ → State ℕ Now → Out ℕ Now ℕ
  function_in_walk = v.call_result (direct false) (calls_in_walk runner depth)

  -- what is seen of it
  abbrev pub function_seen : Option Function → List ℕ → List ℕ → State ℕ Now → ShownEvents
  function_seen function text n s = λ shows. o.call_events (calls_in_walk runner depth) (events_in_walk shows runner depth) function text n s

  -- a call: its arguments, and then the function of the name
  abbrev pub call_in_walk : Name → List Arg → State ℕ Now → Out ℕ Now ℕ
  call_in_walk name args s = v.call_of (direct false) (calls_in_walk runner depth) name (arg_trees args) (arguments_in_walk args [] s)

  -- what is seen of it
  abbrev pub call_seen : Name → List Arg → State ℕ Now → ShownEvents
  call_seen name args s = λ shows. arguments_seen args [] s shows
      ++ events_after (arguments_in_walk args [] s) (λ n r. function_seen (function_named name.text) (v.text_of (arg_trees args)) n r shows)

  -- what is seen of a call of the sequence of the name, from its call to its return
  abbrev pub called_seen : List ℕ → State ℕ Now → ShownEvents
  called_seen name s = λ shows. o.called_events (calls_in_walk runner depth) (events_in_walk shows runner depth) name s

  -- what is seen of the sequence of the name itself
  abbrev pub named_seen : List ℕ → State ℕ Now → ShownEvents
  named_seen name s = λ shows. events_in_walk shows runner depth name s
