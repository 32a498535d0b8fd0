-- How a run starts, as its code takes it step by step.
use Rattle.std.specs.Prelude.{ℕ, false, Ok}
use Rattle.dap_base.specs.Outcome.{◌>>=◌}
use Rattle.expr_grammar.specs.declared.code.Name.{Name}
use Rattle.expr_grammar.specs.Tree as t
use Rattle.expr_grammar.specs.Tree.{Tree, StmtTree}
use Rattle.sequence_trees.specs.Trees.{SetTrees}
use Rattle.sequence_rules.specs.Direct.{Now, direct}
use Rattle.sequence_rules.specs.Machine.{State, Out}
use Rattle.sequence_rules.specs.Steps.{sequence_at}
use Rattle.sequence_rules.specs.Values.{value, stored_value}

module _ (turn_us : ℕ) (set : SetTrees) where
  -- a debug variable gets its value
  abbrev pub defined_variable : Name → Tree → State ℕ Now → Out ℕ Now (Unit {0})
  defined_variable name e s =
      value (direct false) (λ n q. sequence_at (direct false) turn_us set 0 n q) e s
      >>= λ x. stored_value (direct false) name x.0 x.1 >>= λ y. Ok (tt, y.1)

  -- one statement of the debug variables
  abbrev pub debugged_one : StmtTree → State ℕ Now → Out ℕ Now (Unit {0})
  debugged_one (t.Empty at) s = Ok (tt, s)
  debugged_one (t.Declare name e) s = defined_variable name e s
  debugged_one (t.Plain at e) s = Ok (tt, s)
