-- What the evaluator calls, and how it takes the debug variables one after the other.
use Rattle.std.specs.Prelude.{◌≡◌, ℕ, List, Ok}
use Rattle.dap_base.specs.Outcome.{◌>>=◌}
use Rattle.dap_base.specs.declared.text.Place.{Place}
use Rattle.expr_grammar.specs.declared.code.Name.{Name}
use Rattle.expr_grammar.specs.Tree as t
use Rattle.expr_grammar.specs.Tree.{Tree, ArgTree, ArgTrees, StmtTree, one_number, two_numbers}
use Rattle.target_calls.specs.declared.calls.Value.{Value}
use Rattle.seq_check.specs.Answers.{checked_trees}
use Rattle.sequence_trees.specs.Trees.{SetTrees}
use Rattle.sequence_rules.specs.Late.{Late}
use Rattle.sequence_rules.specs.Machine.{Machine, State, Out}
use Rattle.sequence_rules.specs.Steps.{sequence_at}
use Rattle.sequence_rules.specs.Values.{value, stored_value}
use Rattle.control_flow.specs.declared.runner.Runner.{Runner}

-- the sequences of the runner's set, from which calls lead at most so deep
abbrev pub late_calls_of : Machine Value Late → Runner → ℕ → List ℕ → State Value Late → Out Value Late (Unit {0})
late_calls_of m runner depth name s = sequence_at m runner.turn_us (checked_trees runner.set.now) depth name s

-- an argument is an expression
pub record IsExpressionArgument (arg : ArgTree) (a : Tree) : Type 0 where
  pub at : Place
  pub is : arg ≡ t.ExprArg at a

-- the arguments are one expression
pub record IsOne (args : ArgTrees) (a : Tree) : Type 0 where
  pub at : Place
  pub is : args ≡ one_number at a

-- the arguments are two expressions
pub record AreTwo (args : ArgTrees) (a b : Tree) : Type 0 where
  pub at : Place
  pub later : Place
  pub is : args ≡ two_numbers at a later b

module _ (m : Machine Value Late) (turn_us : ℕ) (set : SetTrees) where
  -- a debug variable gets its value
  abbrev pub late_definition : Name → Tree → State Value Late → Out Value Late (Unit {0})
  late_definition name e s =
      value m (λ n q. sequence_at m turn_us set 0 n q) e s >>= λ x. stored_value m name x.0 x.1 >>= λ y. Ok (tt, y.1)

  -- one statement of the debug variables
  abbrev pub late_debug_statement : StmtTree → State Value Late → Out Value Late (Unit {0})
  late_debug_statement (t.Empty at) s = Ok (tt, s)
  late_debug_statement (t.Declare name e) s = late_definition name e s
  late_debug_statement (t.Plain at e) s = Ok (tt, s)
