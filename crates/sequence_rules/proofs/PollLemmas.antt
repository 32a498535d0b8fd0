-- Which loops are polls.
use Rattle.std.proofs.Common.{◌≡◌, ◌≤◌, List, [], ◌∷◌, length, None, refl, arith}
use Rattle.expr_grammar.specs.declared.code.Arg.{Arg}
use Rattle.expr_grammar.specs.Tree.{Tree, arg_trees}
use Rattle.sequence_trees.specs.declared.steps.CheckedStep.{CheckedStep}
use Rattle.sequence_trees.specs.Trees.{steps_tree}
use Rattle.sequence_rules.specs.Polls.{poll_of, only_arg}

pub only_one : (args : List Arg) → 2 ≤ length args → only_arg (arg_trees args) ≡ None
only_one [] h = absurd (omega arith)
only_one (x ∷ []) h = absurd (omega arith)
only_one (x ∷ y ∷ more) h = refl

pub no_poll : (e : Tree) (steps : List CheckedStep) → 1 ≤ length steps → poll_of e (steps_tree steps) ≡ None
no_poll e [] h = absurd (omega arith)
no_poll e (x ∷ more) h = refl
