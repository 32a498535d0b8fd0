use Rattle.std.proofs.Common.{◌≡◌, ◌++◌, take}
use Rattle.sequence_trees.specs.Trees.{steps_tree}
use Rattle.run_coverage.specs.Items.{steps_items}
use Rattle.run_coverage.proofs.items.+items.Given as goal

abbrev pub invariant-push_steps-loop-number : goal.invariant-push_steps-loop-number
invariant-push_steps-loop-number l = l.items ≡ l.fn.items ++ steps_items l.sequence l.path 0 (steps_tree (take l.number l.steps))
