use Rattle.std.proofs.Common.{◌+◌, ◌*◌, take}
use Rattle.device_tree.specs.StepsView.{steps_view}
use Rattle.device_tree.specs.StepTree.{tree_size}
use Rattle.sequence_trees.specs.Trees.{steps_tree}
use Rattle.sequence_trees.specs.Reading.{ReadsSteps}
use Rattle.sequence_trees.proofs.StepLemmas.{step_weight}
use Rattle.sequence_trees.proofs.step_reader.+steps.Given as goal

abbrev pub invariant-items_of-loop-number : goal.invariant-items_of-loop-number
invariant-items_of-loop-number l = ReadsSteps (steps_view (take l.number l.items)) (steps_tree l.checked)

abbrev pub decreases-steps_of : goal.decreases-steps_of
decreases-steps_of l = 5 * tree_size l.steps.now + 3

abbrev pub decreases-items_of : goal.decreases-items_of
decreases-items_of l = 5 * tree_size (steps_view l.items.now) + 2

abbrev pub decreases-numbered_step_of : goal.decreases-numbered_step_of
decreases-numbered_step_of l = step_weight l.step.now + 1

abbrev pub decreases-step_of : goal.decreases-step_of
decreases-step_of l = step_weight l.step.now

abbrev pub decreases-control_of : goal.decreases-control_of
decreases-control_of l = 5 * tree_size l.steps.now + 4
