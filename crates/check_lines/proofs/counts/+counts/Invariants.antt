use Rattle.std.proofs.Common.{◌+◌, ◌*◌, take}
use Rattle.device_tree.specs.StepsView.{steps_view}
use Rattle.device_tree.specs.StepTree.{tree_size}
use Rattle.check_lines.specs.Counts.{AreCounts}
use Rattle.check_lines.proofs.StepWeights.{step_weight}
use Rattle.check_lines.proofs.counts.+counts.Given as goal

abbrev pub invariant-counts_in-loop-item : goal.invariant-counts_in-loop-item
invariant-counts_in-loop-item l = AreCounts (steps_view (take l.item-index l.items)) l.counts

abbrev pub decreases-counts_of : goal.decreases-counts_of
decreases-counts_of l = 3 * tree_size l.steps.now + 2

abbrev pub decreases-counts_in : goal.decreases-counts_in
decreases-counts_in l = 3 * tree_size (steps_view l.items.now) + 1

abbrev pub decreases-step_counts : goal.decreases-step_counts
decreases-step_counts l = step_weight l.step.now
