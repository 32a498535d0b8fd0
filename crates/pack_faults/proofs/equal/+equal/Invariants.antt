use Rattle.std.proofs.Common.{◌≡◌, ◌+◌, ◌*◌, drop, length}
use Rattle.device_tree.specs.StepTree.{tree_size}
use Rattle.device_tree.specs.StepsView.{steps_view}
use Rattle.sequence_trees.proofs.StepLemmas.{step_weight}
use Rattle.pack_faults.specs.Equal.{all_same, same_step}
use Rattle.pack_faults.proofs.equal.+equal.Given as goal

abbrev pub invariant-same_items-loop-place : goal.invariant-same_items-loop-place
invariant-same_items-loop-place l = record {
  sizes : length l.items ≡ length l.others;
  rest : all_same same_step l.items l.others ≡ all_same same_step (drop l.place l.items) (drop l.place l.others);
}

abbrev pub decreases-same_steps : goal.decreases-same_steps
decreases-same_steps l = 5 * tree_size l.steps.now + 3

abbrev pub decreases-same_items : goal.decreases-same_items
decreases-same_items l = 5 * tree_size (steps_view l.items.now) + 2

abbrev pub decreases-same_step : goal.decreases-same_step
decreases-same_step l = step_weight l.step.now
