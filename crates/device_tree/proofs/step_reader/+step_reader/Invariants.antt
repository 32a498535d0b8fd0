use Rattle.std.proofs.Common.{◌≡◌, ◌+◌, ◌*◌, drop}
use Rattle.serde_json.specs.Data.{depth, items_depth}
use Rattle.serde_json.specs.View.{view, items_view}
use Rattle.device_tree.specs.StepTree.{no_steps}
use Rattle.device_tree.specs.StepsReading.{items_in}
use Rattle.device_tree.proofs.step_reader.+step_reader.Given as goal

abbrev pub decreases-steps_of : goal.decreases-steps_of
decreases-steps_of l = 5 * depth (view l.value.now) + 2

abbrev pub decreases-items_of : goal.decreases-items_of
decreases-items_of l = 5 * items_depth (items_view l.values.now) + 5

abbrev pub decreases-indexed_step_of : goal.decreases-indexed_step_of
decreases-indexed_step_of l = 5 * depth (view l.value.now) + 4

abbrev pub decreases-step_of : goal.decreases-step_of
decreases-step_of l = 5 * depth (view l.value.now) + 3

abbrev pub decreases-inner_of : goal.decreases-inner_of
decreases-inner_of l = 5 * depth (view l.value.now)

abbrev pub invariant-items_of-loop-value : goal.invariant-items_of-loop-value
invariant-items_of-loop-value l = items_in l.steps (items_view (drop l.value-index l.values)) ≡ items_in no_steps (items_view l.values)

abbrev pub decreases-control_step_of : goal.decreases-control_step_of
decreases-control_step_of l = 5 * depth (view l.value.now) + 1
