use Rattle.std.proofs.Common.{◌+◌, ◌*◌, map, take}
use Rattle.device_tree.specs.StepsView.{steps_view}
use Rattle.device_tree.specs.StepTree.{tree_size}
use Rattle.sequence_trees.specs.Order.{moved_text, steps_texts}
use Rattle.sequence_trees.proofs.StepLemmas.{step_weight}
use Rattle.set_faults.specs.Sites.{site_step}
use Rattle.set_faults.specs.Syntax.{AddsFaultsOf, inside}
use Rattle.set_faults.proofs.texts.+steps.Given as goal

abbrev pub invariant-add_items-loop-number : goal.invariant-add_items-loop-number
invariant-add_items-loop-number l = AddsFaultsOf (map (moved_text (inside (site_step l.site))) (steps_texts 0 (steps_view (take l.number l.items)))) l.fn.found l.found

abbrev pub decreases-add_steps : goal.decreases-add_steps
decreases-add_steps l = 5 * tree_size l.steps.now + 3

abbrev pub decreases-add_items : goal.decreases-add_items
decreases-add_items l = 5 * tree_size (steps_view l.items.now) + 2

abbrev pub decreases-add_step : goal.decreases-add_step
decreases-add_step l = step_weight l.step.now
