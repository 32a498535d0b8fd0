use Rattle.std.proofs.Common.{◌*◌, ◌≤◌, arith}
use Rattle.std.proofs.lemmas.Result.{on_ok_weaker}
use Rattle.device_tree.specs.StepTree.{tree_size}
use Rattle.device_tree.specs.StepsView.{steps_view}
use Rattle.sequence_trees.specs.declared.spot.Part.TheVariants as parts
use Rattle.sequence_trees.specs.Order.{steps_texts}
use Rattle.sequence_trees.proofs.StepLemmas.{step_weight, weight_below}
use Rattle.set_faults.specs.Sites.{site_step}
use Rattle.set_faults.proofs.TextLemmas.{added_own, added_control, added_step}
use Rattle.set_faults.proofs.texts.+steps.Goals as goal

pub add_step-returns-in_ok-code_fault-in-Block : goal.add_step-returns-in_ok-code_fault-in-Block
add_step-returns-in_ok-code_fault-in-Block t c =
    let a = c.in-Block in
    rw a.is (on_ok_weaker c.add_syntax.result (added_own (site_step c.args.site) parts.Block a.code c.in_ok-code_fault-in-Block.field-0 c.args.found.now c.add_syntax.new.found c.in_ok-code_fault-in-Block.ensures) c.add_syntax.ensures)

pub add_step-returns-in_ok-add_condition-in-Control-2 : goal.add_step-returns-in_ok-add_condition-in-Control-2
add_step-returns-in_ok-add_condition-in-Control-2 t c =
    let a = c.in-Control in
    rw a.is (on_ok_weaker c.add_steps.result
    (added_control (site_step c.args.site) a.cond a.repeat (steps_texts 0 a.steps) c.args.found.now c.add_condition.new.found c.add_condition-in-Control.new.found c.add_steps.new.found c.in_ok-add_condition-in-Control.ensures c.in_ok-add_condition-in-Control-2.ensures)
    c.add_steps.ensures)

pub add_items-add_step-requires : goal.add_items-add_step-requires
add_items-add_step-requires t c =
    let s = c.index-items-number.result in
    let less : step_weight s ≤ 5 * tree_size (steps_view c.args.items.now) = rw c.index-items-number.is (weight_below c.args.items.now c.loop-number.number s c.loop-number-test.true) in
    (omega (arith, less), tt)

pub add_items-loop-number-preserved : goal.add_items-loop-number-preserved
add_items-loop-number-preserved t c =
    added_step (site_step c.args.site) c.args.items.now c.loop-number.number c.index-items-number.result c.args.found.now c.loop-number.found c.add_step.new.found c.loop-number-test.true c.index-items-number.is c.loop-number.invariant
    (rw (c.as_slice.ensures, c.in_ok-path.ensures) at c.in_ok-add_step.ensures)
