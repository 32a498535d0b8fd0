use Rattle.std.proofs.Common.{◌*◌, ◌≤◌, option_map, arith}
use Rattle.std.proofs.lemmas.Result.{err_from_is_err_and}
use Rattle.device_tree.specs.StepTree.{tree_size}
use Rattle.device_tree.specs.StepsView.{steps_view}
use Rattle.expr_grammar.specs.Tree.{tree}
use Rattle.sequence_trees.specs.Order.{steps_texts}
use Rattle.sequence_trees.specs.Outcomes.{step_texts}
use Rattle.sequence_trees.proofs.StepLemmas.{step_weight, weight_below, one_more, fault_at, fault_under, fault_repeat, fault_inner}
use Rattle.sequence_trees.proofs.step_reader.+steps.Goals as goal

pub control_of-returns-in_err-repeat : goal.control_of-returns-in_err-repeat
control_of-returns-in_err-repeat t c =
    let p = err_from_is_err_and c.from_residual-in_err-repeat.result c.from_residual-in_err-repeat.ensures.1 in
    rw (p.1, p.2) (fault_repeat c.args.cond.now c.args.repeat.now (steps_texts 0 c.args.steps.now) c.in_err-repeat.field-0.0 (option_map tree c.in_ok-cond.cond) c.in_ok-cond.ensures c.in_err-repeat.ensures)

pub control_of-returns-in_err-inner : goal.control_of-returns-in_err-inner
control_of-returns-in_err-inner t c =
    let p = err_from_is_err_and c.from_residual-in_err-inner.result c.from_residual-in_err-inner.ensures.1 in
    rw (p.1, p.2)
    (fault_inner c.args.cond.now c.args.repeat.now (steps_texts 0 c.args.steps.now) c.in_err-inner.field-0.0 (option_map tree c.in_ok-cond.cond) (option_map tree c.in_ok-repeat.repeat) c.in_ok-cond.ensures c.in_ok-repeat.ensures c.in_err-inner.ensures)

pub items_of-numbered_step_of-requires : goal.items_of-numbered_step_of-requires
items_of-numbered_step_of-requires t c =
    let s = c.index-items-number.result in
    let less : step_weight s ≤ 5 * tree_size (steps_view c.args.items.now) = rw c.index-items-number.is (weight_below c.args.items.now c.loop-number.number s c.loop-number-test.true) in
    (omega (arith, less), tt)

pub items_of-returns-in_err-step : goal.items_of-returns-in_err-step
items_of-returns-in_err-step t c =
    let p = err_from_is_err_and c.from_residual.result c.from_residual.ensures.1 in
    rw (p.1, p.2)
    (fault_at c.args.items.now c.loop-number.number c.index-items-number.result c.loop-number.checked c.in_err-step.field-0.0 c.loop-number-test.true c.index-items-number.is c.loop-number.invariant c.in_err-step.ensures)

pub items_of-loop-number-preserved : goal.items_of-loop-number-preserved
items_of-loop-number-preserved t c =
    rw c.in_ok-push.ensures.ok
    (one_more c.args.items.now c.loop-number.number c.index-items-number.result c.loop-number.checked c.in_ok-step.step c.loop-number-test.true c.index-items-number.is c.loop-number.invariant c.in_ok-step.ensures)

pub numbered_step_of-returns-in-Err : goal.numbered_step_of-returns-in-Err
numbered_step_of-returns-in-Err t c =
    fault_under c.args.number (step_texts c.args.step.now) c.in-Err.fault c.fault_under.result c.in-Err.ensures c.fault_under.ensures

pub step_of-returns-in-Block : goal.step_of-returns-in-Block
step_of-returns-in-Block t c = rw c.in-Block.is c.block_of.ensures

pub step_of-returns-in-Control : goal.step_of-returns-in-Control
step_of-returns-in-Control t c = rw c.in-Control.is c.control_of.ensures
