use Rattle.std.proofs.Common.{◌<◌, ◌≤◌, codes, sym, arith}
use Rattle.serde_json.specs.Data.{depth, items_depth}
use Rattle.serde_json.specs.View.{view, items_view}
use Rattle.device_tree.proofs.StepsOpen.{get_below, item_below}
use Rattle.device_tree.proofs.step_reader.+step_reader.Goals as goal

pub inner_of-steps_of-requires : goal.inner_of-steps_of-requires
inner_of-steps_of-requires t c =
    let less : depth (view c.in-Some.member.now) < depth (view c.args.value.now) = get_below (codes "control") _ _ (sym c.in-Some.ensures) in
    (omega (arith, less), tt)

pub items_of-indexed_step_of-requires : goal.items_of-indexed_step_of-requires
items_of-indexed_step_of-requires t c =
    let less : depth (view c.value-item.result) ≤ items_depth (items_view c.args.values.now) = rw c.value-item.is (item_below c.args.values.now c.loop-value.value-index c.value-item.result c.loop-value-test.true) in
    (omega (arith, less), tt)
