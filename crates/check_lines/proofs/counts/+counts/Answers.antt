use Rattle.std.proofs.Common.{◌*◌, ◌≤◌, arith}
use Rattle.device_tree.specs.StepTree.{tree_size}
use Rattle.device_tree.specs.StepsView.{steps_view}
use Rattle.check_lines.proofs.CountLemmas.{counts_more}
use Rattle.check_lines.proofs.StepWeights.{step_weight, weight_below}
use Rattle.check_lines.proofs.counts.+counts.Goals as goal

pub counts_in-step_counts-requires : goal.counts_in-step_counts-requires
counts_in-step_counts-requires t c =
    let less : step_weight c.item-item.result ≤ 3 * tree_size (steps_view c.args.items.now) = rw c.item-item.is (weight_below c.args.items.now c.loop-item.item-index c.item-item.result c.loop-item-test.true) in
    (omega (arith, less), tt)

pub counts_in-loop-item-preserved : goal.counts_in-loop-item-preserved
counts_in-loop-item-preserved t c =
    counts_more c.args.items.now c.loop-item.item-index c.item-item.result c.loop-item.counts c.in_ok-more.more _ c.loop-item-test.true c.item-item.is c.loop-item.invariant c.in_ok-more.ensures c.in_ok-counts.ensures
