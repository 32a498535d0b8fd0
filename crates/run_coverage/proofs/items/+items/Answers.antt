use Rattle.std.proofs.Common.{◌++◌, ◌∷◌, [], take}
use Rattle.sequence_trees.specs.Trees.{step_tree, steps_tree}
use Rattle.seq_check.proofs.CallLemmas.{grown}
use Rattle.run_coverage.specs.Items.{step_items, steps_items}
use Rattle.run_coverage.proofs.ItemLemmas.{steps_items_more}
use Rattle.run_coverage.proofs.items.+items.Goals as goal

pub push_steps-loop-number-preserved : goal.push_steps-loop-number-preserved
push_steps-loop-number-preserved t c =
    let name = c.args.sequence.now in
    let path = c.args.path.now in
    let xs = c.args.steps.now in
    let i = c.loop-number.number in
    let x = c.index-steps-number.result in
    grown c.args.items.now c.loop-number.items c.push_step.new.items (steps_items name path 0 (steps_tree (take i xs))) (step_items name (path ++ i ∷ []) (step_tree x)) _
    (rw (c.as_slice.ensures, c.in_ok-inner.ensures) at c.in_ok-push_step.ensures) c.loop-number.invariant
    (rw (← c.index-steps-number.is) at (steps_items_more name path xs i x c.loop-number-test.true))
