use Rattle.std.proofs.Common.{◌∙◌, ◌*◌, ◌≤◌, ap, arith}
use Rattle.device_tree.specs.StepTree.{tree_size}
use Rattle.device_tree.specs.StepsView.{steps_view}
use Rattle.sequence_trees.proofs.StepLemmas.{step_weight, weight_below}
use Rattle.pack_faults.specs.Equal.{same_steps}
use Rattle.pack_faults.proofs.EqualLemmas.{same_items}
use Rattle.pack_faults.proofs.equal.+equal.Goals as goal

pub same_items-same_step-requires : goal.same_items-same_step-requires
same_items-same_step-requires t c =
    let s = c.index-items-place.result in
    let less : step_weight s ≤ 5 * tree_size (steps_view c.args.items.now) = rw c.index-items-place.is (weight_below c.args.items.now c.loop-place.place s c.loop-place-test.true) in
    (omega (arith, less), tt)

pub same_steps-returns : goal.same_steps-returns
same_steps-returns t c =
    c.same_items.ensures ∙ same_items c.as_slice.result.now c.as_slice-2.result.now
    ∙ ap (λ s. same_steps s (steps_view c.as_slice-2.result.now)) c.as_slice.ensures ∙ ap (same_steps c.args.steps.now) c.as_slice-2.ensures
