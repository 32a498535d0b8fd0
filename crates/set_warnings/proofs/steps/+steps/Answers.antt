use Rattle.std.proofs.Common.{◌++◌, ◌∷◌, [], take}
use Rattle.sequence_trees.specs.Trees.{step_tree, steps_tree}
use Rattle.seq_check.proofs.CallLemmas.{grown}
use Rattle.set_warnings.specs.Steps.{step_warnings, steps_warnings}
use Rattle.set_warnings.proofs.WalkLemmas.{steps_warnings_more}
use Rattle.set_warnings.proofs.steps.+steps.Goals as goal

pub add_steps-loop-number-preserved : goal.add_steps-loop-number-preserved
add_steps-loop-number-preserved t c =
    let vars = c.args.vars.now in
    let name = c.args.sequence.now in
    let path = c.args.path.now in
    let xs = c.args.steps.now in
    let i = c.loop-number.number in
    let x = c.index-steps-number.result in
    grown c.args.found.now c.loop-number.found c.add_step.new.found (steps_warnings vars name path 0 (steps_tree (take i xs))) (step_warnings vars name (path ++ i ∷ []) (step_tree x)) _
    (rw (c.as_slice.ensures, c.in_ok-inner.ensures) at c.in_ok-add_step.ensures) c.loop-number.invariant
    (rw (← c.index-steps-number.is) at (steps_warnings_more vars name path xs i x c.loop-number-test.true))
