use Rattle.std.proofs.Common.{take}
use Rattle.sequence_trees.specs.Trees.{step_tree, steps_tree}
use Rattle.seq_check.proofs.CallLemmas.{grown}
use Rattle.run_coverage.specs.Reach.{step_names, steps_names}
use Rattle.run_coverage.proofs.CallLemmas.{steps_names_more}
use Rattle.run_coverage.proofs.calls.+step_names.Goals as goal

pub push_names-loop-step-preserved : goal.push_names-loop-step-preserved
push_names-loop-step-preserved t c =
    let xs = c.args.steps.now in
    let i = c.loop-step.step-index in
    let x = c.step-item.result in
    grown c.args.names.now c.loop-step.names c.push_step.new.names (steps_names (steps_tree (take i xs))) (step_names (step_tree x)) _ c.in_ok-push_step.ensures c.loop-step.invariant
    (rw (← c.step-item.is) at (steps_names_more xs i x c.loop-step-test.true))
