use Rattle.std.proofs.Common.{◌++◌, ◌∷◌, [], take}
use Rattle.sequence_trees.specs.Trees.{step_tree, steps_tree}
use Rattle.seq_check.specs.Calls.{step_calls, steps_calls}
use Rattle.seq_check.proofs.CallLemmas.{grown, steps_calls_more}
use Rattle.seq_check.proofs.step_calls.+step_calls.Goals as goal

pub push_steps-loop-number-preserved : goal.push_steps-loop-number-preserved
push_steps-loop-number-preserved t c =
    let names = c.args.names.now in
    let path = c.args.path.now in
    let xs = c.args.steps.now in
    let i = c.loop-number.number in
    let x = c.index-steps-number.result in
    grown c.args.calls.now c.loop-number.calls c.push_step.new.calls (steps_calls names path 0 (steps_tree (take i xs))) (step_calls names (path ++ i ∷ []) (step_tree x)) _
    c.in_ok-push_step.ensures c.loop-number.invariant
    (rw (← c.index-steps-number.is) at (steps_calls_more names path xs i x c.loop-number-test.true))
