use Rattle.std.proofs.Common.{map}
use Rattle.sequence_trees.specs.Trees.{steps_tree}
use Rattle.sequence_trees.specs.SetView.{set_trees}
use Rattle.seq_check.specs.SetFaults.{names_of}
use Rattle.seq_check.specs.Calls.{sequence_calls, set_calls}
use Rattle.seq_check.proofs.CheckLemmas.{calls_more}
use Rattle.seq_check.proofs.set_calls.set_calls.Goals as goal

pub loop-index-preserved : goal.loop-index-preserved
loop-index-preserved c =
    let set = set_trees c.args.set.now in
    calls_more (sequence_calls (names_of set)) c.loop-index.calls c.push.new.self (map (λ s. s.steps) set.sequences) c.loop-index.index (steps_tree c.steps_of-steps.result.now) c.in_ok-calls_of.field-0 (set_calls set)
    c.steps_of-steps.ensures (rw (c.as_slice.ensures, c.requires) at c.in_ok-calls_of.ensures) c.in_ok-push.ensures.ok c.loop-index.invariant
