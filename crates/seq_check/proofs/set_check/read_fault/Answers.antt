use Rattle.sequence_trees.specs.SetView.{set_trees}
use Rattle.seq_check.specs.Valid as valid
use Rattle.seq_check.specs.Views.{held_view}
use Rattle.seq_check.proofs.CheckLemmas.{rules_answer, none_holds}
use Rattle.seq_check.proofs.set_check.read_fault.Goals as goal

pub returns-in-Some : goal.returns-in-Some
returns-in-Some c = valid.in_texts (held_view c.in-Some.held) (rw c.in-Some.is at c.in_ok-held.ensures) c.in_ok-named_fault.ensures.kind c.in_ok-named_fault.ensures.spot

pub returns : goal.returns
returns c =
    let set = set_trees c.args.set.now in
    rules_answer set c.call_fault.result (none_holds set (rw c.in_default.is at c.in_ok-held.ensures)) c.call_fault.ensures
