use Rattle.std.proofs.Common.{◌∙◌, map, length, ap}
use Rattle.pack_faults.specs.Lined.{lined_view, checked_view}
use Rattle.pack_faults.specs.Steps.{with_each}
use Rattle.pack_faults.proofs.AnswerLemmas.{done_one}
use Rattle.pack_faults.proofs.checking.note.Goals as goal

pub returns-clause-ok : goal.returns-clause-ok
returns-clause-ok c = λ pack sets s is done. (
    let found = c.args.found.now in
    let old = c.args.checking.now in
    done_one pack sets s (checked_view found) old _ done is c.in_ok-push.ensures.ok
    (c.in_ok-add_faults.ensures.list ∙ ap (λ n. with_each n (map lined_view c.as_slice.result.now) old.faults.list.items) c.len-number.ensures
    ∙ ap (λ fs. with_each (length old.phases) (map lined_view fs) old.faults.list.items) c.as_slice.ensures))
