use Rattle.std.proofs.Common.{◌∙◌, ap, refl}
use Rattle.std.proofs.lemmas.Option.{slice_get-get_or}
use Rattle.access_calls.specs.Numbers.{attempted_by}
use Rattle.access_calls.proofs.IssuedLemmas.{kept_numbers, unit_within, what_is}
use Rattle.access_calls.proofs.issued.stop_report.Goals as goal

pub returns-clause-numbers : goal.returns-clause-numbers
returns-clause-numbers c = λ all are.
    let there = slice_get-get_or c.args.entries.now c.args.confirmed _ c.requires.named in
    kept_numbers all c.args.entries.now c.args.calls.now _ _ _ _ are there refl
    (c.attempted_by.ensures ∙ ap (attempted_by c.args.cause _) c.count_attempted.ensures) c.count_skipped.ensures c.lines_before.ensures
    (what_is c.args.calls.now _ _ (unit_within c.args.entries.now c.args.calls.now c.args.confirmed _ there c.requires.unit))
