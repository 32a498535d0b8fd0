use Rattle.std.proofs.Common.{◌≡◌, ◌∙◌, [], List, Some, option_map, sym, subst}
use Rattle.pack_warnings.specs.declared.answer.FoundWarning.{FoundWarning}
use Rattle.pack_warnings.specs.declared.answer.PackWarning.{PackWarning}
use Rattle.pack_warnings.specs.Keys.{warning_found_view, warning_noted_at, KnowsWarningPlaces}
use Rattle.pack_warnings.proofs.KeyLemmas.{there_known, place_within, found_there, knows_noted}
use Rattle.pack_warnings.proofs.merging.add_found.Goals as goal
use Rattle.pack_faults.proofs.AddedLemmas.{on_ok}

pub note_at-requires : goal.note_at-requires
note_at-requires c =
    let x : FoundWarning = record { warning = c.args.warning.now; line = option_map (λ w. w.now) c.args.line } in
    let old = c.args.warnings.now.list.items in
    let at = there_known c.args.warnings.now.places old c.key_of-key.result x (Some c.in-Some.place) c.requires c.key_of-key.ensures c.in-Some.ensures in
    place_within (warning_found_view x) old c.in-Some.place at

pub returns-in-Some-clause-list : goal.returns-in-Some-clause-list
returns-in-Some-clause-list c =
    let x : FoundWarning = record { warning = c.args.warning.now; line = option_map (λ w. w.now) c.args.line } in
    let old = c.args.warnings.now.list.items in
    let d : PackWarning = record { found = x; sets = [] } in
    let at = there_known c.args.warnings.now.places old c.key_of-key.result x (Some c.in-Some.place) c.requires c.key_of-key.ensures c.in-Some.ensures in
    on_ok c.note_at.result ((other : PackWarning) → c.note_at.new.list.items ≡ warning_noted_at c.args.number old c.in-Some.place other) _ c.note_at.ensures
    (λ e. e d ∙ sym (found_there c.args.number x old c.in-Some.place d at))

pub returns-in-Some-clause-knows : goal.returns-in-Some-clause-knows
returns-in-Some-clause-knows c =
    let x : FoundWarning = record { warning = c.args.warning.now; line = option_map (λ w. w.now) c.args.line } in
    let old = c.args.warnings.now.list.items in
    let places = c.args.warnings.now.places in
    let d : PackWarning = record { found = x; sets = [] } in
    let at = there_known places old c.key_of-key.result x (Some c.in-Some.place) c.requires c.key_of-key.ensures c.in-Some.ensures in
    on_ok c.note_at.result ((other : PackWarning) → c.note_at.new.list.items ≡ warning_noted_at c.args.number old c.in-Some.place other) _ c.note_at.ensures
    (λ e. subst (λ (list : List PackWarning). KnowsWarningPlaces places list) (sym (e d)) (knows_noted places old c.in-Some.place c.args.number d c.requires (place_within (warning_found_view x) old c.in-Some.place at)))
