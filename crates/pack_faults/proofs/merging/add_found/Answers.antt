use Rattle.std.proofs.Common.{◌≡◌, ◌∙◌, [], List, Some, option_map, sym, subst}
use Rattle.pack_faults.specs.declared.answer.Found.{Found}
use Rattle.pack_faults.specs.declared.answer.PackFault.{PackFault}
use Rattle.pack_faults.specs.Keys.{found_view, fault_noted_at, KnowsFaultPlaces}
use Rattle.pack_faults.proofs.KeyLemmas.{there_known, place_within, found_there, knows_noted}
use Rattle.pack_faults.proofs.merging.add_found.Goals as goal
use Rattle.pack_faults.proofs.AddedLemmas.{on_ok}

pub note_at-requires : goal.note_at-requires
note_at-requires c =
    let x : Found = record { fault = c.args.fault.now; line = option_map (λ w. w.now) c.args.line } in
    let old = c.args.faults.now.list.items in
    let at = there_known c.args.faults.now.places old c.key_of-key.result x (Some c.in-Some.place) c.requires c.key_of-key.ensures c.in-Some.ensures in
    place_within (found_view x) old c.in-Some.place at

pub returns-in-Some-clause-list : goal.returns-in-Some-clause-list
returns-in-Some-clause-list c =
    let x : Found = record { fault = c.args.fault.now; line = option_map (λ w. w.now) c.args.line } in
    let old = c.args.faults.now.list.items in
    let d : PackFault = record { found = x; sets = [] } in
    let at = there_known c.args.faults.now.places old c.key_of-key.result x (Some c.in-Some.place) c.requires c.key_of-key.ensures c.in-Some.ensures in
    on_ok c.note_at.result ((other : PackFault) → c.note_at.new.list.items ≡ fault_noted_at c.args.number old c.in-Some.place other) _ c.note_at.ensures
    (λ e. e d ∙ sym (found_there c.args.number x old c.in-Some.place d at))

pub returns-in-Some-clause-knows : goal.returns-in-Some-clause-knows
returns-in-Some-clause-knows c =
    let x : Found = record { fault = c.args.fault.now; line = option_map (λ w. w.now) c.args.line } in
    let old = c.args.faults.now.list.items in
    let places = c.args.faults.now.places in
    let d : PackFault = record { found = x; sets = [] } in
    let at = there_known places old c.key_of-key.result x (Some c.in-Some.place) c.requires c.key_of-key.ensures c.in-Some.ensures in
    on_ok c.note_at.result ((other : PackFault) → c.note_at.new.list.items ≡ fault_noted_at c.args.number old c.in-Some.place other) _ c.note_at.ensures
    (λ e. subst (λ (list : List PackFault). KnowsFaultPlaces places list) (sym (e d)) (knows_noted places old c.in-Some.place c.args.number d c.requires (place_within (found_view x) old c.in-Some.place at)))
