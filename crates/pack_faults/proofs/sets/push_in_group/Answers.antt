use Rattle.std.proofs.Common.{◌≡◌, ◌∙◌, List, Option, None, true, sym}
use Rattle.sequence_resolve.specs.Levels.{LevelAt, path_of}
use Rattle.sequence_resolve.specs.Views.{place_view}
use Rattle.pack_faults.specs.declared.shared.PnameSet.{PnameSet}
use Rattle.pack_faults.specs.Sets.{device_sets}
use Rattle.pack_faults.specs.Shared.{is_bare, levels_above, IsFineWithShared, AreAdded}
use Rattle.pack_faults.proofs.SharedLemmas.{device_trimmed}
use Rattle.pack_faults.proofs.AddedLemmas.{on_ok, ready_along, added_along}
use Rattle.pack_faults.proofs.sets.push_in_group.Goals as goal

pub push_device-requires : goal.push_device-requires
push_device-requires c =
    let pack = c.args.pack.now in
    let place = place_view c.args.place in
    let above = levels_above pack place.family place.sub_family in
    let bare : is_bare place.device.level ≡ true = sym c.is_bare.ensures ∙ c.if-is_bare.true in
    ready_along pack c.args.request.now above (path_of pack place None) c.args.shared.now c.args.found.now (sym (device_trimmed pack place bare)) c.requires

pub returns-then-is_bare : goal.returns-then-is_bare
returns-then-is_bare c =
    let pack = c.args.pack.now in
    let r = c.args.request.now in
    let place = place_view c.args.place in
    let above = levels_above pack place.family place.sub_family in
    let added = device_sets pack r place in
    let bare : is_bare place.device.level ≡ true = sym c.is_bare.ensures ∙ c.if-is_bare.true in
    on_ok c.push_device.result (AreAdded pack r (path_of pack place None) added c.args.found.now c.push_device.new.shared c.push_device.new.found) _ c.push_device.ensures
    (λ e. added_along pack r (path_of pack place None) above added c.args.found.now c.push_device.new.shared c.push_device.new.found (device_trimmed pack place bare) e)

pub push_own-requires : goal.push_own-requires
push_own-requires c = c.requires.fine

pub returns : goal.returns
returns c =
    let pack = c.args.pack.now in
    let r = c.args.request.now in
    let place = place_view c.args.place in
    let above = levels_above pack place.family place.sub_family in
    on_ok c.push_own.result
    ((levels : List LevelAt) (shared : Option (List PnameSet)) → IsFineWithShared pack r levels shared c.args.found.now → AreAdded pack r levels (device_sets pack r place) c.args.found.now shared c.push_own.new.found)
    _ c.push_own.ensures (λ e. e above c.args.shared.now c.requires)
