use Rattle.std.proofs.Common.{Some, None, map, filter}
use Rattle.sequence_resolve.specs.Levels.{path_of}
use Rattle.sequence_resolve.specs.Views.{place_view}
use Rattle.pack_faults.specs.Sets.{is_requested, sets_with}
use Rattle.pack_faults.specs.Shared.{AreAdded}
use Rattle.pack_faults.proofs.AddedLemmas.{on_ok, added_as, one_variant}
use Rattle.pack_faults.proofs.sets.push_device.Goals as goal

pub returns-in-Some : goal.returns-in-Some
returns-in-Some c =
    let pack = c.args.pack.now in
    let r = c.args.request.now in
    let place = place_view c.args.place in
    let levels = path_of pack place None in
    let rest = sets_with pack r place (map (λ v. Some v) (filter (λ v. is_requested r.variant v.name) place.device.variants)) in
    let new = c.push_variants.new.found in
    on_ok c.push_variants.result (AreAdded pack r levels rest c.args.found.now c.push_variants.new.shared new) _ c.push_variants.ensures
    (λ e. added_as pack r levels rest _ c.args.found.now c.push_variants.new.shared new (one_variant pack r place _ c.in-Some.is) e)
