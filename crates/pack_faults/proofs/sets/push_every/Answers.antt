use Rattle.std.proofs.Common.{Some, None, map, filter}
use Rattle.sequence_resolve.specs.Levels.{path_of}
use Rattle.sequence_resolve.specs.Views.{place_view}
use Rattle.pack_faults.specs.Sets.{is_requested, sets_at, sets_with}
use Rattle.pack_faults.specs.Shared.{AreAdded}
use Rattle.pack_faults.proofs.AddedLemmas.{on_ok, added_as, added_then, every_variant}
use Rattle.pack_faults.proofs.sets.push_every.Goals as goal

pub push_variants-requires : goal.push_variants-requires
push_variants-requires c = c.in_ok-push_sets.ensures.ready

pub returns : goal.returns
returns c =
    let pack = c.args.pack.now in
    let r = c.args.request.now in
    let place = place_view c.args.place in
    let levels = path_of pack place None in
    let rest = sets_with pack r place (map (λ v. Some v) (filter (λ v. is_requested r.variant v.name) place.device.variants)) in
    let mid = c.push_sets.new.found in
    let new = c.push_variants.new.found in
    on_ok c.push_variants.result (AreAdded pack r levels rest mid c.push_variants.new.shared new) _ c.push_variants.ensures
    (λ e. added_as pack r levels _ _ c.args.found.now c.push_variants.new.shared new (every_variant pack r place c.requires.all)
    (added_then pack r levels (sets_at pack r place None) rest c.args.found.now mid new c.push_sets.new.shared c.push_variants.new.shared c.in_ok-push_sets.ensures e))
