use Rattle.std.proofs.Common.{[], Some, None, cond, map, filter, take}
use Rattle.sequence_resolve.specs.Levels.{path_of}
use Rattle.sequence_resolve.specs.Views.{place_view}
use Rattle.device_tree.specs.declared.pack.Variant.{Variant}
use Rattle.pack_faults.specs.Sets.{is_requested, sets_at, sets_with}
use Rattle.pack_faults.proofs.AddedLemmas.{added_as, added_then, variants_more}
use Rattle.pack_faults.proofs.sets.push_variants.Goals as goal

pub push_requested-requires : goal.push_requested-requires
push_requested-requires c = c.loop-variant.invariant.ready

pub loop-variant-preserved : goal.loop-variant-preserved
loop-variant-preserved c =
    let pack = c.args.pack.now in
    let r = c.args.request.now in
    let place = place_view c.args.place in
    let levels = path_of pack place None in
    let is = λ (v : Variant). is_requested r.variant v.name in
    let vs = c.as_slice-variant-items.result.now in
    let i = c.loop-variant.variant-index in
    let v = c.variant-item.result in
    let before = sets_with pack r place (map (λ v. Some v) (filter is (take i vs))) in
    let one = cond (is v) (sets_at pack r place (Some v)) [] in
    let old = c.args.found.now in
    let new = c.push_requested.new.found in
    added_as pack r levels _ _ old c.push_requested.new.shared new (variants_more pack r place is vs i v c.loop-variant-test.true c.variant-item.is)
    (added_then pack r levels before one old c.loop-variant.found new c.loop-variant.shared c.push_requested.new.shared c.loop-variant.invariant c.in_ok-push_requested.ensures)
