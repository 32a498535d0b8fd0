use Rattle.std.proofs.Common.{take, map, filter, Some, None}
use Rattle.sequence_resolve.specs.Levels.{path_of}
use Rattle.sequence_resolve.specs.Views.{place_view}
use Rattle.pack_faults.specs.Sets.{is_requested, sets_with}
use Rattle.pack_faults.specs.Shared.{AreAdded}
use Rattle.pack_faults.proofs.sets.push_variants.Given as goal

abbrev pub invariant-loop-variant : goal.invariant-loop-variant
invariant-loop-variant l =
    AreAdded l.pack l.request (path_of l.pack (place_view l.place) None)
    (sets_with l.pack l.request (place_view l.place) (map (λ v. Some v) (filter (λ v. is_requested l.request.variant v.name) (take l.variant-index l.variant-items))))
    l.fn.found l.shared l.found
