use Rattle.std.proofs.Common.{◌≡◌, drop, map}
use Rattle.std.specs.List.{list_any}
use Rattle.sequence_resolve.specs.Views.{place_view}
use Rattle.pack_faults.specs.Sets.{has_variant}
use Rattle.pack_faults.proofs.refusals.is_variant.Given as goal

abbrev pub invariant-loop-place : goal.invariant-loop-place
invariant-loop-place l = list_any (has_variant l.name) (map place_view (drop l.place-index l.places)) ≡ list_any (has_variant l.name) (map place_view l.places)
