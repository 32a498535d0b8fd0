use Rattle.std.proofs.Common.{◌≡◌, ◌++◌, drop, map}
use Rattle.std.specs.Prelude.{filter}
use Rattle.sequence_resolve.specs.Places.{places_in, is_named}
use Rattle.sequence_resolve.specs.Views.{place_view}
use Rattle.sequence_resolve.proofs.place.push_families.Given as goal

abbrev pub invariant-loop-family : goal.invariant-loop-family
invariant-loop-family l =
    map place_view l.places.items ++ filter (is_named l.name) (places_in (drop l.family-index l.families)) ≡ map place_view l.fn.places.items ++ filter (is_named l.name) (places_in l.families)
