use Rattle.std.proofs.Common.{◌≡◌, ◌++◌, drop, map}
use Rattle.std.specs.Prelude.{filter}
use Rattle.sequence_resolve.specs.Places.{places_in_subs, is_named}
use Rattle.sequence_resolve.specs.Views.{place_view}
use Rattle.sequence_resolve.proofs.place.push_subs.Given as goal

abbrev pub invariant-loop-sub : goal.invariant-loop-sub
invariant-loop-sub l =
    map place_view l.places.items ++ filter (is_named l.name) (places_in_subs l.family (drop l.sub-index l.subs)) ≡ map place_view l.fn.places.items ++ filter (is_named l.name) (places_in_subs l.family l.subs)
