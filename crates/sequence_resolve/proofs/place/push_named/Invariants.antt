use Rattle.std.proofs.Common.{◌≡◌, ◌++◌, drop, map, option_map}
use Rattle.std.specs.Prelude.{filter}
use Rattle.sequence_resolve.specs.Places.{places_of, is_named}
use Rattle.sequence_resolve.specs.Views.{place_view}
use Rattle.sequence_resolve.proofs.place.push_named.Given as goal

abbrev pub invariant-loop-device : goal.invariant-loop-device
invariant-loop-device l =
    let sub = option_map (λ s. s.now) l.sub_family in
    map place_view l.places.items ++ filter (is_named l.name) (places_of l.family sub (drop l.device-index l.devices)) ≡ map place_view l.fn.places.items ++ filter (is_named l.name) (places_of l.family sub l.devices)
