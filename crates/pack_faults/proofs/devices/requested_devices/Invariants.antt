use Rattle.std.proofs.Common.{◌≡◌, ◌++◌, drop, map, filter, option_map}
use Rattle.sequence_resolve.specs.Places.{places_in}
use Rattle.sequence_resolve.specs.Views.{place_view}
use Rattle.pack_faults.specs.Sets.{is_device}
use Rattle.pack_faults.proofs.devices.requested_devices.Given as goal

abbrev pub invariant-loop-family : goal.invariant-loop-family
invariant-loop-family l =
    let is = is_device (option_map (λ w. w.now) l.requested) in
    map place_view l.places.items ++ filter is (places_in (drop l.family-index l.family-items)) ≡ filter is (places_in l.families)
