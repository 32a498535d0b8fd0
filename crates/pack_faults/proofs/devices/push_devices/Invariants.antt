use Rattle.std.proofs.Common.{◌≡◌, ◌++◌, drop, map, filter, option_map}
use Rattle.sequence_resolve.specs.Places.{places_of}
use Rattle.sequence_resolve.specs.Views.{place_view}
use Rattle.pack_faults.specs.Sets.{is_device}
use Rattle.pack_faults.proofs.devices.push_devices.Given as goal

abbrev pub invariant-loop-device : goal.invariant-loop-device
invariant-loop-device l =
    let sub = option_map (λ s. s.now) l.sub_family in
    let is = is_device (option_map (λ w. w.now) l.requested) in
    map place_view l.places.items ++ filter is (places_of l.family sub (drop l.device-index l.devices)) ≡ map place_view l.fn.places.items ++ filter is (places_of l.family sub l.devices)
