use Rattle.std.proofs.Common.{◌≡◌, ◌++◌, drop, map, filter, option_map}
use Rattle.sequence_resolve.specs.Places.{places_in_subs}
use Rattle.sequence_resolve.specs.Views.{place_view}
use Rattle.pack_faults.specs.Sets.{is_device}
use Rattle.pack_faults.proofs.devices.push_subs.Given as goal

abbrev pub invariant-loop-sub : goal.invariant-loop-sub
invariant-loop-sub l =
    let is = is_device (option_map (λ w. w.now) l.requested) in
    map place_view l.places.items ++ filter is (places_in_subs l.family (drop l.sub-index l.subs)) ≡ map place_view l.fn.places.items ++ filter is (places_in_subs l.family l.subs)
