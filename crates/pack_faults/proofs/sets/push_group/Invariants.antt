use Rattle.std.proofs.Common.{take, filter, option_map}
use Rattle.sequence_resolve.specs.Places.{places_of}
use Rattle.pack_faults.specs.Sets.{is_device}
use Rattle.pack_faults.specs.Shared.{levels_above, IsFineWithShared, DevicesAreCounted}
use Rattle.pack_faults.proofs.sets.push_group.Given as goal

abbrev pub invariant-loop-device : goal.invariant-loop-device
invariant-loop-device l =
    let family = l.group.family.now in
    let sub = option_map (λ s. s.now) l.group.sub_family in
    record {
      counted : DevicesAreCounted l.pack l.request (filter (is_device l.request.device) (places_of family sub (take l.device-index l.group.devices.now))) l.fn.found l.found;
      ready : IsFineWithShared l.pack l.request (levels_above l.pack family sub) l.shared l.found;
    }
