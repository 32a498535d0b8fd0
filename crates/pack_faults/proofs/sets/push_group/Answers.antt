use Rattle.std.proofs.Common.{◌∷◌, [], cond, filter, take, option_map}
use Rattle.sequence_resolve.specs.Places.{DevicePlace, places_of}
use Rattle.pack_faults.specs.Sets.{is_device}
use Rattle.pack_faults.proofs.AddedLemmas.{counted_as, counted_then, devices_more}
use Rattle.pack_faults.proofs.sets.push_group.Goals as goal

pub push_if_requested-requires : goal.push_if_requested-requires
push_if_requested-requires c = c.loop-device.invariant.ready

pub loop-device-preserved : goal.loop-device-preserved
loop-device-preserved c =
    let pack = c.args.pack.now in
    let r = c.args.request.now in
    let group = c.args.group.now in
    let family = group.family.now in
    let sub = option_map (λ s. s.now) group.sub_family in
    let is = is_device r.device in
    let ds = group.devices.now in
    let i = c.loop-device.device-index in
    let place : DevicePlace = record { family = family; sub_family = sub; device = c.device-item.result } in
    let before = filter is (places_of family sub (take i ds)) in
    let one = cond (is place) (place ∷ []) [] in
    record {
      counted =
          counted_as pack r _ _ c.args.found.now c.push_if_requested.new.found (devices_more is family sub ds i c.device-item.result c.loop-device-test.true c.device-item.is)
          (counted_then pack r before one c.args.found.now c.loop-device.found c.push_if_requested.new.found c.loop-device.invariant.counted c.in_ok-push_if_requested.ensures.counted);
      ready = c.in_ok-push_if_requested.ensures.ready;
    }
