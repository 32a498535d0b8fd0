use Rattle.std.proofs.Common.{None}
use Rattle.sequence_resolve.specs.Levels.{path_of}
use Rattle.sequence_resolve.specs.Views.{place_view}
use Rattle.pack_faults.specs.Sets.{device_sets}
use Rattle.pack_faults.specs.Shared.{AreAdded}
use Rattle.pack_faults.proofs.AddedLemmas.{on_ok, added_apart}
use Rattle.pack_faults.proofs.sets.push_own.Goals as goal

pub push_device-requires : goal.push_device-requires
push_device-requires c = record { fine = c.requires; along = tt }

pub returns : goal.returns
returns c =
    let pack = c.args.pack.now in
    let r = c.args.request.now in
    let place = place_view c.args.place in
    let own = path_of pack place None in
    let old = c.args.found.now in
    let new = c.push_device.new.found in
    on_ok c.push_device.result (AreAdded pack r own (device_sets pack r place) old c.push_device.new.shared new) _ c.push_device.ensures
    (λ e levels shared ready. added_apart pack r own levels (device_sets pack r place) old c.push_device.new.shared shared new ready e)
