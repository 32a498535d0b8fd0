use Rattle.std.proofs.Common.{◌≡◌, take, filter, map}
use Rattle.std.specs.Prelude.{count_by}
use Rattle.std.specs.List.{flat_map}
use Rattle.pack_faults.specs.Sets.{is_device, devices_sets, has_set}
use Rattle.pack_faults.specs.Shared.{places_in_group, AreFine}
use Rattle.pack_faults.specs.Views.{set_view}
use Rattle.pack_faults.proofs.sets.sets_of_groups.Given as goal

abbrev pub invariant-loop-group : goal.invariant-loop-group
invariant-loop-group l =
    let places = filter (is_device l.request.device) (flat_map places_in_group (take l.group-index l.groups)) in
    record {
      sets : map set_view l.found.sets ≡ devices_sets l.pack l.request places;
      devices : l.found.devices ≡ count_by (has_set l.pack l.request) places;
      fine : AreFine l.pack l.found;
    }
