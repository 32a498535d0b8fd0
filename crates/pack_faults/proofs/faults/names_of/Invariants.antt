use Rattle.std.proofs.Common.{◌≡◌, map, take}
use Rattle.pack_faults.specs.Sets.{set_name}
use Rattle.pack_faults.specs.Views.{set_view}
use Rattle.pack_faults.proofs.faults.names_of.Given as goal

abbrev pub invariant-loop-at : goal.invariant-loop-at
invariant-loop-at l = l.names ≡ map set_name (map set_view (take l.at-index l.sets))
