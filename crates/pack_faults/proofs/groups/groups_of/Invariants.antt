use Rattle.std.proofs.Common.{◌≡◌, ◌++◌, drop}
use Rattle.std.specs.List.{flat_map}
use Rattle.sequence_resolve.specs.Places.{places_in}
use Rattle.pack_faults.specs.Shared.{places_in_group}
use Rattle.pack_faults.proofs.groups.groups_of.Given as goal

abbrev pub invariant-loop-family : goal.invariant-loop-family
invariant-loop-family l = flat_map places_in_group l.groups ++ places_in (drop l.family-index l.family-items) ≡ places_in l.families
