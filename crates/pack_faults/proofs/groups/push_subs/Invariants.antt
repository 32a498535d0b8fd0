use Rattle.std.proofs.Common.{◌≡◌, ◌++◌, drop}
use Rattle.std.specs.List.{flat_map}
use Rattle.sequence_resolve.specs.Places.{places_in_subs}
use Rattle.pack_faults.specs.Shared.{places_in_group}
use Rattle.pack_faults.proofs.groups.push_subs.Given as goal

abbrev pub invariant-loop-sub : goal.invariant-loop-sub
invariant-loop-sub l =
    flat_map places_in_group l.groups ++ places_in_subs l.family (drop l.sub-index l.subs) ≡ flat_map places_in_group l.fn.groups ++ places_in_subs l.family l.subs
