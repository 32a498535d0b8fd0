use Rattle.std.proofs.Common.{◌≡◌, map, take}
use Rattle.pack_faults.specs.Lined.{checked_view, checked_of}
use Rattle.pack_faults.proofs.lined.lined_sets.Given as goal

abbrev pub invariant-loop-one : goal.invariant-loop-one
invariant-loop-one l = map checked_view l.sets ≡ map checked_of (take l.one-index l.known)
