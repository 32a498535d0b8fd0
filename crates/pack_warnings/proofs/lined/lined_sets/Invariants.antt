use Rattle.std.proofs.Common.{◌≡◌, map, take}
use Rattle.pack_warnings.specs.Lined.{lined_set_view, found_of}
use Rattle.pack_warnings.proofs.lined.lined_sets.Given as goal

abbrev pub invariant-loop-one : goal.invariant-loop-one
invariant-loop-one l = map lined_set_view l.sets ≡ map found_of (take l.one-index l.warned)
