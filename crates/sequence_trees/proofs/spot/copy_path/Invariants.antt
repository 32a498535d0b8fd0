use Rattle.std.proofs.Common.{◌≡◌, take}
use Rattle.sequence_trees.proofs.spot.copy_path.Given as goal

abbrev pub invariant-loop-number : goal.invariant-loop-number
invariant-loop-number l = l.copy ≡ take l.number-index l.path
