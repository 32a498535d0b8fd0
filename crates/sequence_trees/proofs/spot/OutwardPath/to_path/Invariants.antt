use Rattle.std.proofs.Common.{◌≡◌}
use Rattle.sequence_trees.proofs.spot.OutwardPath.to_path.Given as goal

abbrev pub invariant-loop-number : goal.invariant-loop-number
invariant-loop-number l = l.path ≡ l.yielded
