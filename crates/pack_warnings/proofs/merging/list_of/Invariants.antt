use Rattle.std.proofs.Common.{◌≡◌}
use Rattle.pack_warnings.proofs.merging.list_of.Given as goal

abbrev pub invariant-loop-warning : goal.invariant-loop-warning
invariant-loop-warning l = l.list ≡ l.yielded
