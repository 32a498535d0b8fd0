use Rattle.std.proofs.Common.{◌≡◌}
use Rattle.pack_faults.proofs.merging.list_of.Given as goal

abbrev pub invariant-loop-fault : goal.invariant-loop-fault
invariant-loop-fault l = l.list ≡ l.yielded
