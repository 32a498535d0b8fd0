use Rattle.std.proofs.Common.{◌≡◌, length}
use Rattle.batch_packer.proofs.accesses.AccessList.with_room.Given as goal

abbrev pub invariant-loop : goal.invariant-loop
invariant-loop l = record { count : length l.items.items ≡ l.counter }
