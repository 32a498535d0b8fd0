use Rattle.std.proofs.Common.{◌≡◌, take}
use Rattle.trace_audit.proofs.reading.list_of.Given as goal

abbrev pub invariant-loop-byte : goal.invariant-loop-byte
invariant-loop-byte l = l.list ≡ take l.byte-index l.bytes
