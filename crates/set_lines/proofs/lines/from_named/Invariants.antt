use Rattle.std.proofs.Common.{◌≡◌, length}
use Rattle.set_lines.specs.Rests.{from_named}
use Rattle.set_lines.proofs.lines.from_named.Given as goal

abbrev pub invariant-loop-rest : goal.invariant-loop-rest
invariant-loop-rest l = from_named l.name l.rest ≡ from_named l.fn.name l.fn.sequences

abbrev pub decreases-loop-rest : goal.decreases-loop-rest
decreases-loop-rest l = length l.rest
