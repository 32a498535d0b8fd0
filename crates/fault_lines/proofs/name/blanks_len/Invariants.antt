use Rattle.std.proofs.Common.{◌≡◌, drop}
use Rattle.fault_lines.specs.Source.{after_blanks}
use Rattle.fault_lines.proofs.name.blanks_len.Given as goal

abbrev pub invariant-loop-index : goal.invariant-loop-index
invariant-loop-index l = after_blanks l.bytes ≡ after_blanks (drop l.index l.bytes)
