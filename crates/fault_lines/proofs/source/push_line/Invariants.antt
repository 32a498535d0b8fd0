use Rattle.std.proofs.Common.{◌≡◌, ◌++◌, drop, map}
use Rattle.fault_lines.specs.Source.{line_byte}
use Rattle.fault_lines.proofs.source.push_line.Given as goal

abbrev pub invariant-loop-byte : goal.invariant-loop-byte
invariant-loop-byte l = l.text.items ++ map line_byte (drop l.byte-index l.line) ≡ l.fn.text.items ++ map line_byte l.line
