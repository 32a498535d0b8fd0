use Rattle.std.proofs.Common.{◌≡◌, ◌++◌, drop}
use Rattle.std.specs.List.{flat_map}
use Rattle.fault_lines.specs.Source.{below}
use Rattle.fault_lines.proofs.source.push_below.Given as goal

abbrev pub invariant-loop-byte : goal.invariant-loop-byte
invariant-loop-byte l = l.text.items ++ flat_map below (drop l.byte-index l.before) ≡ l.fn.text.items ++ flat_map below l.before
