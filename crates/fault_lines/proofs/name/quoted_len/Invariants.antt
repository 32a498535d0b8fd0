use Rattle.std.proofs.Common.{◌≡◌, ◌++◌, take, drop, false}
use Rattle.fault_lines.specs.Source.{text_before_quote}
use Rattle.fault_lines.proofs.name.quoted_len.Given as goal

abbrev pub invariant-loop-index : goal.invariant-loop-index
invariant-loop-index l = text_before_quote false l.bytes ≡ take l.index l.bytes ++ text_before_quote l.escaped (drop l.index l.bytes)
