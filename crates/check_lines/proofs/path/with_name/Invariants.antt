use Rattle.std.proofs.Common.{◌≡◌, ◌++◌, drop}
use Rattle.std.specs.List.{flat_map}
use Rattle.text_lines.specs.Shown.{shown_text}
use Rattle.check_lines.specs.PathText.{escaped_byte}
use Rattle.check_lines.proofs.path.with_name.Given as goal

abbrev pub invariant-loop-byte : goal.invariant-loop-byte
invariant-loop-byte l = l.line ++ shown_text (flat_map escaped_byte (drop l.byte-index l.name)) ≡ l.fn.line ++ shown_text (flat_map escaped_byte l.name)
