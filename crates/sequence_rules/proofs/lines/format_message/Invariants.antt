use Rattle.std.proofs.Common.{◌≡◌, ◌++◌, length}
use Rattle.sequence_rules.specs.Lines.{formatted_text}
use Rattle.sequence_rules.proofs.lines.format_message.Given as goal

abbrev pub invariant-loop-left : goal.invariant-loop-left
invariant-loop-left l = formatted_text (length l.fn.format) l.fn.format l.fn.numbers ≡ l.out.items ++ formatted_text l.left l.rest l.numbers

abbrev pub decreases-loop-left : goal.decreases-loop-left
decreases-loop-left l = l.left
