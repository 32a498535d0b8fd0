use Rattle.std.proofs.Common.{◌≡◌}
use denote.Shadow.{shadow}
use denote.Text.{Utf8}
use Rattle.set_lines.specs.Rests.{rest_after}
use Rattle.set_lines.proofs.lines.rest_after.Given as goal

abbrev pub invariant-loop-left : goal.invariant-loop-left
invariant-loop-left l = (rest_after l.left l.rest ≡ rest_after l.fn.line_feeds l.fn.text) × shadow (Utf8 l.rest)

abbrev pub decreases-loop-left : goal.decreases-loop-left
decreases-loop-left l = l.left
