use Rattle.std.proofs.Common.{◌≡◌}
use Rattle.log_lines.specs.LogText.{margin}
use Rattle.log_lines.proofs.lines.begin_line.Given as goal

abbrev pub invariant-loop : goal.invariant-loop
invariant-loop l = l.line ≡ margin l.counter
