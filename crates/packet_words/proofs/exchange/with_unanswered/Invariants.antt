use Rattle.std.proofs.Common.{◌≡◌, ◌++◌}
use Rattle.packet_words.specs.Exchange.{unanswered_lines}
use Rattle.packet_words.proofs.exchange.with_unanswered.Given as goal

abbrev pub invariant-loop-command : goal.invariant-loop-command
invariant-loop-command l = l.line ++ unanswered_lines l.known l.left ≡ l.fn.line ++ unanswered_lines l.fn.known l.commands
