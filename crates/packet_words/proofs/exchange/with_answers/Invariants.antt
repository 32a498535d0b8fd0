use Rattle.std.proofs.Common.{◌≡◌}
use Rattle.packet_words.specs.Exchange.{after_text, commands_said}
use Rattle.packet_words.proofs.exchange.with_answers.Given as goal

abbrev pub invariant-loop-command : goal.invariant-loop-command
invariant-loop-command l = after_text l.line (commands_said l.known l.left l.bytes) ≡ after_text l.fn.line (commands_said l.fn.known l.commands l.fn.bytes)
