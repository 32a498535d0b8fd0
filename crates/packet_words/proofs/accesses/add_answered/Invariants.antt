use Rattle.std.proofs.Common.{◌≡◌, ◌++◌}
use Rattle.packet_words.specs.Accesses.{answered_accesses}
use Rattle.packet_words.proofs.accesses.add_answered.Given as goal

abbrev pub invariant-loop-command : goal.invariant-loop-command
invariant-loop-command l = l.accesses ++ answered_accesses l.known l.left l.bytes ≡ l.fn.accesses ++ answered_accesses l.fn.known l.commands l.fn.bytes
