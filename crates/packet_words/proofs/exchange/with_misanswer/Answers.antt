use Rattle.std.proofs.Common.{append_assoc, refl}
use Rattle.packet_words.specs.Exchange.{misanswer_line}
use Rattle.register_words.proofs.Chains.{added}
use Rattle.packet_words.proofs.exchange.with_misanswer.Goals as goal

pub returns : goal.returns
unfolding misanswer_line
returns c = added _ _ _ c.text-3.ensures (simp (c.in_ok-text.ensures, c.in_ok-with_fault.ensures, c.in_ok-line.ensures, c.in_ok-with_digits.ensures, append_assoc) refl)
