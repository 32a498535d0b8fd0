use Rattle.std.proofs.Common.{append_assoc, refl}
use Rattle.packet_words.specs.Exchange.{no_packet_line}
use Rattle.register_words.proofs.Chains.{added}
use Rattle.packet_words.proofs.exchange.with_no_packet.Goals as goal

pub returns : goal.returns
unfolding no_packet_line
returns c = added _ _ _ c.text-2.ensures (simp (c.in_ok-add_labelled.ensures, c.in_ok-line.ensures, c.in_ok-with_fault.ensures, append_assoc) refl)
