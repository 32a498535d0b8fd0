use Rattle.std.proofs.Common.{append_assoc, refl}
use Rattle.packet_words.specs.Commands.{command_words}
use Rattle.register_words.proofs.Chains.{added}
use Rattle.packet_words.proofs.command_words.with_pin_words.Goals as goal

pub returns : goal.returns
unfolding command_words
returns c = added _ _ _ c.with_pins_outcome.ensures (simp (c.in_ok-line.ensures, c.in_ok-add_labelled.ensures, c.from.ensures, append_assoc) refl)
