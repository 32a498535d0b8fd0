use Rattle.std.proofs.Common.{append_assoc, refl}
use Rattle.packet_words.specs.Commands.{command_words}
use Rattle.register_words.proofs.Chains.{added}
use Rattle.packet_words.proofs.command_words.with_configure.Goals as goal

pub returns : goal.returns
unfolding command_words
returns c = added _ _ _ c.add_labelled-3.ensures (simp (c.in_ok-line.ensures, c.in_ok-line-2.ensures, c.from.ensures, c.from-2.ensures, c.from-3.ensures, append_assoc) refl)
