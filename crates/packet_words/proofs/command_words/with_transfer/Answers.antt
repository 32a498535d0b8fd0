use Rattle.std.proofs.Common.{refl}
use Rattle.packet_words.specs.Commands.{command_words}
use Rattle.register_words.proofs.Chains.{added}
use Rattle.packet_words.proofs.command_words.with_transfer.Goals as goal

pub returns : goal.returns
unfolding command_words
returns c = added _ _ _ c.with_counted.ensures (simp (c.from.ensures, c.len.ensures) refl)
