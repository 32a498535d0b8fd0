use Rattle.std.proofs.Common.{append_assoc, refl}
use Rattle.packet_words.specs.Exchange.{replied_line}
use Rattle.register_words.proofs.Chains.{added}
use Rattle.packet_words.proofs.exchange.with_replied.Goals as goal

pub returns : goal.returns
unfolding replied_line
returns c = added _ _ _ c.with_sizes.ensures (simp (c.in_ok-add_labelled.ensures, c.in_ok-line.ensures, c.kind.ensures, c.count.ensures, c.in_ok-line-2.ensures, c.kind-2.ensures, c.in_ok-line-3.ensures, append_assoc) refl)
