use Rattle.direct_calls.proofs.AtOnceLemmas.{command_made}
use Rattle.direct_calls.proofs.at_once.command_at_once.Goals as goal

pub returns : goal.returns
returns c = record { answer = command_made c.args.target.now c.args.call _ _ c.command.ensures.passes c.command.ensures.value c.command.ensures.next }
