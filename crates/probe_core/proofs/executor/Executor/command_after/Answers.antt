use Rattle.std.proofs.Common.{arith}
use Rattle.std.proofs.lemmas.Grind.{common_steps}
use Rattle.probe_core.proofs.QueueLemmas.{reply_after}
use Rattle.probe_core.proofs.executor.Executor.command_after.Goals as goal

pub returns-clause-reply : goal.returns-clause-reply
returns-clause-reply c =
    reply_after c.args.out.now c.split_at_mut-rest.result.0.now c.command.new.out _ c.args.len c.command.result (grind (arith, common_steps)) (grind (arith, common_steps)) c.command.ensures.reply
