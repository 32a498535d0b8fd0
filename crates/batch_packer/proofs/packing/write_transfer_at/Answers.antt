use Rattle.std.proofs.Common.{arith}
use Rattle.std.proofs.lemmas.Grind.{common_steps}
use Rattle.probe_core.proofs.QueueLemmas.{reply_after}
use Rattle.batch_packer.proofs.packing.write_transfer_at.Goals as goal

pub returns : goal.returns
returns c =
    record {
      front = record {
        within = grind (arith, common_steps);
        first = reply_after c.args.bytes.now c.split_at_mut-rest.result.0.now c.write_transfer.new.bytes _ c.args.at c.write_transfer.result (grind (arith, common_steps)) (grind (arith, common_steps)) c.write_transfer.ensures.front.first;
      };
    }
