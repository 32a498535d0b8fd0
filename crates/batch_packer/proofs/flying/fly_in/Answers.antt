use Rattle.std.proofs.Common.{ap, ◌∙◌, arith, Some}
use Rattle.batch_packer.proofs.FormLemmas.{block_sent, chain_sent, few_parts, transfer_sent}
use Rattle.batch_packer.proofs.flying.fly_in.Goals as goal

pub fly_alone-requires-clause-fits : goal.fly_alone-requires-clause-fits
fly_alone-requires-clause-fits g c =
    block_sent c.args.limits (g.B.Bench.reported c.args.bench.now).limits c.args.accesses.now c.requires.bench.in_range c.requires.bench.within c.requires.accesses.words (c.requires.form ∙ ap Some c.in-Block.is)

pub fly_alone-requires-in-Transfer-clause-fits : goal.fly_alone-requires-in-Transfer-clause-fits
fly_alone-requires-in-Transfer-clause-fits g c =
    transfer_sent c.args.limits (g.B.Bench.reported c.args.bench.now).limits c.args.accesses.now c.requires.some c.requires.bench.within c.requires.accesses.words (c.requires.form ∙ ap Some c.in-Transfer.is)

pub fly_chain-requires-clause-chain : goal.fly_chain-requires-clause-chain
fly_chain-requires-clause-chain g c =
    chain_sent c.args.limits (g.B.Bench.reported c.args.bench.now).limits c.args.accesses.now c.requires.some c.requires.bench.in_range c.requires.bench.within c.requires.accesses.words (c.requires.form ∙ ap Some c.in-Chain.is)

pub fly_chain-requires-clause-room : goal.fly_chain-requires-clause-room
fly_chain-requires-clause-room g c =
    let f = few_parts c.args.limits c.args.accesses.now (c.requires.form ∙ ap Some c.in-Chain.is) in
    let room = c.requires.room in
    record {
      for_packets = record { none = room.for_packets.none; enough = (let e = room.for_packets.enough in omega arith) };
      for_replies = record { none = room.for_replies.none; enough = (let e = room.for_replies.enough in omega arith) };
      buffers = room.buffers;
      no_value = room.no_value;
      for_values = (let r = room.for_values in omega arith);
    }
