use Rattle.std.proofs.Common.{rules}
use Rattle.batch_packer.proofs.ReadLemmas.{part_shown, slice_normal}
use Rattle.flight_forms.specs.Packets.{guarded_command}
use Rattle.batch_packer.proofs.ShortLemmas.{guarded_short}
use Rattle.batch_packer.proofs.chain.read_part.Goals as goal

pub read_reply-requires-clause-normal : goal.read_reply-requires-clause-normal
read_reply-requires-clause-normal c =
    slice_normal c.put_guarded_requests-count.new.requests c.put_guarded_requests-count.result c.args.accesses.now c.put_guarded_requests-count.ensures.front c.put_guarded_requests-count.ensures.count

pub returns-clause-shown : goal.returns-clause-shown
returns-clause-shown c =
    part_shown c.args.accesses.now c.args.packet.now c.args.reply.now c.put_guarded_requests-count.new.requests c.put_guarded_requests-count.result c.read_reply.result c.args.slots.now.values c.read_reply.new.slots.values
    c.requires.part.is_packet c.put_guarded_requests-count.ensures.front c.put_guarded_requests-count.ensures.count c.if-reply-lt2.false (search rules) c.read_reply.ensures.shown

pub returns-clause-short : goal.returns-clause-short
returns-clause-short c =
    let is = c.requires.part.is_packet in
    guarded_short c.args.accesses.now c.args.reply.now _ c.read_reply.result c.args.slots.now.values c.read_reply.new.slots.values c.requires.part.taken c.requires.part.some c.if-reply-lt2.false (search rules)
    (c.read_reply.ensures.from is.0 (guarded_command c.args.accesses.now) is.1)
