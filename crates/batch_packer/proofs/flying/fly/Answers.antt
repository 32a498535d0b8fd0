use Rattle.batch_packer.proofs.FormLemmas.{ends_fault, ends_so, flew_so}
use Rattle.std.proofs.Common.{length}
use Rattle.batch_packer.proofs.ShortLemmas.{ends_short}
use Rattle.batch_packer.proofs.flying.fly.Goals as goal

pub returns-in-Err-clause-read : goal.returns-in-Err-clause-read
returns-in-Err-clause-read g c = ends_fault c.args.form c.args.limits.packet_size c.args.accesses.now (g.B.Bench.reported c.fly_in.new.bench).last.replies c.fly_in.new.slots.values

pub returns-in-Ok-clause-flown : goal.returns-in-Ok-clause-flown
returns-in-Ok-clause-flown g c =
    flew_so c.args.form (g.B.Bench.reported c.args.bench.now).limits c.args.accesses.now c.in-Ok.progress c.end_of.result c.fly_in.new.slots.values (g.B.Bench.state c.args.bench.now) (g.B.Bench.state c.fly_in.new.bench)
    c.end_of.ensures c.in-Ok.ensures.flown

pub returns-in-Ok-clause-read : goal.returns-in-Ok-clause-read
returns-in-Ok-clause-read g c =
    ends_so c.args.form c.args.limits.packet_size c.args.accesses.now c.fly_in.new.packets.items c.fly_in.new.replies.items (g.B.Bench.reported c.fly_in.new.bench).last c.in-Ok.progress c.end_of.result c.fly_in.new.slots.values
    c.in-Ok.ensures.exchanged.last c.end_of.ensures c.in-Ok.ensures.read

pub returns-in-Ok-clause-short : goal.returns-in-Ok-clause-short
returns-in-Ok-clause-short g c = ends_short (length c.args.accesses.now) c.in-Ok.progress c.end_of.result c.fly_in.new.slots.values c.end_of.ensures c.in-Ok.ensures.short
