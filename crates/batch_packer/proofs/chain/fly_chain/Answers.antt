use Rattle.std.proofs.Common.{length, ap, ◌∙◌, arith, rules}
use Rattle.std.proofs.lemmas.Result.{err_from_is_err_and}
use Rattle.target_machine.specs.declared.access.RegAccess.{RegAccess}
use Rattle.flight_forms.proofs.PartLists.{all_parts, parts_have, parts_taken}
use Rattle.target_machine.specs.InRange.{IsWord}
use Rattle.flight_forms.specs.Forms.{parts_of}
use Rattle.batch_packer.proofs.ChainBench.{chain_done, chain_fits_more, chain_is_queue, chain_waits, flew_chain, packet_count, receive_failed, send_failed}
use Rattle.batch_packer.proofs.GoingOn.{goes_on_after}
use Rattle.batch_packer.proofs.PartLemmas.{parts_some}
use Rattle.batch_packer.proofs.chain.fly_chain.Goals as goal

pub send_all-requires-clause-chain : goal.send_all-requires-clause-chain
send_all-requires-clause-chain g c =
    let limits = (g.B.Bench.reported c.args.bench.now).limits in
    let chain = c.requires.chain in
    chain_is_queue limits (parts_of c.args.packet_size c.args.accesses.now) c.put_packets.new.packets.items c.put_packets.ensures.items
    (chain_fits_more c.args.packet_size limits.packet_size (parts_of c.args.packet_size c.args.accesses.now) chain.smaller chain.fits) chain.parts

pub returns-in_err-send_all-clause-failed : goal.returns-in_err-send_all-clause-failed
returns-in_err-send_all-clause-failed g c =
    let limits = (g.B.Bench.reported c.args.bench.now).limits in
    let chain = c.requires.chain in
    let in_range = c.requires.bench.limits in
    let p = err_from_is_err_and c.from_residual.result c.from_residual.ensures.1 in
    rw p.1 (send_failed limits c.args.accesses.now (parts_of c.args.packet_size c.args.accesses.now) c.put_packets.new.packets.items (g.B.Bench.state c.args.bench.now) (g.B.Bench.state c.send_all.new.bench)
    in_range.size_high (parts_some c.args.packet_size c.args.accesses.now chain.some) (all_parts c.args.packet_size c.args.accesses.now) (parts_taken c.args.packet_size c.args.accesses.now c.requires.accesses.taken)
    (chain_fits_more c.args.packet_size limits.packet_size (parts_of c.args.packet_size c.args.accesses.now) chain.smaller chain.fits) c.put_packets.ensures.items c.in_err-send_all.ensures.failed)

pub receive_all-requires-clause-waits : goal.receive_all-requires-clause-waits
receive_all-requires-clause-waits g c =
    let chain = c.requires.chain in
    let waits = chain_waits (g.B.Bench.reported c.args.bench.now) (g.B.Bench.reported c.send_all.new.bench) (parts_of c.args.packet_size c.args.accesses.now) c.put_packets.new.packets.items
    c.requires.bench.is_open (parts_some c.args.packet_size c.args.accesses.now chain.some) c.put_packets.ensures.items c.in_ok-send_all.ensures.reported in
    let w = waits.waits in let n = c.len.ensures in omega arith

pub receive_all-requires-clause-size : goal.receive_all-requires-clause-size
receive_all-requires-clause-size g c =
    let chain = c.requires.chain in
    let in_range = c.requires.bench.limits in
    let waits = chain_waits (g.B.Bench.reported c.args.bench.now) (g.B.Bench.reported c.send_all.new.bench) (parts_of c.args.packet_size c.args.accesses.now) c.put_packets.new.packets.items
    c.requires.bench.is_open (parts_some c.args.packet_size c.args.accesses.now chain.some) c.put_packets.ensures.items c.in_ok-send_all.ensures.reported in
    let h = in_range.size_high in let e = ap (λ l. l.packet_size) waits.limits in omega arith

pub receive_all-requires-clause-many : goal.receive_all-requires-clause-many
receive_all-requires-clause-many g c =
    let n = c.len.ensures in let e = ap length c.put_packets.ensures.items in let k = packet_count (parts_of c.args.packet_size c.args.accesses.now) in let r = c.requires.room in let m = r.for_replies.enough in omega arith

pub returns-in_err-receive_all-clause-failed : goal.returns-in_err-receive_all-clause-failed
returns-in_err-receive_all-clause-failed g c =
    let limits = (g.B.Bench.reported c.args.bench.now).limits in
    let chain = c.requires.chain in
    let in_range = c.requires.bench.limits in
    let p = err_from_is_err_and c.from_residual-in_err-receive_all.result c.from_residual-in_err-receive_all.ensures.1 in
    rw p.1 (receive_failed limits c.args.accesses.now (parts_of c.args.packet_size c.args.accesses.now) c.put_packets.new.packets.items c.receive_all.new.replies.items
    (g.B.Bench.state c.args.bench.now) (g.B.Bench.state c.send_all.new.bench) (g.B.Bench.state c.receive_all.new.bench)
    in_range.size_high (parts_some c.args.packet_size c.args.accesses.now chain.some) (all_parts c.args.packet_size c.args.accesses.now) (parts_taken c.args.packet_size c.args.accesses.now c.requires.accesses.taken)
    (chain_fits_more c.args.packet_size limits.packet_size (parts_of c.args.packet_size c.args.accesses.now) chain.smaller chain.fits) c.put_packets.ensures.items c.in_ok-send_all.ensures.state c.receive_all.ensures.state)

pub read_packets-requires-clause-fits : goal.read_packets-requires-clause-fits
read_packets-requires-clause-fits g c =
    let chain = c.requires.chain in
    let in_range = c.requires.bench.limits in
    chain_fits_more c.args.packet_size 1024 (parts_of c.args.packet_size c.args.accesses.now) (let a = chain.smaller in let b = in_range.size_high in omega arith) chain.fits

pub read_packets-requires-clause-many : goal.read_packets-requires-clause-many
read_packets-requires-clause-many g c =
    let chain = c.requires.chain in
    let in_range = c.requires.bench.limits in
    let e = ap length c.put_packets.ensures.items in let k = packet_count (parts_of c.args.packet_size c.args.accesses.now) in let p = chain.parts in let h = in_range.count_high in omega arith

pub read_packets-requires-clause-room : goal.read_packets-requires-clause-room
read_packets-requires-clause-room g c =
    let e = ap length c.put_packets.ensures.items in let k = packet_count (parts_of c.args.packet_size c.args.accesses.now) in let r = c.requires.room in let v = r.for_values in omega arith

pub returns-clause-flown : goal.returns-clause-flown
returns-clause-flown g c =
    let limits = (g.B.Bench.reported c.args.bench.now).limits in
    let chain = c.requires.chain in
    let in_range = c.requires.bench.limits in
    flew_chain limits c.args.accesses.now (parts_of c.args.packet_size c.args.accesses.now) c.put_packets.new.packets.items c.receive_all.new.replies.items c.read_packets.result c.read_packets.new.slots.values
    (g.B.Bench.state c.args.bench.now) (g.B.Bench.state c.send_all.new.bench) (g.B.Bench.state c.receive_all.new.bench)
    in_range.size_high (parts_some c.args.packet_size c.args.accesses.now chain.some) (all_parts c.args.packet_size c.args.accesses.now) c.requires.accesses.words (parts_taken c.args.packet_size c.args.accesses.now c.requires.accesses.taken)
    (parts_have (λ (a : RegAccess). IsWord a.value) c.args.packet_size c.args.accesses.now c.requires.accesses.words)
    (chain_fits_more c.args.packet_size limits.packet_size (parts_of c.args.packet_size c.args.accesses.now) chain.smaller chain.fits) c.put_packets.ensures.items
    (c.in_ok-receive_all.ensures.count ∙ c.len.ensures) c.read_packets.ensures.seen c.in_ok-send_all.ensures.state c.receive_all.ensures.state

pub returns-clause-exchanged : goal.returns-clause-exchanged
returns-clause-exchanged g c =
    let chain = c.requires.chain in
    let done = chain_done (g.B.Bench.reported c.args.bench.now) (g.B.Bench.reported c.send_all.new.bench) (g.B.Bench.reported c.receive_all.new.bench) (parts_of c.args.packet_size c.args.accesses.now)
    c.put_packets.new.packets.items c.receive_all.new.replies.items c.requires.bench.is_open (parts_some c.args.packet_size c.args.accesses.now chain.some) c.put_packets.ensures.items c.in_ok-send_all.ensures.reported
    c.in_ok-receive_all.ensures.reported (c.in_ok-receive_all.ensures.count ∙ c.len.ensures) in
    record {
      last = done.last;
      replied = c.in_ok-receive_all.ensures.count ∙ c.len.ensures;
      exchanges = done.exchanges;
      is_open = done.is_open;
    }

pub read_packets-requires-clause-taken : goal.read_packets-requires-clause-taken
read_packets-requires-clause-taken g c = parts_taken c.args.packet_size c.args.accesses.now c.requires.accesses.taken

pub returns-in_err-receive_all-clause-keeps : goal.returns-in_err-receive_all-clause-keeps
returns-in_err-receive_all-clause-keeps g c = record {
  on = goes_on_after (g.B.Bench.reported) (g.B.Bench.state) (g.B.Bench.identity) c.args.bench.now c.send_all.new.bench c.receive_all.new.bench c.send_all.ensures.keeps.on c.receive_all.ensures.keeps
      c.receive_all.ensures.runs c.receive_all.ensures.identity;
  cause = search rules;
}

pub returns-clause-keeps : goal.returns-clause-keeps
returns-clause-keeps g c = record {
  on = goes_on_after (g.B.Bench.reported) (g.B.Bench.state) (g.B.Bench.identity) c.args.bench.now c.send_all.new.bench c.receive_all.new.bench c.send_all.ensures.keeps.on c.receive_all.ensures.keeps
      c.receive_all.ensures.runs c.receive_all.ensures.identity;
  cause = search rules;
}
