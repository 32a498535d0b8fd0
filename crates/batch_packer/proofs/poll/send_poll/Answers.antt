use Rattle.std.proofs.Common.{◌≡◌, ℕ, List, [], ◌∷◌, ◌++◌, ap, sym, ◌∙◌, take, subst, arith}
use Rattle.dap_messages.specs.declared.command.PacketKind.TheVariants.{Execute}
use Rattle.dap_messages.specs.Commands.{packet_bytes}
use Rattle.probe_core.specs.Bench.{StepsTo}
use Rattle.probe_core.specs.Packets.{Packets}
use Rattle.batch_packer.proofs.FlightFacts.{first_kept, one_kept}
use Rattle.batch_packer.proofs.GoingOn.{cause_got}
use Rattle.batch_packer.proofs.PollLemmas.{IsPoll, has_polled, may_have_polled, poll_is_packet, poll_plain, poll_size, read_kept}
use Rattle.batch_packer.specs.Commands.{end_in}
use Rattle.batch_packer.specs.Exchanges.{HasAnswered, IsIdle}
use Rattle.batch_packer.specs.Polling.{packet_of}
use Rattle.batch_packer.proofs.poll.send_poll.Goals as goal

pub exchange-requires-clause-some : goal.exchange-requires-clause-some
exchange-requires-clause-some g c =
    let l = poll_size c.args.config c.args.ask c.get.result.now
    (first_kept c.args.packets.now.items c.push.new.self.items (take c.write_poll-size.result c.write_poll-size.new.bytes) c.get.result.now c.requires.packets.none (ap (λ (p : Packets). p.items) c.push.ensures) c.get.ensures.value
    ∙ c.write_poll-size.ensures.front) in
    omega arith

pub exchange-requires-clause-fits : goal.exchange-requires-clause-fits
exchange-requires-clause-fits g c =
    let packet : c.get.result.now ≡ packet_bytes (packet_of c.args.config c.args.ask) =
    first_kept c.args.packets.now.items c.push.new.self.items (take c.write_poll-size.result c.write_poll-size.new.bytes) c.get.result.now c.requires.packets.none (ap (λ (p : Packets). p.items) c.push.ensures) c.get.ensures.value
    ∙ c.write_poll-size.ensures.front in
    let limits = c.requires.bench.limits in
    let low = limits.size_low in
    let l = poll_size c.args.config c.args.ask c.get.result.now packet in
    omega arith

pub exchange-requires-clause-plain : goal.exchange-requires-clause-plain
exchange-requires-clause-plain g c =
    poll_plain c.args.config c.args.ask c.get.result.now
    (first_kept c.args.packets.now.items c.push.new.self.items (take c.write_poll-size.result c.write_poll-size.new.bytes) c.get.result.now c.requires.packets.none (ap (λ (p : Packets). p.items) c.push.ensures) c.get.ensures.value
    ∙ c.write_poll-size.ensures.front)

pub returns-in-Err-clause-polled : goal.returns-in-Err-clause-polled
returns-in-Err-clause-polled g c =
    let poll : IsPoll c.args.config c.args.ask = record { idle = omega arith; retry = omega arith; mask = omega arith; value = omega arith; low = c.requires.turns.low; high = c.requires.turns.high } in
    may_have_polled (g.B.Bench.reported c.args.bench.now).limits c.args.config c.args.ask c.get.result.now (g.B.Bench.state c.args.bench.now) (g.B.Bench.state c.exchange.new.bench)
    (record {
      limits = c.requires.bench.limits;
      poll = poll;
      bytes = first_kept c.args.packets.now.items c.push.new.self.items (take c.write_poll-size.result c.write_poll-size.new.bytes) c.get.result.now c.requires.packets.none (ap (λ (p : Packets). p.items) c.push.ensures) c.get.ensures.value
          ∙ c.write_poll-size.ensures.front;
    })
    c.in-Err.ensures.failed

pub returns-in-Ok-clause-polled : goal.returns-in-Ok-clause-polled
returns-in-Ok-clause-polled g c =
    let poll : IsPoll c.args.config c.args.ask = record { idle = omega arith; retry = omega arith; mask = omega arith; value = omega arith; low = c.requires.turns.low; high = c.requires.turns.high } in
    let limits = (g.B.Bench.reported c.args.bench.now).limits in
    let in_range = c.requires.bench.limits in
    let old : List (List ℕ) = c.args.packets.now.items in
    let new : List (List ℕ) = c.push.new.self.items in
    let bytes : List ℕ = take c.write_poll-size.result c.write_poll-size.new.bytes in
    let kept : new ≡ old ++ bytes ∷ [] = ap (λ (p : Packets). p.items) c.push.ensures in
    let packet : c.get.result.now ≡ packet_bytes (packet_of c.args.config c.args.ask) = first_kept old new bytes c.get.result.now c.requires.packets.none kept c.get.ensures.value ∙ c.write_poll-size.ensures.front in
    let again : c.get-in-Ok.result.now ≡ packet_bytes (packet_of c.args.config c.args.ask) = first_kept old new bytes c.get-in-Ok.result.now c.requires.packets.none kept c.get-in-Ok.ensures.value ∙ c.write_poll-size.ensures.front in
    let reply : c.get-in-Ok-2.result.now ≡ take c.in-Ok.len c.exchange.new.out =
    first_kept c.args.replies.now.items c.push-in-Ok.new.self.items (take c.in-Ok.len c.exchange.new.out) c.get-in-Ok-2.result.now c.requires.replies.none (ap (λ (p : Packets). p.items) c.push-in-Ok.ensures) c.get-in-Ok-2.ensures.value in
    has_polled limits c.args.config c.args.ask c.get.result.now c.get-in-Ok-2.result.now c.read_poll.result (g.B.Bench.state c.args.bench.now) (g.B.Bench.state c.exchange.new.bench)
    (record { limits = in_range; poll = poll; bytes = packet })
    (c.read_poll.ensures.read Execute c.args.config c.args.ask (poll_is_packet c.args.config c.args.ask c.get-in-Ok.result.now poll again))
    (subst (λ (xs : List ℕ). StepsTo (λ m o. IsIdle m → HasAnswered c.get.result.now xs m o) (g.B.Bench.state c.args.bench.now) (g.B.Bench.state c.exchange.new.bench)) (sym reply) c.in-Ok.ensures.state)

pub returns-in-Ok-clause-read : goal.returns-in-Ok-clause-read
returns-in-Ok-clause-read g c = λ _.
    (let poll : IsPoll c.args.config c.args.ask = record { idle = omega arith; retry = omega arith; mask = omega arith; value = omega arith; low = c.requires.turns.low; high = c.requires.turns.high } in
    let limits = (g.B.Bench.reported c.args.bench.now).limits in
    let in_range = c.requires.bench.limits in
    let old : List (List ℕ) = c.args.packets.now.items in
    let new : List (List ℕ) = c.push.new.self.items in
    let bytes : List ℕ = take c.write_poll-size.result c.write_poll-size.new.bytes in
    let kept : new ≡ old ++ bytes ∷ [] = ap (λ (p : Packets). p.items) c.push.ensures in
    let again : c.get-in-Ok.result.now ≡ packet_bytes (packet_of c.args.config c.args.ask) = first_kept old new bytes c.get-in-Ok.result.now c.requires.packets.none kept c.get-in-Ok.ensures.value ∙ c.write_poll-size.ensures.front in
    let reply : List ℕ = take c.in-Ok.len c.exchange.new.out in
    let pushed : c.push-in-Ok.new.self.items ≡ c.args.replies.now.items ++ reply ∷ [] = ap (λ (p : Packets). p.items) c.push-in-Ok.ensures in
    let got : c.get-in-Ok-2.result.now ≡ reply = first_kept c.args.replies.now.items c.push-in-Ok.new.self.items reply c.get-in-Ok-2.result.now c.requires.replies.none pushed c.get-in-Ok-2.ensures.value in
    read_kept c.args.config c.args.ask c.get-in-Ok-2.result.now c.push-in-Ok.new.self.items c.read_poll.result
    (c.read_poll.ensures.read Execute c.args.config c.args.ask (poll_is_packet c.args.config c.args.ask c.get-in-Ok.result.now poll again))
    (one_kept c.args.replies.now.items c.push-in-Ok.new.self.items reply c.requires.replies.none pushed ∙ ap (λ (x : List ℕ). x ∷ []) (sym got)))

pub returns-in-Ok-clause-keeps : goal.returns-in-Ok-clause-keeps
returns-in-Ok-clause-keeps g c = record {
  on = c.exchange.ensures.keeps.on;
  cause = cause_got (g.B.Bench.reported c.args.bench.now).faults (g.B.Bench.reported c.exchange.new.bench).faults (end_in c.read_poll.result) c.read_poll.ensures.got c.exchange.ensures.keeps.cause.later c.in-Ok.ensures.keeps.cause.ok;
}
