use Rattle.std.proofs.Common.{◌≡◌, ℕ, List, [], ◌∷◌, ◌++◌, length, ap, sym, ◌∙◌, take, subst, append-nil, arith}
use Rattle.dap_messages.specs.declared.command.PacketKind.TheVariants.{Plain}
use Rattle.dap_messages.specs.declared.command_value.CommandValue.{CommandValue}
use Rattle.dap_messages.specs.Commands.{command_bytes, command_value}
use Rattle.probe_core.specs.Bench.{StepsTo}
use Rattle.probe_core.specs.Packets.{Packets}
use Rattle.batch_packer.proofs.FlightFacts.{first_kept, one_kept}
use Rattle.batch_packer.proofs.GoingOn.{cause_got}
use Rattle.batch_packer.proofs.PacketLemmas.{fits_packet}
use Rattle.batch_packer.proofs.SingleLemmas.{done_single, may_have_single, read_single, single_fits, single_plain, single_short, single_some}
use Rattle.batch_packer.specs.Commands.{end_in}
use Rattle.batch_packer.specs.Exchanges.{HasAnswered, IsIdle}
use Rattle.batch_packer.proofs.single.send_single.Goals as goal

pub write_single-size-requires-clause-fits : goal.write_single-size-requires-clause-fits
write_single-size-requires-clause-fits g c = let s = single_short (command_value c.args.command.now) c.requires.command.single in let b = c.requires.bytes in omega arith

pub exchange-requires-clause-some : goal.exchange-requires-clause-some
exchange-requires-clause-some g c =
    single_some (command_value c.args.command.now) c.get.result.now c.requires.command.single
    (first_kept c.args.packets.now.items c.push.new.self.items (take c.write_single-size.result c.write_single-size.new.bytes) c.get.result.now c.requires.packets.none (ap (λ (p : Packets). p.items) c.push.ensures) c.get.ensures.value
    ∙ c.write_single-size.ensures.front.first)

pub exchange-requires-clause-fits : goal.exchange-requires-clause-fits
exchange-requires-clause-fits g c =
    let packet : c.get.result.now ≡ command_bytes (command_value c.args.command.now) =
    first_kept c.args.packets.now.items c.push.new.self.items (take c.write_single-size.result c.write_single-size.new.bytes) c.get.result.now c.requires.packets.none (ap (λ (p : Packets). p.items) c.push.ensures) c.get.ensures.value
    ∙ c.write_single-size.ensures.front.first in
    let limits = c.requires.bench.limits in
    let low = limits.size_low in
    let l = ap length packet in
    let s = single_short (command_value c.args.command.now) c.requires.command.single in
    omega arith

pub exchange-requires-clause-plain : goal.exchange-requires-clause-plain
exchange-requires-clause-plain g c =
    single_plain (command_value c.args.command.now) c.get.result.now c.requires.command.single
    (first_kept c.args.packets.now.items c.push.new.self.items (take c.write_single-size.result c.write_single-size.new.bytes) c.get.result.now c.requires.packets.none (ap (λ (p : Packets). p.items) c.push.ensures) c.get.ensures.value
    ∙ c.write_single-size.ensures.front.first)

pub returns-in-Err-clause-done : goal.returns-in-Err-clause-done
returns-in-Err-clause-done g c =
    may_have_single (g.B.Bench.reported c.args.bench.now).limits (command_value c.args.command.now) c.get.result.now (g.B.Bench.state c.args.bench.now) (g.B.Bench.state c.exchange.new.bench)
    (record {
      limits = c.requires.bench.limits;
      single = c.requires.command.single;
      command = c.requires.command.command;
      bytes = first_kept c.args.packets.now.items c.push.new.self.items (take c.write_single-size.result c.write_single-size.new.bytes) c.get.result.now c.requires.packets.none (ap (λ (p : Packets). p.items) c.push.ensures) c.get.ensures.value
          ∙ c.write_single-size.ensures.front.first;
    })
    c.in-Err.ensures.failed

pub returns-in-Ok-clause-done : goal.returns-in-Ok-clause-done
returns-in-Ok-clause-done g c =
    let limits = (g.B.Bench.reported c.args.bench.now).limits in
    let in_range = c.requires.bench.limits in
    let value : CommandValue = command_value c.args.command.now in
    let old : List (List ℕ) = c.args.packets.now.items in
    let new : List (List ℕ) = c.push.new.self.items in
    let bytes : List ℕ = take c.write_single-size.result c.write_single-size.new.bytes in
    let kept : new ≡ old ++ bytes ∷ [] = ap (λ (p : Packets). p.items) c.push.ensures in
    let packet : c.get.result.now ≡ command_bytes value = first_kept old new bytes c.get.result.now c.requires.packets.none kept c.get.ensures.value ∙ c.write_single-size.ensures.front.first in
    let again : c.get-in-Ok.result.now ≡ command_bytes value = first_kept old new bytes c.get-in-Ok.result.now c.requires.packets.none kept c.get-in-Ok.ensures.value ∙ c.write_single-size.ensures.front.first in
    let reply : c.get-in-Ok-2.result.now ≡ take c.in-Ok.len c.exchange.new.out =
    first_kept c.args.replies.now.items c.push-in-Ok.new.self.items (take c.in-Ok.len c.exchange.new.out) c.get-in-Ok-2.result.now c.requires.replies.none (ap (λ (p : Packets). p.items) c.push-in-Ok.ensures) c.get-in-Ok-2.ensures.value in
    done_single limits value c.get.result.now c.get-in-Ok-2.result.now c.read_number.result (g.B.Bench.state c.args.bench.now) (g.B.Bench.state c.exchange.new.bench)
    (record { limits = in_range; single = c.requires.command.single; command = c.requires.command.command; bytes = packet })
    (c.read_number.ensures.read Plain
    (fits_packet Plain value c.get-in-Ok.result.now limits.packet_size in_range.size_high (single_fits value limits.packet_size c.requires.command.single c.requires.command.command in_range.size_low) (again ∙ sym (append-nil (command_bytes value)))))
    (subst (λ (xs : List ℕ). StepsTo (λ m o. IsIdle m → HasAnswered c.get.result.now xs m o) (g.B.Bench.state c.args.bench.now) (g.B.Bench.state c.exchange.new.bench)) (sym reply) c.in-Ok.ensures.state)

pub returns-in-Ok-clause-read : goal.returns-in-Ok-clause-read
returns-in-Ok-clause-read g c = λ _.
    (let limits = (g.B.Bench.reported c.args.bench.now).limits in
    let in_range = c.requires.bench.limits in
    let value : CommandValue = command_value c.args.command.now in
    let old : List (List ℕ) = c.args.packets.now.items in
    let new : List (List ℕ) = c.push.new.self.items in
    let bytes : List ℕ = take c.write_single-size.result c.write_single-size.new.bytes in
    let kept : new ≡ old ++ bytes ∷ [] = ap (λ (p : Packets). p.items) c.push.ensures in
    let again : c.get-in-Ok.result.now ≡ command_bytes value = first_kept old new bytes c.get-in-Ok.result.now c.requires.packets.none kept c.get-in-Ok.ensures.value ∙ c.write_single-size.ensures.front.first in
    let reply : List ℕ = take c.in-Ok.len c.exchange.new.out in
    let pushed : c.push-in-Ok.new.self.items ≡ c.args.replies.now.items ++ reply ∷ [] = ap (λ (p : Packets). p.items) c.push-in-Ok.ensures in
    let got : c.get-in-Ok-2.result.now ≡ reply = first_kept c.args.replies.now.items c.push-in-Ok.new.self.items reply c.get-in-Ok-2.result.now c.requires.replies.none pushed c.get-in-Ok-2.ensures.value in
    read_single value c.get-in-Ok-2.result.now c.push-in-Ok.new.self.items c.read_number.result
    (c.read_number.ensures.read Plain
    (fits_packet Plain value c.get-in-Ok.result.now limits.packet_size in_range.size_high (single_fits value limits.packet_size c.requires.command.single c.requires.command.command in_range.size_low) (again ∙ sym (append-nil (command_bytes value)))))
    (one_kept c.args.replies.now.items c.push-in-Ok.new.self.items reply c.requires.replies.none pushed ∙ ap (λ (x : List ℕ). x ∷ []) (sym got)))

pub returns-in-Ok-clause-keeps : goal.returns-in-Ok-clause-keeps
returns-in-Ok-clause-keeps g c = record {
  on = c.exchange.ensures.keeps.on;
  cause = cause_got (g.B.Bench.reported c.args.bench.now).faults (g.B.Bench.reported c.exchange.new.bench).faults (end_in c.read_number.result) c.read_number.ensures.got c.exchange.ensures.keeps.cause.later c.in-Ok.ensures.keeps.cause.ok;
}
