use Rattle.std.proofs.Common.{◌≡◌, ◌≤◌, ℕ, List, length, [], ◌∷◌, ◌++◌, ap, sym, ◌∙◌, take, subst, append-nil, IfSome, Option, false}
use Rattle.std.proofs.lemmas.Result.{err_from_is_err_and}
use Rattle.dap_messages.specs.Commands.{command_bytes}
use Rattle.dap_messages.specs.declared.request.Request.{Request}
use Rattle.probe_core.specs.Bench.{StepsTo}
use Rattle.batch_packer.specs.Exchanges.{HasAnswered, IsIdle}
use Rattle.dap_messages.specs.declared.command.PacketKind.TheVariants.{Plain}
use Rattle.flight_forms.specs.Packing.{requests_for}
use Rattle.batch_packer.proofs.PacketLemmas.{fits_packet}
use Rattle.batch_packer.proofs.ShortLemmas.{alone_short}
use Rattle.batch_packer.specs.Readings.{IsReadFrom}
use Rattle.probe_core.specs.Packets.{Packets}
use Rattle.batch_packer.proofs.AloneLemmas.{flew_alone, may_have_flown}
use Rattle.batch_packer.proofs.FlightFacts.{few_requests, first_kept, normal_front, one_kept, read_alone, shown_alone}
use Rattle.batch_packer.specs.Alone.{one_command}
use Rattle.batch_packer.proofs.alone.fly_alone.Goals as goal

pub put_requests-count-requires : goal.put_requests-count-requires
put_requests-count-requires g c =
    subst (λ (n : ℕ). length (requests_for false c.args.accesses.now) ≤ n) (sym c.requires.room.buffers.for_requests) (few_requests c.args.is_block _ c.args.accesses.now c.requires.block c.requires.fits)

pub read_reply-requires-clause-normal : goal.read_reply-requires-clause-normal
read_reply-requires-clause-normal g c =
    normal_front (take c.put_requests-count.result c.put_requests-count.new.requests) c.args.accesses.now c.put_requests-count.ensures.front

pub returns-in_err-len-clause-failed : goal.returns-in_err-len-clause-failed
returns-in_err-len-clause-failed g c =
    let packet : c.get.result.now ≡ command_bytes (one_command c.args.is_block c.args.accesses.now) =
    first_kept c.args.packets.now.items c.push.new.self.items (take c.write_one-size.result c.write_one-size.new.bytes) c.get.result.now c.requires.room.for_packets.none
    (ap (λ (p : Packets). p.items) c.push.ensures) c.get.ensures.value ∙ c.write_one-size.ensures.front.first in
    let p = err_from_is_err_and c.from_residual.result c.from_residual.ensures.1 in
    rw p.1 (may_have_flown c.args.is_block (g.B.Bench.reported c.args.bench.now).limits c.args.accesses.now c.get.result.now (g.B.Bench.state c.args.bench.now) (g.B.Bench.state c.exchange.new.bench)
    c.requires.bench.limits c.requires.block c.requires.accesses.taken c.requires.accesses.words c.requires.fits packet c.in_err-len.ensures.failed)

pub returns-clause-flown : goal.returns-clause-flown
returns-clause-flown g c =
    let limits = (g.B.Bench.reported c.args.bench.now).limits in
    let size : ℕ = limits.packet_size in
    let in_range = c.requires.bench.limits in
    let old : List (List ℕ) = c.args.packets.now.items in
    let new : List (List ℕ) = c.push.new.self.items in
    let bytes : List ℕ = take c.write_one-size.result c.write_one-size.new.bytes in
    let kept : new ≡ old ++ bytes ∷ [] = ap (λ (p : Packets). p.items) c.push.ensures in
    let packet : c.get.result.now ≡ command_bytes (one_command c.args.is_block c.args.accesses.now) =
    first_kept old new bytes c.get.result.now c.requires.room.for_packets.none kept c.get.ensures.value ∙ c.write_one-size.ensures.front.first in
    let again : c.get-2.result.now ≡ command_bytes (one_command c.args.is_block c.args.accesses.now) =
    first_kept old new bytes c.get-2.result.now c.requires.room.for_packets.none kept c.get-2.ensures.value ∙ c.write_one-size.ensures.front.first in
    let reply : c.get-3.result.now ≡ take c.in_ok-len.len c.exchange.new.out =
    first_kept c.args.replies.now.items c.push-2.new.self.items (take c.in_ok-len.len c.exchange.new.out) c.get-3.result.now c.requires.room.for_replies.none (ap (λ (p : Packets). p.items) c.push-2.ensures) c.get-3.ensures.value in
    let rs : List Request = take c.put_requests-count.result c.put_requests-count.new.requests in
    flew_alone c.args.is_block limits c.args.accesses.now c.get.result.now c.get-3.result.now c.read_reply.result c.read_reply.new.slots.values
    (g.B.Bench.state c.args.bench.now) (g.B.Bench.state c.exchange.new.bench)
    c.requires.bench.limits c.requires.block c.requires.accesses.taken c.requires.accesses.words c.requires.fits packet
    (shown_alone c.args.is_block size c.args.accesses.now c.get-2.result.now c.get-3.result.now rs c.read_reply.result c.args.slots.now.values c.read_reply.new.slots.values in_range.size_high c.requires.fits again c.put_requests-count.ensures.front
    c.read_reply.ensures.shown c.requires.room.no_value)
    (subst (λ (xs : List ℕ). StepsTo (λ m o. IsIdle m → HasAnswered c.get.result.now xs m o) (g.B.Bench.state c.args.bench.now) (g.B.Bench.state c.exchange.new.bench)) (sym reply) c.in_ok-len.ensures.state)

pub returns-clause-read : goal.returns-clause-read
returns-clause-read g c =
    let limits = (g.B.Bench.reported c.args.bench.now).limits in
    let size : ℕ = limits.packet_size in
    let in_range = c.requires.bench.limits in
    let old : List (List ℕ) = c.args.packets.now.items in
    let new : List (List ℕ) = c.push.new.self.items in
    let bytes : List ℕ = take c.write_one-size.result c.write_one-size.new.bytes in
    let kept : new ≡ old ++ bytes ∷ [] = ap (λ (p : Packets). p.items) c.push.ensures in
    let again : c.get-2.result.now ≡ command_bytes (one_command c.args.is_block c.args.accesses.now) =
    first_kept old new bytes c.get-2.result.now c.requires.room.for_packets.none kept c.get-2.ensures.value ∙ c.write_one-size.ensures.front.first in
    let reply : List ℕ = take c.in_ok-len.len c.exchange.new.out in
    let pushed : c.push-2.new.self.items ≡ c.args.replies.now.items ++ reply ∷ [] = ap (λ (p : Packets). p.items) c.push-2.ensures in
    let got : c.get-3.result.now ≡ reply = first_kept c.args.replies.now.items c.push-2.new.self.items reply c.get-3.result.now c.requires.room.for_replies.none pushed c.get-3.ensures.value in
    let rs : List Request = take c.put_requests-count.result c.put_requests-count.new.requests in
    read_alone c.args.is_block c.args.accesses.now c.get-3.result.now c.push-2.new.self.items c.read_reply.result c.read_reply.new.slots.values
    (one_kept c.args.replies.now.items c.push-2.new.self.items reply c.requires.room.for_replies.none pushed ∙ ap (λ (x : List ℕ). x ∷ []) (sym got))
    (shown_alone c.args.is_block size c.args.accesses.now c.get-2.result.now c.get-3.result.now rs c.read_reply.result c.args.slots.now.values c.read_reply.new.slots.values in_range.size_high c.requires.fits again c.put_requests-count.ensures.front
    c.read_reply.ensures.shown c.requires.room.no_value)

pub returns-clause-short : goal.returns-clause-short
returns-clause-short g c =
    let in_range = c.requires.bench.limits in
    let accesses = c.args.accesses.now in
    let again : c.get-2.result.now ≡ command_bytes (one_command c.args.is_block accesses) =
    first_kept c.args.packets.now.items c.push.new.self.items (take c.write_one-size.result c.write_one-size.new.bytes) c.get-2.result.now c.requires.room.for_packets.none (ap (λ (p : Packets). p.items) c.push.ensures) c.get-2.ensures.value
    ∙ c.write_one-size.ensures.front.first in
    let rs : List Request = take c.put_requests-count.result c.put_requests-count.new.requests in
    let from = c.read_reply.ensures.from Plain (one_command c.args.is_block accesses)
    (fits_packet Plain (one_command c.args.is_block accesses) c.get-2.result.now (g.B.Bench.reported c.args.bench.now).limits.packet_size in_range.size_high c.requires.fits
    (again ∙ sym (append-nil (command_bytes (one_command c.args.is_block accesses))))) in
    alone_short c.args.is_block accesses c.get-3.result.now c.read_reply.result c.read_reply.new.slots.values c.requires.block c.requires.accesses.taken
    (subst (λ (xs : List (Option ℕ)). IfSome c.read_reply.result (IsReadFrom (one_command c.args.is_block accesses) 0 (requests_for false accesses) c.get-3.result.now xs c.read_reply.new.slots.values)) c.requires.room.no_value
    (subst (λ (ys : List Request). IfSome c.read_reply.result (IsReadFrom (one_command c.args.is_block accesses) 0 ys c.get-3.result.now c.args.slots.now.values c.read_reply.new.slots.values)) c.put_requests-count.ensures.front from))
