-- A command of the probe in one packet.
use Rattle.std.proofs.Common.{◌≡◌, inl, inr, ℕ, ◌+◌, ◌*◌, ◌^◌, ◌<◌, ◌≤◌, eqb, Bool, true, false, cond, List, [], ◌∷◌, length, Option, refl, ap, sym, subst, ◌∙◌, append-nil, arith}
use Rattle.std.proofs.lemmas.List.{length-take}
use Rattle.std.specs.Prelude.{Result, Ok, Err, take, slice_index}
use Rattle.std.specs.Int.{w16, w64, from_le_bytes, to_le_bytes}
use Rattle.std.specs.List.{AllByRecursion}
use Rattle.target_machine.proofs.ActionRanges.{acted_in_range}
use Rattle.target_machine.specs.InRange.{IsInRange}
use Rattle.target_machine.specs.Plain.{Commands}
use Rattle.target_machine.specs.declared.unit.ProbeCall.TheVariants as probe
use Rattle.dap_replies.proofs.ReplyAgain.{reply_complete}
use Rattle.dap_messages.specs.declared.command.PacketKind.TheVariants.{Plain}
use Rattle.dap_messages.specs.declared.command_value.CommandValue.{CommandValue}
use Rattle.dap_messages.specs.declared.command_value.CommandValue.TheVariants as command
use Rattle.dap_messages.specs.Commands.{IsCommand, bytes_for, command_bytes, longest_reply}
use Rattle.dap_messages.specs.Replies.{Answers, reply_bytes}
use Rattle.dap_replies.specs.ReplyViews.{reply_shown}
use Rattle.dap_replies.specs.ReplyReading.{reply_read}
use Rattle.probe_core.specs.Bench.{BenchState, StepsTo}
use Rattle.probe_core.specs.Commands.{command_result}
use Rattle.probe_core.specs.Packet.{Answered, packet_answer}
use Rattle.probe_core.specs.Probe.{ExecutorState, is_queued}
use Rattle.probe_core.specs.Ranges.{AreLimits}
use Rattle.probe_core.specs.declared.job.Limits.{Limits}
use Rattle.flight_forms.specs.Packets.{FitsPacket}
use Rattle.batch_packer.proofs.PacketLemmas.{answered_one}
use Rattle.probe_core.proofs.StateSteps.{steps_map}
use Rattle.batch_packer.specs.Commands.{DoneBy, MayHaveDone, is_single, number_by, number_given, number_in, number_read}
use Rattle.batch_packer.specs.Exchanges.{HasAnswered, IsIdle, MayHaveRun}
use Rattle.batch_packer.specs.Flying.{HasLimits}
use Rattle.batch_packer.specs.Readings.{shown_in}
use Rattle.batch_packer.specs.declared.ends.FlightEnd.{FlightEnd}
use Rattle.batch_packer.specs.declared.ends.FlightEnd.TheVariants as ends

-- ---- it fits each packet

few_taken : (n : ℕ) (bits : ℕ) → length (take n (to_le_bytes w64 bits)) ≤ 8
few_taken n bits = let l = length-take n (to_le_bytes w64 bits) in let k : length (to_le_bytes w64 bits) ≡ 8 = refl in omega arith

pub single_short : (c : CommandValue) → is_single c ≡ true → length (command_bytes c) ≤ 10
single_short (command.Info id) e = omega arith
single_short (command.Configure idle retry matches) e = omega arith
single_short (command.Transfer requests) e = absurd (cc)
single_short (command.WriteBlock request words) e = absurd (cc)
single_short (command.Abort word) e = omega arith
single_short (command.Delay time) e = omega arith
single_short (command.Pins output select wait) e = omega arith
single_short (command.Clock clock) e = omega arith
single_short (command.Line count bits) e = let f = few_taken (bytes_for count) bits in omega arith

info_reply : (b : Bool) → cond b 3 4 ≤ 4
info_reply true = omega arith
info_reply false = omega arith

reply_short : (c : CommandValue) → is_single c ≡ true → longest_reply c ≤ 4
reply_short (command.Info id) e = info_reply (eqb id 0xFE)
reply_short (command.Configure idle retry matches) e = omega arith
reply_short (command.Transfer requests) e = absurd (cc)
reply_short (command.WriteBlock request words) e = absurd (cc)
reply_short (command.Abort word) e = omega arith
reply_short (command.Delay time) e = omega arith
reply_short (command.Pins output select wait) e = omega arith
reply_short (command.Clock clock) e = omega arith
reply_short (command.Line count bits) e = omega arith

pub single_fits : (c : CommandValue) (size : ℕ) → is_single c ≡ true → IsCommand c → 64 ≤ size → FitsPacket size 0 c
single_fits c size e command large = record {
  command = command;
  bytes = (let s = single_short c e in omega arith);
  reply = (let s = reply_short c e in omega arith);
}

some_bytes : (c : CommandValue) → is_single c ≡ true → 0 < length (command_bytes c)
some_bytes (command.Info id) e = omega arith
some_bytes (command.Configure idle retry matches) e = omega arith
some_bytes (command.Transfer requests) e = absurd (cc)
some_bytes (command.WriteBlock request words) e = absurd (cc)
some_bytes (command.Abort word) e = omega arith
some_bytes (command.Delay time) e = omega arith
some_bytes (command.Pins output select wait) e = omega arith
some_bytes (command.Clock clock) e = omega arith
some_bytes (command.Line count bits) e = omega arith

pub single_some : (c : CommandValue) (packet : List ℕ) → is_single c ≡ true → packet ≡ command_bytes c → 0 < length packet
single_some c packet e is = let s = some_bytes c e in let l = ap length is in omega arith

not_held : (c : CommandValue) → is_single c ≡ true → is_queued (command_bytes c) ≡ false
not_held (command.Info id) e = refl
not_held (command.Configure idle retry matches) e = refl
not_held (command.Transfer requests) e = absurd (cc)
not_held (command.WriteBlock request words) e = absurd (cc)
not_held (command.Abort word) e = refl
not_held (command.Delay time) e = refl
not_held (command.Pins output select wait) e = refl
not_held (command.Clock clock) e = refl
not_held (command.Line count bits) e = refl

pub single_plain : (c : CommandValue) (packet : List ℕ) → is_single c ≡ true → packet ≡ command_bytes c → is_queued packet ≡ false
single_plain c packet e is = ap is_queued is ∙ not_held c e

-- ---- what a probe answers to it

info_answers : (b : Bool) (count size : ℕ) → 1 ≤ count → count < 2 ^ 8 → 64 ≤ size → size < 2 ^ 16 →
    (let bytes = cond b (count ∷ []) (to_le_bytes w16 size) in
    (length bytes ≡ cond b 1 2) × (cond b 1 64 ≤ from_le_bytes w64 bytes) × AllByRecursion (λ byte. byte < 2 ^ 8) bytes)
info_answers true count size a b c d = (refl, omega arith, (b, tt))
info_answers false count size a b c d = (refl, omega arith, (omega arith, (omega arith, tt)))

pins_fit : (e : ExecutorState) (output select : ℕ) → IsInRange e.transfers.line.target → (command_result e (command.Pins output select 0)).next.transfers.line.target.lines.pins < 2 ^ 8
pins_fit e output select h =
    let acted = acted_in_range e.transfers.line.target (Commands (probe.Pins output select 0)) h tt in
    let next = acted.next in
    let lines = next.lines in
    lines.pins

pub single_answers : (e : ExecutorState) (c : CommandValue) → is_single c ≡ true → AreLimits e.limits → IsInRange e.transfers.line.target → Answers c (command_result e c).answer
single_answers e (command.Info id) s limits h =
    info_answers (eqb id 0xFE) e.limits.packet_count e.limits.packet_size limits.count_low (let a = limits.count_high in omega arith) limits.size_low (let a = limits.size_high in omega arith)
single_answers e (command.Configure idle retry matches) s limits h = (refl, refl)
single_answers e (command.Transfer requests) s limits h = absurd (cc)
single_answers e (command.WriteBlock request words) s limits h = absurd (cc)
single_answers e (command.Abort word) s limits h = (refl, refl)
single_answers e (command.Delay time) s limits h = (refl, refl)
single_answers e (command.Pins output select wait) s limits h = pins_fit e output select h
single_answers e (command.Clock clock) s limits h = (refl, refl)
single_answers e (command.Line count bits) s limits h = (refl, refl)

info_says : (b : Bool) (count size : ℕ) → size < 2 ^ 16 →
    (let bytes = cond b (count ∷ []) (to_le_bytes w16 size) in slice_index bytes 0 + 256 * slice_index bytes 1) ≡ cond b count size
info_says true count size h = omega arith
info_says false count size h = omega arith

single_says : (e : ExecutorState) (c : CommandValue) → is_single c ≡ true → AreLimits e.limits → number_in c (reply_shown (command_result e c).answer) ≡ number_given e c
single_says e (command.Info id) s limits = info_says (eqb id 0xFE) e.limits.packet_count e.limits.packet_size (let a = limits.size_high in omega arith)
single_says e (command.Configure idle retry matches) s limits = refl
single_says e (command.Transfer requests) s limits = refl
single_says e (command.WriteBlock request words) s limits = refl
single_says e (command.Abort word) s limits = refl
single_says e (command.Delay time) s limits = refl
single_says e (command.Pins output select wait) s limits = refl
single_says e (command.Clock clock) s limits = refl
single_says e (command.Line count bits) s limits = refl

answered_single : (e : ExecutorState) (c : CommandValue) (packet : List ℕ) → e.limits.packet_size ≤ 1024 → FitsPacket e.limits.packet_size 0 c → packet ≡ command_bytes c →
    packet_answer e packet ≡ record { reply = reply_bytes (command_result e c).answer; next = (command_result e c).next }
answered_single e c packet short fits is =
    answered_one e Plain c packet short fits (is ∙ sym (append-nil (command_bytes c)))
    ∙ ap (λ bytes. record { reply = bytes; next = (command_result e c).next }) (append-nil (reply_bytes (command_result e c).answer))

-- its reply says what it answers
reads_single : (e : ExecutorState) (c : CommandValue) → is_single c ≡ true → IsCommand c → AreLimits e.limits → IsInRange e.transfers.line.target →
    number_by c (shown_in (reply_read c (reply_bytes (command_result e c).answer))) ≡ Ok (number_given e c)
reads_single e c s command limits h =
    ap (λ x. number_by c (shown_in x)) (reply_complete c (command_result e c).answer command (single_answers e c s limits h))
    ∙ ap (λ n. Ok n) (single_says e c s limits)

-- ---- over a bench

-- what is so of the packet of a command
pub record IsSent (given : Limits) (c : CommandValue) (packet : List ℕ) : Type 0 where
  pub limits : AreLimits given
  pub single : is_single c ≡ true
  pub command : IsCommand c
  pub bytes : packet ≡ command_bytes c

ran : (given : Limits) (c : CommandValue) (packet : List ℕ) (m : BenchState) → IsSent given c packet → HasLimits given m →
    packet_answer m.probe.executor packet ≡ record { reply = reply_bytes (command_result m.probe.executor c).answer; next = (command_result m.probe.executor c).next }
ran given c packet m is has =
    let limits : AreLimits m.probe.executor.limits = subst AreLimits (sym has.limits) is.limits in
    answered_single m.probe.executor c packet limits.size_high (single_fits c m.probe.executor.limits.packet_size is.single is.command limits.size_low) is.bytes

done_one : (given : Limits) (c : CommandValue) (packet reply : List ℕ) (result : Result ℕ FlightEnd) (m n : BenchState) → IsSent given c packet → result ≡ number_by c (shown_in (reply_read c reply)) →
    HasLimits given m → HasAnswered packet reply m n → DoneBy c result m n
done_one given c packet reply result m n is read has answers =
    let e : ExecutorState = m.probe.executor in
    let limits : AreLimits e.limits = subst AreLimits (sym has.limits) is.limits in
    let all = ran given c packet m is has in
    let bytes : reply ≡ reply_bytes (command_result e c).answer = answers.answer ∙ ap (λ (x : Answered). x.reply) all in
    let says : result ≡ Ok (number_given e c) = read ∙ ap (λ (xs : List ℕ). number_by c (shown_in (reply_read c xs))) bytes ∙ reads_single e c is.single is.command limits has.in_range in
    subst (λ (x : Result ℕ FlightEnd). DoneBy c x m n) (sym says) (record {
      number_is = refl;
      executor = answers.executor ∙ ap (λ (x : Answered). x.next) all;
      idle = answers.idle;
      starting = answers.starting;
    })

may_have_one : (given : Limits) (c : CommandValue) (packet : List ℕ) (m n : BenchState) → IsSent given c packet → HasLimits given m → MayHaveRun packet m n → MayHaveDone c m n
may_have_one given c packet m n is has (inl same) = inl same
may_have_one given c packet m n is has (inr next) = inr (next ∙ ap (λ (x : Answered). x.next) (ran given c packet m is has))

pub done_single : (given : Limits) (c : CommandValue) (packet reply : List ℕ) (result : Result ℕ FlightEnd) (a b : Option BenchState) → IsSent given c packet →
    result ≡ number_by c (shown_in (reply_read c reply)) → StepsTo (λ m o. IsIdle m → HasAnswered packet reply m o) a b → StepsTo (λ m n. HasLimits given m → DoneBy c result m n) a b
done_single given c packet reply result a b is read steps = steps_map (λ m n h has. done_one given c packet reply result m n is read has (h has.idle)) a b steps

pub may_have_single : (given : Limits) (c : CommandValue) (packet : List ℕ) (a b : Option BenchState) → IsSent given c packet → StepsTo (λ m o. IsIdle m → MayHaveRun packet m o) a b →
    StepsTo (λ m n. HasLimits given m → DoneBy c (Err ends.BenchFault) m n) a b
may_have_single given c packet a b is steps = steps_map (λ m n h has. may_have_one given c packet m n is has (h has.idle)) a b steps

-- what the kept reply says
pub read_single : (c : CommandValue) (reply : List ℕ) (replies : List (List ℕ)) (result : Result ℕ FlightEnd) → result ≡ number_by c (shown_in (reply_read c reply)) → replies ≡ reply ∷ [] →
    result ≡ number_read c replies
read_single c reply replies result read is = read ∙ ap (number_read c) (sym is)
