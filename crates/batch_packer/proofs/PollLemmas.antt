-- A portion of a poll in one packet.
use Rattle.std.proofs.Common.{◌≡◌, inl, inr, ℕ, ◌-◌, ◌^◌, ◌<◌, ◌≤◌, ◌&&◌, Bool, true, false, cond, List, [], ◌∷◌, ◌++◌, length, Option, Some, refl, ap, sym, subst, ◌∙◌, arith}
use Rattle.std.specs.Prelude.{Result, Ok, Err, is_some}
use Rattle.target_machine.proofs.ActionRanges.{acted_in_range}
use Rattle.target_machine.specs.Attempt.{bank}
use Rattle.target_machine.specs.InRange.{IsInRange}
use Rattle.target_machine.specs.Plain.{poll_result}
use Rattle.target_machine.specs.State.{TargetState}
use Rattle.dap_replies.proofs.ReplyAgain.{reply_complete}
use Rattle.dap_messages.specs.declared.command.PacketKind.TheVariants.{Execute}
use Rattle.dap_messages.specs.declared.command_value.CommandValue.{CommandValue}
use Rattle.dap_messages.specs.declared.command_value.CommandValue.TheVariants.{Configure, Transfer}
use Rattle.dap_messages.specs.declared.request.Response.{Response}
use Rattle.dap_messages.specs.declared.request.Response.TheVariants.{Good, Mismatch}
use Rattle.dap_messages.specs.Commands.{IsCommand, packet_bytes}
use Rattle.dap_messages.specs.Replies.{Answers, ReplyValue, Status, reply_bytes}
use Rattle.dap_replies.specs.ReplyReading.{reply_read}
use Rattle.dap_replies.proofs.ReplyLaws.{response-code}
use Rattle.dap_messages.specs.Responses.{code_of}
use Rattle.dap_transfer.specs.State.{TransferState, Transferred}
use Rattle.probe_core.specs.Bench.{BenchState, StepsTo}
use Rattle.probe_core.specs.Packet.{Answered, packet_answer}
use Rattle.probe_core.specs.Probe.{ExecutorState, is_queued}
use Rattle.probe_core.specs.Ranges.{AreLimits}
use Rattle.probe_core.specs.declared.job.Limits.{Limits}
use Rattle.flight_forms.proofs.Polls.{poll_fits, polls_at_once}
use Rattle.flight_forms.specs.Chains.{IsGuardOpen}
use Rattle.flight_forms.specs.Packets.{transfer_answer}
use Rattle.flight_forms.specs.Polls.{IsPollPacket, clear_mask, poll_after, poll_cleared, poll_commands, poll_matched, poll_requests}
use Rattle.dap_transfer.specs.ValueMatch.{has_matched}
use Rattle.batch_packer.proofs.ActionLemmas.{poll_clear}
use Rattle.batch_packer.proofs.PacketLemmas.{answered_is}
use Rattle.probe_core.proofs.StateSteps.{steps_map}
use Rattle.batch_packer.specs.Actions.{Acts}
use Rattle.batch_packer.specs.Exchanges.{HasAnswered, IsIdle, MayHaveRun}
use Rattle.batch_packer.specs.Flying.{IsReady, transfers_of}
use Rattle.batch_packer.specs.Polling.{MayHavePolled, PolledBy, is_framed, is_read, match_by, match_end, matched_in, matched_read, packet_of, reads_of}
use Rattle.batch_packer.specs.Readings.{IsPacketOf, shown_in}
use Rattle.batch_packer.specs.declared.ends.FlightEnd.{FlightEnd}
use Rattle.batch_packer.specs.declared.ends.FlightEnd.TheVariants as ends
use Rattle.probe_core.specs.declared.job.Config.{Config}
use Rattle.batch_packer.specs.declared.poll.PollAsk.{PollAsk}

-- ---- its packet

-- the numbers of a poll are those of their types, and its turns are in range
pub record IsPoll (config : Config) (ask : PollAsk) : Type 0 where
  pub idle : config.idle < 2 ^ 8
  pub retry : config.retry < 2 ^ 16
  pub mask : ask.mask < 2 ^ 32
  pub value : ask.value < 2 ^ 32
  pub low : 1 ≤ ask.turns
  pub high : ask.turns ≤ 65536

packet_fits : (config : Config) (ask : PollAsk) → IsPoll config ask → IsPollPacket (packet_of config ask)
packet_fits config ask is = poll_fits config.idle config.retry ask.mask ask.value ask.turns is.idle is.retry is.mask is.value (let h = is.high in omega arith)

pub poll_is_packet : (config : Config) (ask : PollAsk) (packet : List ℕ) → IsPoll config ask → packet ≡ packet_bytes (packet_of config ask) →
    IsPacketOf Execute (poll_commands config.idle config.retry ask.mask ask.value ask.turns) packet
poll_is_packet config ask packet is bytes =
    let fits = packet_fits config ask is in
    let p = fits.packet in
    record {
      count = p.count;
      in_range = p.commands;
      bytes = bytes;
      short = (let s = p.size in let l = ap length bytes in omega arith);
    }

pub poll_size : (config : Config) (ask : PollAsk) (packet : List ℕ) → packet ≡ packet_bytes (packet_of config ask) → length packet ≡ 35
poll_size config ask packet bytes = ap length bytes

pub poll_plain : (config : Config) (ask : PollAsk) (packet : List ℕ) → packet ≡ packet_bytes (packet_of config ask) → is_queued packet ≡ false
poll_plain config ask packet bytes = ap is_queued bytes

-- ---- what a probe answers to it

-- the reply where the value match and the mask after it are answered so
abbrev poll_reply : Transferred → Transferred → List ℕ
poll_reply d u = 0x7F ∷ 4 ∷ 4 ∷ 0 ∷ reply_bytes (transfer_answer d) ++ (reply_bytes (transfer_answer u) ++ 4 ∷ 0 ∷ [])

abbrev matched_of : ExecutorState → Config → PollAsk → Transferred
matched_of e config ask = poll_matched e.transfers config.retry ask.mask ask.value ask.turns

abbrev cleared_of : ExecutorState → Config → PollAsk → Transferred
cleared_of e config ask = poll_cleared e.transfers config.retry ask.mask ask.value ask.turns

-- the probe after it
abbrev poll_next : ExecutorState → Config → PollAsk → ExecutorState
poll_next e config ask = record e { idle = config.idle; transfers = poll_after e.transfers config.retry ask.mask ask.value ask.turns }

answered_poll : (e : ExecutorState) (config : Config) (ask : PollAsk) (packet : List ℕ) → 64 ≤ e.limits.packet_size → IsPoll config ask → packet ≡ packet_bytes (packet_of config ask) →
    packet_answer e packet ≡ record { reply = poll_reply (matched_of e config ask) (cleared_of e config ask); next = poll_next e config ask }
answered_poll e config ask packet large is bytes =
    let fits = packet_fits config ask is in
    answered_is e Execute (poll_commands config.idle config.retry ask.mask ask.value ask.turns) packet (poll_is_packet config ask packet is bytes) (let r = fits.reply in omega arith)

-- ---- what its reply says

abbrev short_reply : ℕ → ℕ → List ℕ
short_reply executed code = 0x7F ∷ 4 ∷ 4 ∷ 0 ∷ 5 ∷ executed ∷ code ∷ 5 ∷ 1 ∷ 1 ∷ 4 ∷ 0 ∷ []

reply_is : (d u : Transferred) → d.words ≡ [] → u ≡ record { executed = 1; response = Good; words = []; next = record d.next { mask = 0 } } → poll_reply d u ≡ short_reply d.executed (code_of d.response)
reply_is d u none clears =
    (λ i. poll_reply (record { executed = d.executed; response = d.response; words = none i; next = d.next }) (clears i))

read_known : (c : CommandValue) (a : ReplyValue) → IsCommand c → Answers c a → is_read c (reply_bytes a) ≡ true
read_known c a command may = ap (λ x. is_some (shown_in x)) (reply_complete c a command may)

framed_true : (a b c : Bool) → a ≡ true → b ≡ true → c ≡ true → (a && (b && c)) ≡ true
framed_true true true true e f g = refl
framed_true true true false e f g = absurd (cc)
framed_true true false c e f g = absurd (cc)
framed_true false b c e f g = absurd (cc)

is_matched : (m : Bool) → match_end (Some (cond m Good Mismatch)) ≡ Ok m
is_matched true = refl
is_matched false = refl

reads_poll : (p : TransferState) (config : Config) (ask : PollAsk) → IsPoll config ask → bank p.line.target ≡ 0 →
    matched_in config ask (poll_reply (poll_matched p config.retry ask.mask ask.value ask.turns) (poll_cleared p config.retry ask.mask ask.value ask.turns))
    ≡ Ok (has_matched (poll_result ask.turns ask.mask ask.value p.line.target))
reads_poll p config ask is e =
    let d : Transferred = poll_matched p config.retry ask.mask ask.value ask.turns in
    let u : Transferred = poll_cleared p config.retry ask.mask ask.value ask.turns in
    let does = polls_at_once p config.retry ask.mask ask.value ask.turns e is.low in
    let fits = packet_fits config ask is in
    let whole = fits.packet in
    let commands = whole.commands in
    let bytes : List ℕ = short_reply d.executed (code_of d.response) in
    let m : Bool = has_matched (poll_result ask.turns ask.mask ask.value p.line.target) in
    let short : poll_reply d u ≡ bytes = reply_is d u does.words does.clears in
    let before : is_read (Configure config.idle config.retry (ask.turns - 1)) (4 ∷ 0 ∷ []) ≡ true = read_known (Configure config.idle config.retry (ask.turns - 1)) (Status 4 0) commands.0 (refl, refl) in
    let after : is_read (Configure config.idle config.retry 0) (4 ∷ 0 ∷ []) ≡ true = read_known (Configure config.idle config.retry 0) (Status 4 0) (is.idle, is.retry, omega arith) (refl, refl) in
    let cleared : is_read (Transfer clear_mask) (5 ∷ 1 ∷ 1 ∷ []) ≡ true =
    ap (λ (x : Transferred). is_read (Transfer clear_mask) (reply_bytes (transfer_answer x))) (sym does.clears) ∙ read_known (Transfer clear_mask) (transfer_answer u) commands.1.1.0 does.clear_answers in
    let framed : is_framed config ask bytes ≡ true = framed_true (is_read (Configure config.idle config.retry (ask.turns - 1)) (4 ∷ 0 ∷ [])) (is_read (Transfer clear_mask) (5 ∷ 1 ∷ 1 ∷ [])) (is_read (Configure config.idle config.retry 0) (4 ∷ 0 ∷ [])) before cleared after in
    let value : match_by (shown_in (reply_read (Transfer (poll_requests ask.mask ask.value)) (5 ∷ d.executed ∷ code_of d.response ∷ []))) ≡ Ok m =
    ap (λ (xs : List ℕ). match_by (shown_in (reply_read (Transfer (poll_requests ask.mask ask.value)) xs))) (λ i. reply_bytes (transfer_answer (record { executed = d.executed; response = d.response; words = sym does.words i; next = d.next })))
    ∙ ap (λ x. match_by (shown_in x)) (reply_complete (Transfer (poll_requests ask.mask ask.value)) (transfer_answer d) commands.1.0 does.answers)
    ∙ ap match_end (response-code d.response)
    ∙ ap (λ (x : Response). match_end (Some x)) does.response
    ∙ is_matched m in
    ap (matched_in config ask) short
    ∙ ap (λ b. cond b (match_by (shown_in (reply_read (Transfer (poll_requests ask.mask ask.value)) (5 ∷ d.executed ∷ code_of d.response ∷ [])))) (Err ends.ReplyBad)) framed
    ∙ value

-- ---- what it does

acts_poll : (p q : TransferState) (config : Config) (ask : PollAsk) → IsPoll config ask → bank p.line.target ≡ 0 → IsGuardOpen p → q ≡ poll_after p config.retry ask.mask ask.value ask.turns → Acts (reads_of ask) p q
acts_poll p q config ask is e guard next =
    let does = polls_at_once p config.retry ask.mask ask.value ask.turns e is.low in
    let all = next ∙ does.after in
    let target = ap (λ (x : TransferState). x.line.target) all in
    let kept = poll_clear ask.turns ask.mask ask.value p.line.target guard.clear does.passes in
    record {
      passes = does.passes;
      target = target;
      work = ap (λ (x : TransferState). x.work) all;
      number = ap (λ (x : TransferState). x.line.number) all;
      retries = ap (λ (x : TransferState). x.ended_retries) all;
      pending = ap (λ (x : TransferState). x.pending) all;
      mask = ap (λ (x : TransferState). x.mask) all ∙ sym guard.mask;
      matches = ap (λ (x : TransferState). x.setting.matches) all ∙ sym guard.matches;
      stalls = ap (λ (x : TransferState). x.setting.stalls) all;
      dpidr = ap (λ (t : TargetState). t.dpidr) target ∙ kept.dpidr;
      clear = λ _. ap (λ (t : TargetState). t.sticky) target ∙ kept.clear;
      in_range = λ h. subst (λ (t : TargetState). IsInRange t) (sym target) (let r = acted_in_range p.line.target (reads_of ask) h tt in r.next);
    }

-- ---- over a bench

-- what is so of the packet of a poll
pub record IsPollSent (given : Limits) (config : Config) (ask : PollAsk) (packet : List ℕ) : Type 0 where
  pub limits : AreLimits given
  pub poll : IsPoll config ask
  pub bytes : packet ≡ packet_bytes (packet_of config ask)

ran : (given : Limits) (config : Config) (ask : PollAsk) (packet : List ℕ) (m : BenchState) → IsPollSent given config ask packet → IsReady given m →
    packet_answer m.probe.executor packet ≡ record { reply = poll_reply (matched_of m.probe.executor config ask) (cleared_of m.probe.executor config ask); next = poll_next m.probe.executor config ask }
ran given config ask packet m is ready =
    let limits : AreLimits m.probe.executor.limits = subst AreLimits (sym ready.limits) is.limits in
    answered_poll m.probe.executor config ask packet limits.size_low is.poll is.bytes

polled_one : (given : Limits) (config : Config) (ask : PollAsk) (packet reply : List ℕ) (result : Result Bool FlightEnd) (m n : BenchState) → IsPollSent given config ask packet → result ≡ matched_in config ask reply →
    IsReady given m → bank (transfers_of m).line.target ≡ 0 → HasAnswered packet reply m n → PolledBy config ask result m n
polled_one given config ask packet reply result m n is read ready bank_is answers =
    let e : ExecutorState = m.probe.executor in
    let flies = ready.flies in
    let all = ran given config ask packet m is ready in
    let bytes : reply ≡ poll_reply (matched_of e config ask) (cleared_of e config ask) = answers.answer ∙ ap (λ (x : Answered). x.reply) all in
    let says : result ≡ Ok (has_matched (poll_result ask.turns ask.mask ask.value e.transfers.line.target)) = read ∙ ap (matched_in config ask) bytes ∙ reads_poll e.transfers config ask is.poll bank_is in
    let next : n.probe.executor ≡ poll_next e config ask = answers.executor ∙ ap (λ (x : Answered). x.next) all in
    subst (λ (x : Result Bool FlightEnd). PolledBy config ask x m n) (sym says) (record {
      matched_is = refl;
      acted = record {
        acts = acts_poll (transfers_of m) (transfers_of n) config ask is.poll bank_is flies.guard (ap (λ (x : ExecutorState). x.transfers) next);
        idle = answers.idle;
        limits = ap (λ (x : ExecutorState). x.limits) next;
        starting = answers.starting;
      };
      retry = ap (λ (x : ExecutorState). x.transfers.setting.retry) next;
      idle_cycles = ap (λ (x : ExecutorState). x.idle) next;
    })

may_have_one : (given : Limits) (config : Config) (ask : PollAsk) (packet : List ℕ) (m n : BenchState) → IsPollSent given config ask packet → IsReady given m → bank (transfers_of m).line.target ≡ 0 →
    MayHaveRun packet m n → MayHavePolled config ask m n
may_have_one given config ask packet m n is ready bank_is (inl same) = inl same
may_have_one given config ask packet m n is ready bank_is (inr next) =
    let flies = ready.flies in
    let after : n.probe.executor ≡ poll_next m.probe.executor config ask = next ∙ ap (λ (x : Answered). x.next) (ran given config ask packet m is ready) in
    inr (record {
      acts = acts_poll (transfers_of m) (transfers_of n) config ask is.poll bank_is flies.guard (ap (λ (x : ExecutorState). x.transfers) after);
      retry = ap (λ (x : ExecutorState). x.transfers.setting.retry) after;
      idle_cycles = ap (λ (x : ExecutorState). x.idle) after;
    })

pub has_polled : (given : Limits) (config : Config) (ask : PollAsk) (packet reply : List ℕ) (result : Result Bool FlightEnd) (a b : Option BenchState) → IsPollSent given config ask packet →
    result ≡ matched_in config ask reply → StepsTo (λ m o. IsIdle m → HasAnswered packet reply m o) a b →
    StepsTo (λ m n. IsReady given m → bank (transfers_of m).line.target ≡ 0 → PolledBy config ask result m n) a b
has_polled given config ask packet reply result a b is read steps = steps_map (λ m n h ready bank_is. polled_one given config ask packet reply result m n is read ready bank_is (h ready.idle)) a b steps

pub may_have_polled : (given : Limits) (config : Config) (ask : PollAsk) (packet : List ℕ) (a b : Option BenchState) → IsPollSent given config ask packet → StepsTo (λ m o. IsIdle m → MayHaveRun packet m o) a b →
    StepsTo (λ m n. IsReady given m → bank (transfers_of m).line.target ≡ 0 → PolledBy config ask (Err ends.BenchFault) m n) a b
may_have_polled given config ask packet a b is steps = steps_map (λ m n h ready bank_is. may_have_one given config ask packet m n is ready bank_is (h ready.idle)) a b steps

pub read_kept : (config : Config) (ask : PollAsk) (reply : List ℕ) (replies : List (List ℕ)) (result : Result Bool FlightEnd) → result ≡ matched_in config ask reply → replies ≡ reply ∷ [] →
    result ≡ matched_read config ask replies
read_kept config ask reply replies result read is = read ∙ ap (matched_read config ask) (sym is)
