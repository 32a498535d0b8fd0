-- A flight in one packet, a block of writes or one Transfer.
use Rattle.std.proofs.Common.{◌≡◌, ℕ, ◌-◌, ◌≤◌, Bool, true, false, List, [], ◌++◌, take, inl, inr, Option, Some, None, refl, ap, sym, subst, ◌∙◌, append-nil, arith}
use Rattle.target_machine.specs.InRange.{IsInRange}
use Rattle.target_machine.specs.State.{TargetState}
use Rattle.target_machine.specs.declared.access.RegAccess.{RegAccess}
use Rattle.dap_replies.proofs.ReplyAgain.{reply_complete}
use Rattle.dap_messages.specs.declared.command.PacketKind.TheVariants.{Plain}
use Rattle.dap_messages.specs.Commands.{IsCommand, command_bytes}
use Rattle.dap_messages.specs.Replies.{Answers, ReplyValue, reply_bytes}
use Rattle.dap_replies.specs.ReplyViews.{reply_shown}
use Rattle.dap_replies.proofs.ReplyLaws.{response-code}
use Rattle.dap_messages.specs.Responses.{code_of, response_of}
use Rattle.dap_transfer.specs.Block.{block_result}
use Rattle.dap_transfer.specs.State.{TransferState, Transferred}
use Rattle.dap_transfer.specs.Transfer.{transfer_result}
use Rattle.probe_core.specs.Bench.{BenchState, StepsTo}
use Rattle.probe_core.specs.Commands.{command_result, with_transfers}
use Rattle.probe_core.specs.Packet.{Answered, packet_answer}
use Rattle.probe_core.specs.Probe.{ExecutorState}
use Rattle.probe_core.specs.Ranges.{AreLimits}
use Rattle.probe_core.specs.declared.job.Limits.{Limits}
use Rattle.flight_forms.specs.declared.form.Form.{Form}
use Rattle.flight_forms.specs.Flights.{DoesPart, Part, part_of, words_of}
use Rattle.flight_forms.proofs.Blocks.{block_answers, does_block}
use Rattle.flight_forms.proofs.TransferAnswers.{transfer_answers}
use Rattle.flight_forms.proofs.Transfers.{does_transfer}
use Rattle.flight_forms.specs.Packets.{FitsPacket, block_answer, transfer_answer}
use Rattle.flight_forms.specs.Packing.{AreTaken, AreWords, requests_for}
use Rattle.batch_packer.proofs.OnceLemmas.{reads_once}
use Rattle.batch_packer.proofs.PacketLemmas.{answered_one}
use Rattle.batch_packer.proofs.RangeLemmas.{taken_in_range}
use Rattle.probe_core.proofs.StateSteps.{steps_map}
use Rattle.batch_packer.specs.Alone.{IsBlock, one_command, one_form}
use Rattle.batch_packer.specs.Exchanges.{HasAnswered, IsIdle, MayHaveRun}
use Rattle.batch_packer.specs.Flying.{HasFlown, HasFlownBy, IsReady, MayHaveFlown, OnceBy, transfers_of}
use Rattle.batch_packer.specs.Readings.{IsPart, IsSeen, IsShown, part_as, part_in, part_with, reading, shown_in}
use Rattle.batch_packer.specs.declared.part.FlightProgress.{FlightProgress}

-- what the command does
abbrev one_done : Bool → TransferState → List RegAccess → Transferred
one_done true p accesses = block_result p 0x0D (words_of accesses)
one_done false p accesses = transfer_result p (requests_for false accesses)

-- what its reply says
abbrev one_answer : Bool → Transferred → ReplyValue
one_answer true d = block_answer d
one_answer false d = transfer_answer d

abbrev one_words : Bool → Transferred → List ℕ
one_words true d = []
one_words false d = d.words

-- and shows
abbrev one_part : Bool → Transferred → List RegAccess → Part
one_part b d accesses = part_of (take d.executed (requests_for false accesses)) d.response (one_words b d)

-- it does a part of the accesses, and its reply is one that it may get
pub record DoesOne (b : Bool) (p : TransferState) (accesses : List RegAccess) : Type 0 where
  pub answers : Answers (one_command b accesses) (one_answer b (one_done b p accesses))
  pub does : DoesPart p (one_done b p accesses).next accesses (one_part b (one_done b p accesses) accesses)
  pub mask : (one_done b p accesses).next.mask ≡ p.mask
  pub once : OnceBy (one_form b) accesses (one_part b (one_done b p accesses) accesses) p (one_done b p accesses).next

pub less_none : (n : ℕ) → n - 0 ≡ n
less_none n = omega arith

-- what the reply shows is that part
shows_part : (b : Bool) (d : Transferred) (accesses : List RegAccess) → part_as 0 (requests_for false accesses) (reply_shown (one_answer b d)) (response_of (code_of d.response)) ≡ Some (one_part b d accesses)
shows_part true d accesses =
    ap (part_as 0 (requests_for false accesses) (reply_shown (block_answer d))) (response-code d.response)
    ∙ ap (λ n. Some (part_of (take n (requests_for false accesses)) d.response [])) (less_none d.executed)
shows_part false d accesses =
    ap (part_as 0 (requests_for false accesses) (reply_shown (transfer_answer d))) (response-code d.response)
    ∙ ap (λ n. Some (part_of (take n (requests_for false accesses)) d.response d.words)) (less_none d.executed)

code_shown : (b : Bool) (d : Transferred) → (reply_shown (one_answer b d)).response ≡ code_of d.response
code_shown true d = refl
code_shown false d = refl

pub reads_one : (b : Bool) (p : TransferState) (accesses : List RegAccess) → IsCommand (one_command b accesses) → DoesOne b p accesses →
    reading (one_command b accesses) 0 (requests_for false accesses) (reply_bytes (one_answer b (one_done b p accesses))) ≡ Some (one_part b (one_done b p accesses) accesses)
reads_one b p accesses command does =
    let d : Transferred = one_done b p accesses in
    ap (λ x. part_in 0 (requests_for false accesses) (shown_in x)) (reply_complete (one_command b accesses) (one_answer b d) command does.answers)
    ∙ ap (λ code. part_as 0 (requests_for false accesses) (reply_shown (one_answer b d)) (response_of code)) (code_shown b d)
    ∙ shows_part b d accesses

done_is : (b : Bool) (e : ExecutorState) (accesses : List RegAccess) → command_result e (one_command b accesses)
    ≡ (let d = one_done b e.transfers accesses in record { answer = one_answer b d; next = with_transfers e d.next })
done_is true e accesses = refl
done_is false e accesses = refl

-- what a probe answers to its packet
pub answered_alone : (b : Bool) (e : ExecutorState) (accesses : List RegAccess) (packet : List ℕ) → e.limits.packet_size ≤ 1024 → FitsPacket e.limits.packet_size 0 (one_command b accesses) →
    packet ≡ command_bytes (one_command b accesses) →
    packet_answer e packet ≡ (let d = one_done b e.transfers accesses in record { reply = reply_bytes (one_answer b d); next = with_transfers e d.next })
answered_alone b e accesses packet short fits is =
    answered_one e Plain (one_command b accesses) packet short fits (is ∙ sym (append-nil (command_bytes (one_command b accesses))))
    ∙ ap (λ x. record { reply = reply_bytes x.answer ++ []; next = x.next }) (done_is b e accesses)
    ∙ ap (λ bytes. record { reply = bytes; next = with_transfers e (one_done b e.transfers accesses).next }) (append-nil (reply_bytes (one_answer b (one_done b e.transfers accesses))))

-- the target after it
pub after_in_range : (p q : TransferState) (accesses : List RegAccess) (part : Part) → DoesPart p q accesses part → IsInRange p.line.target → AreWords accesses → IsInRange q.line.target
after_in_range p q accesses part does h words =
    let made = does.made in
    subst (λ (t : TargetState). IsInRange t) (sym made.target) (taken_in_range p.line.target part.performed accesses h words)

pub one_does : (b : Bool) (p : TransferState) (accesses : List RegAccess) → (b ≡ true → IsBlock accesses) → AreTaken accesses → AreWords accesses → p.line.target.sticky ≡ false →
    IsInRange p.line.target → DoesOne b p accesses
one_does true p accesses block taken words clear h = record {
  answers = (let is = block refl in block_answers p is.0 accesses is.2 clear);
  does = (let is = block refl in (does_block p is.0 accesses is.2 clear).0);
  mask = (let is = block refl in (does_block p is.0 accesses is.2 clear).1);
  once = λ form one. absurd (cc);
}
one_does false p accesses block taken words clear h = record {
  answers = transfer_answers p accesses taken words clear h;
  does = (does_transfer p accesses taken clear).0;
  mask = (does_transfer p accesses taken clear).1;
  once = λ form one. reads_once p accesses one (does_transfer p accesses taken clear).1;
}

-- after an exchange: what the reply shows, and what was done
pub flown_alone : (b : Bool) (given : Limits) (accesses : List RegAccess) (packet reply : List ℕ) (m n : BenchState) → given.packet_size ≤ 1024 → AreWords accesses →
    FitsPacket given.packet_size 0 (one_command b accesses) → packet ≡ command_bytes (one_command b accesses) → IsReady given m → DoesOne b (transfers_of m) accesses → HasAnswered packet reply m n →
    (part : Part) × (reading (one_command b accesses) 0 (requests_for false accesses) reply ≡ Some part) × HasFlown (one_form b) accesses part m n
flown_alone b given accesses packet reply m n short words fits is ready does has =
    let e : ExecutorState = m.probe.executor in
    let d : Transferred = one_done b e.transfers accesses in
    let part : Part = one_part b d accesses in
    let short_here : e.limits.packet_size ≤ 1024 = subst (λ (l : Limits). l.packet_size ≤ 1024) (sym ready.limits) short in
    let fits_here : FitsPacket e.limits.packet_size 0 (one_command b accesses) = subst (λ (l : Limits). FitsPacket l.packet_size 0 (one_command b accesses)) (sym ready.limits) fits in
    let ran = answered_alone b e accesses packet short_here fits_here is in
    let bytes : reply ≡ reply_bytes (one_answer b d) = has.answer ∙ ap (λ (x : Answered). x.reply) ran in
    let next : n.probe.executor ≡ with_transfers e d.next = has.executor ∙ ap (λ (x : Answered). x.next) ran in
    let transfers : transfers_of n ≡ d.next = ap (λ (x : ExecutorState). x.transfers) next in
    let flies = ready.flies in
    let guard = flies.guard in
    let made : DoesPart (transfers_of m) (transfers_of n) accesses part = subst (λ (q : TransferState). DoesPart e.transfers q accesses part) (sym transfers) does.does in (
      part,
      ap (reading (one_command b accesses) 0 (requests_for false accesses)) bytes ∙ reads_one b e.transfers accesses fits.command does,
      record {
        does = made;
        mask = λ unshut. ap (λ (q : TransferState). q.mask) transfers ∙ does.mask ∙ guard.mask;
        executor = next ∙ ap (with_transfers e) (sym transfers);
        idle = has.idle;
        starting = has.starting;
        in_range = after_in_range (transfers_of m) (transfers_of n) accesses part made flies.in_range words;
        once = subst (λ (q : TransferState). OnceBy (one_form b) accesses part e.transfers q) (sym transfers) does.once;
      },
    )

-- after one that failed
pub ran_alone : (b : Bool) (given : Limits) (accesses : List RegAccess) (packet : List ℕ) (m n : BenchState) → given.packet_size ≤ 1024 →
    FitsPacket given.packet_size 0 (one_command b accesses) → packet ≡ command_bytes (one_command b accesses) → IsReady given m → DoesOne b (transfers_of m) accesses → MayHaveRun packet m n →
    MayHaveFlown (one_form b) accesses m n
ran_alone b given accesses packet m n short fits is ready does (inl same) = record { either = inl (ap (λ (x : ExecutorState). x.transfers) same); idle_cycles = ap (λ (x : ExecutorState). x.idle) same }
ran_alone b given accesses packet m n short fits is ready does (inr ran) =
    let e : ExecutorState = m.probe.executor in
    let d : Transferred = one_done b e.transfers accesses in
    let short_here : e.limits.packet_size ≤ 1024 = subst (λ (l : Limits). l.packet_size ≤ 1024) (sym ready.limits) short in
    let fits_here : FitsPacket e.limits.packet_size 0 (one_command b accesses) = subst (λ (l : Limits). FitsPacket l.packet_size 0 (one_command b accesses)) (sym ready.limits) fits in
    let next = ran ∙ ap (λ (x : Answered). x.next) (answered_alone b e accesses packet short_here fits_here is) in
    let after = ap (λ (x : ExecutorState). x.transfers) (sym next) in
    record {
      either = inr (
        one_part b d accesses,
        subst (λ (q : TransferState). DoesPart e.transfers q accesses (one_part b d accesses)) after does.does,
        subst (λ (q : TransferState). OnceBy (one_form b) accesses (one_part b d accesses) e.transfers q) after does.once,
      );
      idle_cycles = ap (λ (x : ExecutorState). x.idle) next;
    }

-- ---- what was read is what was done

pub part_same : (part : Part) (progress : FlightProgress) (old new : List (Option ℕ)) → IsPart part progress old new → old ≡ [] → part_with progress new ≡ part
part_same part progress old new is none =
    λ i. record { performed = is.performed i; confirmed = is.confirmed i; response = is.response i; values = (is.values ∙ ap (λ xs. xs ++ part.values) none) i }

-- what was shown with no value before it
pub seen_shown : (found : Option Part) (progress : Option FlightProgress) (new : List (Option ℕ)) → IsShown found progress [] new → IsSeen found progress new
seen_shown None None new is = tt
seen_shown None (Some progress) new is = absurd is
seen_shown (Some part) None new is = absurd is
seen_shown (Some part) (Some progress) new is = sym (part_same part progress [] new is refl)

pub flown_by : (form : Form) (accesses : List RegAccess) (found : Option Part) (progress : Option FlightProgress) (new : List (Option ℕ)) (part : Part) (m n : BenchState) →
    IsSeen found progress new → found ≡ Some part → HasFlown form accesses part m n → HasFlownBy form accesses progress new m n
flown_by form accesses None progress new part m n is e has = absurd (not_both e)
  where
    not_both : ◌≡◌ {A = Option Part} None (Some part) → ⊥
    not_both g = cc
flown_by form accesses (Some found) None new part m n is e has = absurd is
flown_by form accesses (Some found) (Some progress) new part m n is e has =
    let same : part_with progress new ≡ part = sym is ∙ ap (part_or found) e in
    subst (λ (x : Part). HasFlown form accesses x m n) (sym same) has
  where
    part_or : Part → Option Part → Part
    part_or d None = d
    part_or d (Some x) = x

-- ---- over a bench

pub flew_alone : (b : Bool) (given : Limits) (accesses : List RegAccess) (packet reply : List ℕ) (progress : Option FlightProgress) (new : List (Option ℕ)) (x y : Option BenchState) →
    AreLimits given → (b ≡ true → IsBlock accesses) → AreTaken accesses → AreWords accesses → FitsPacket given.packet_size 0 (one_command b accesses) →
    packet ≡ command_bytes (one_command b accesses) → IsSeen (reading (one_command b accesses) 0 (requests_for false accesses) reply) progress new →
    StepsTo (λ m o. IsIdle m → HasAnswered packet reply m o) x y → StepsTo (λ m n. IsReady given m → HasFlownBy (one_form b) accesses progress new m n) x y
flew_alone b given accesses packet reply progress new x y limits block taken words fits is read steps =
    steps_map one x y steps
  where
    one : (m n : BenchState) → (IsIdle m → HasAnswered packet reply m n) → IsReady given m → HasFlownBy (one_form b) accesses progress new m n
    one m n has ready =
        let flies = ready.flies in
        let guard = flies.guard in
        let flown = flown_alone b given accesses packet reply m n limits.size_high words fits is ready (one_does b (transfers_of m) accesses block taken words guard.clear flies.in_range) (has ready.idle) in
        flown_by (one_form b) accesses (reading (one_command b accesses) 0 (requests_for false accesses) reply) progress new flown.0 m n read flown.1 flown.2

pub may_have_flown : (b : Bool) (given : Limits) (accesses : List RegAccess) (packet : List ℕ) (x y : Option BenchState) →
    AreLimits given → (b ≡ true → IsBlock accesses) → AreTaken accesses → AreWords accesses → FitsPacket given.packet_size 0 (one_command b accesses) →
    packet ≡ command_bytes (one_command b accesses) →
    StepsTo (λ m o. IsIdle m → MayHaveRun packet m o) x y → StepsTo (λ m n. IsReady given m → MayHaveFlown (one_form b) accesses m n) x y
may_have_flown b given accesses packet x y limits block taken words fits is steps =
    steps_map one x y steps
  where
    one : (m n : BenchState) → (IsIdle m → MayHaveRun packet m n) → IsReady given m → MayHaveFlown (one_form b) accesses m n
    one m n may ready =
        let flies = ready.flies in
        let guard = flies.guard in
        ran_alone b given accesses packet m n limits.size_high fits is ready (one_does b (transfers_of m) accesses block taken words guard.clear flies.in_range) (may ready.idle)
