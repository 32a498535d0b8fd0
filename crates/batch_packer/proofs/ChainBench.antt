-- A chain of held packets over a bench.
use Rattle.std.proofs.Common.{◌≡◌, ℕ, zero, suc, ◌+◌, ◌-◌, ◌<◌, ◌≤◌, ◌⊎◌, inl, inr, arith, take, length, Bool, true, false, cond, eqb, not, Option, Some, List, [], ◌∷◌, ◌++◌, fold, refl, ap, sym, ◌∙◌, subst, append_assoc, append-nil, slice_get}
use Rattle.std.proofs.lemmas.Bool.Decides.{nat_tests}
use Rattle.std.specs.List.{AllByRecursion}
use Rattle.target_machine.specs.declared.access.RegAccess.{RegAccess}
use Rattle.dap_messages.specs.declared.command.PacketKind.{PacketKind}
use Rattle.dap_messages.specs.declared.command.PacketKind.TheVariants.{Execute, Queue}
use Rattle.dap_messages.specs.declared.request.Response.{Response}
use Rattle.dap_messages.specs.declared.request.Response.TheVariants.{Good, Wait, Fault, Mismatch}
use Rattle.dap_messages.specs.Commands.{bytes_of_kind, command_bytes}
use Rattle.dap_transfer.specs.State.{TransferState}
use Rattle.probe_core.specs.Bench.{BenchState, Exchange, Reported, StepsTo, counted_up, bench_after_reply, reported_after_reply, reported_after_packet, bench_after_packet}
use Rattle.probe_core.specs.Commands.{with_transfers}
use Rattle.probe_core.specs.Probe.{ExecutorState, ProbeState, is_queued}
use Rattle.probe_core.specs.declared.job.Limits.{Limits}
use Rattle.flight_forms.proofs.ChainAnswers.{chain_answers}
use Rattle.flight_forms.proofs.Chains.{does_chain}
use Rattle.flight_forms.specs.Chains.{AllTaken, LeavesGuard, all_of, chain_after, chain_part, chain_replies, nothing_yet}
use Rattle.flight_forms.specs.Flights.{DoesPart, Part}
use Rattle.flight_forms.specs.Packets.{FitChain, FitsPacket, chain_kind, chain_packets, guarded_command}
use Rattle.flight_forms.specs.Packing.{AreWords}
use Rattle.flight_forms.specs.declared.form.Form.TheVariants.{Chain}
use Rattle.batch_packer.proofs.AloneLemmas.{after_in_range, flown_by}
use Rattle.batch_packer.proofs.ChainLemmas.{chain_flown, chain_ran, chain_taken, served_probe, whole_chain_shows, chain_kinds}
use Rattle.batch_packer.proofs.PacketLemmas.{fits_more}
use Rattle.probe_core.proofs.StateSteps.{steps_map, steps_then}
use Rattle.batch_packer.specs.ChainReadings.{readings_after}
use Rattle.batch_packer.specs.Exchanges.{IsOpen}
use Rattle.batch_packer.specs.Flying.{HasFlown, HasFlownBy, IsReady, MayHaveFlown, NoneOrPart, transfers_of}
use Rattle.batch_packer.specs.Queues.{HandedSome, IsQueue, ServedSome}
use Rattle.batch_packer.specs.Readings.{IsSeen}
use Rattle.batch_packer.specs.declared.part.FlightProgress.{FlightProgress}
use Rattle.dap_messages.specs.Responses.{is_good}

-- ---- the packets

-- each part fits a larger packet too
pub chain_fits_more : (size more : ℕ) (parts : List (List RegAccess)) → size ≤ more → FitChain size parts → FitChain more parts
chain_fits_more size more [] h fits = tt
chain_fits_more size more (accesses ∷ parts) h fits = (fits_more size more 2 (guarded_command accesses) h fits.0, chain_fits_more size more parts h fits.1)

pub packet_count : (parts : List (List RegAccess)) → length (chain_packets parts) ≡ length parts
packet_count [] = refl
packet_count (accesses ∷ parts) = ap suc (packet_count parts)

pub some_is : (x y : List ℕ) → Some x ≡ Some y → y ≡ x
some_is x y e = cc

kind_long : (k : PacketKind) (accesses : List RegAccess) (size : ℕ) → (k ≡ Execute) ⊎ (k ≡ Queue) → FitsPacket size 2 (guarded_command accesses) → length (bytes_of_kind k (guarded_command accesses ∷ [])) ≤ size
kind_long k accesses size (inl is) fits = let a = ap length (append-nil (command_bytes (guarded_command accesses))) in let b = ap (λ j. length (bytes_of_kind j (guarded_command accesses ∷ []))) is in let c = fits.bytes in omega arith
kind_long k accesses size (inr is) fits = let a = ap length (append-nil (command_bytes (guarded_command accesses))) in let b = ap (λ j. length (bytes_of_kind j (guarded_command accesses ∷ []))) is in let c = fits.bytes in omega arith

kind_some : (k : PacketKind) (accesses : List RegAccess) → (k ≡ Execute) ⊎ (k ≡ Queue) → 0 < length (bytes_of_kind k (guarded_command accesses ∷ []))
kind_some k accesses (inl is) = let b = ap (λ j. length (bytes_of_kind j (guarded_command accesses ∷ []))) is in omega arith
kind_some k accesses (inr is) = let b = ap (λ j. length (bytes_of_kind j (guarded_command accesses ∷ []))) is in omega arith

some_packet : (parts : List (List RegAccess)) (i : ℕ) (packet : List ℕ) → slice_get (chain_packets parts) i ≡ Some packet → 0 < length packet
some_packet [] i packet at = absurd (cc)
some_packet (accesses ∷ parts) zero packet at =
    let is = ap length (some_is (bytes_of_kind (chain_kind parts) (guarded_command accesses ∷ [])) packet at) in let s = kind_some (chain_kind parts) accesses (chain_kinds parts) in omega arith
some_packet (accesses ∷ parts) (suc i) packet at = some_packet parts i packet at

short_packet : (size : ℕ) (parts : List (List RegAccess)) (i : ℕ) (packet : List ℕ) → FitChain size parts → slice_get (chain_packets parts) i ≡ Some packet → length packet ≤ size
short_packet size [] i packet fits at = absurd (cc)
short_packet size (accesses ∷ parts) zero packet fits at =
    let is = ap length (some_is (bytes_of_kind (chain_kind parts) (guarded_command accesses ∷ [])) packet at) in let s = kind_long (chain_kind parts) accesses size (chain_kinds parts) fits.0 in omega arith
short_packet size (accesses ∷ parts) (suc i) packet fits at = short_packet size parts i packet fits.1 at

held_packet : (parts : List (List RegAccess)) (i : ℕ) (packet : List ℕ) → slice_get (chain_packets parts) i ≡ Some packet → i + 1 < length (chain_packets parts) → is_queued packet ≡ true
held_packet [] i packet at below = absurd (cc)
held_packet (accesses ∷ []) zero packet at below = absurd (omega arith)
held_packet (accesses ∷ next ∷ parts) zero packet at below = ap is_queued (some_is (bytes_of_kind Queue (guarded_command accesses ∷ [])) packet at)
held_packet (accesses ∷ parts) (suc i) packet at below = held_packet parts i packet at (omega arith)

last_packet : (parts : List (List RegAccess)) (i : ℕ) (packet : List ℕ) → slice_get (chain_packets parts) i ≡ Some packet → is_queued packet ≡ true → i + 1 < length (chain_packets parts)
last_packet [] i packet at held = absurd (cc)
last_packet (accesses ∷ []) zero packet at held =
    absurd (let e : is_queued packet ≡ false = ap is_queued (some_is (bytes_of_kind Execute (guarded_command accesses ∷ [])) packet at) in cc)
last_packet (accesses ∷ []) (suc i) packet at held = absurd (cc)
last_packet (accesses ∷ next ∷ parts) zero packet at held = omega arith
last_packet (accesses ∷ next ∷ parts) (suc i) packet at held = let h = last_packet (next ∷ parts) i packet at held in omega arith

-- the packets of a chain are taken in this order
pub chain_is_queue : (limits : Limits) (parts : List (List RegAccess)) (packets : List (List ℕ)) → packets ≡ chain_packets parts → FitChain limits.packet_size parts → length parts ≤ limits.packet_count →
    IsQueue limits packets
chain_is_queue limits parts packets is fits few = subst (λ (xs : List (List ℕ)). IsQueue limits xs) (sym is) (record {
  some = some_packet parts;
  fits = λ i packet at. short_packet limits.packet_size parts i packet fits at;
  held = held_packet parts;
  last = last_packet parts;
  few = (let e = packet_count parts in omega arith);
})

-- ---- what is reported

abbrev ExchangeWith : Reported → List (List ℕ) → Reported → Type 0
ExchangeWith r packets u = record {
  held : u.held ≡ 0;
  waiting : u.waiting ≡ r.held + length packets;
  exchanges : u.exchanges ≡ cond (eqb r.held 0) (counted_up r.exchanges) r.exchanges;
  last : u.last ≡ cond (eqb r.held 0) (record { packets = packets; replies = [] }) (record { packets = r.last.packets ++ packets; replies = r.last.replies });
  limits : u.limits ≡ r.limits;
  faults : u.faults ≡ r.faults;
}

abbrev begun : Bool → List ℕ → Exchange → Exchange
begun b packet x = cond b (record { packets = packet ∷ []; replies = [] }) (record { packets = x.packets ++ packet ∷ []; replies = x.replies })

by_held : (b : Bool) (packet : List ℕ) (rest : List (List ℕ)) (x : Exchange) → ◌≡◌ {A = Exchange}
    (record { packets = (begun b packet x).packets ++ rest; replies = (begun b packet x).replies })
    (cond b (record { packets = packet ∷ rest; replies = [] }) (record { packets = x.packets ++ packet ∷ rest; replies = x.replies }))
by_held true packet rest x = refl
by_held false packet rest x = ap (λ ps. record { packets = ps; replies = x.replies }) (append_assoc x.packets (packet ∷ []) rest)

not_none : (n : ℕ) → eqb (n + 1) 0 ≡ false
not_none n = grind (arith, nat_tests)

chain_sent : (r : Reported) (accesses : List RegAccess) (parts : List (List RegAccess)) → r.waiting ≡ 0 → ExchangeWith r (chain_packets (accesses ∷ parts)) (fold reported_after_packet r (chain_packets (accesses ∷ parts)))
chain_sent r accesses [] none = record {
  held = refl;
  waiting = refl;
  exchanges = refl;
  last = refl;
  limits = refl;
  faults = refl;
}
chain_sent r accesses (next ∷ parts) none =
    let packet : List ℕ = bytes_of_kind Queue (guarded_command accesses ∷ []) in
    let rest = chain_sent (reported_after_packet r packet) next parts none in
    let held : eqb (r.held + 1) 0 ≡ false = not_none r.held in
    record {
      held = rest.held;
      waiting = rest.waiting ∙ omega arith;
      exchanges = rest.exchanges ∙ ap (λ b. cond b (counted_up (reported_after_packet r packet).exchanges) (reported_after_packet r packet).exchanges) held;
      last = rest.last ∙ ap (λ b. cond b (record { packets = chain_packets (next ∷ parts); replies = [] }) (record { packets = (reported_after_packet r packet).last.packets ++ chain_packets (next ∷ parts); replies = (reported_after_packet r packet).last.replies })) held
          ∙ by_held (eqb r.held 0) packet (chain_packets (next ∷ parts)) r.last;
      limits = rest.limits;
      faults = rest.faults;
    }

abbrev TakenWith : Reported → List (List ℕ) → Reported → Type 0
TakenWith r replies u = record {
  held : u.held ≡ r.held;
  waiting : u.waiting ≡ r.waiting - length replies;
  exchanges : u.exchanges ≡ r.exchanges;
  last : u.last ≡ record { packets = r.last.packets; replies = r.last.replies ++ replies };
  limits : u.limits ≡ r.limits;
}

replies_taken : (r : Reported) (replies : List (List ℕ)) → TakenWith r replies (fold reported_after_reply r replies)
replies_taken r [] = record {
  held = refl;
  waiting = omega arith;
  exchanges = refl;
  last = ap (λ xs. record { packets = r.last.packets; replies = xs }) (sym (append-nil r.last.replies));
  limits = refl;
}
replies_taken r (reply ∷ replies) =
    let rest = replies_taken (reported_after_reply r reply) replies in
    record {
      held = rest.held;
      waiting = (let w = rest.waiting in omega arith);
      exchanges = rest.exchanges;
      last = rest.last ∙ ap (λ xs. record { packets = r.last.packets; replies = xs }) (append_assoc r.last.replies (reply ∷ []) replies);
      limits = rest.limits;
    }

-- after a chain was sent by an open bench
pub record ChainWaits (r u : Reported) (packets : List (List ℕ)) : Type 0 where
  pub waits : length packets ≤ u.waiting
  pub limits : u.limits ≡ r.limits

pub chain_waits : (r u : Reported) (parts : List (List RegAccess)) (packets : List (List ℕ)) → IsOpen r → 0 < length parts → packets ≡ chain_packets parts → u ≡ fold reported_after_packet r packets → ChainWaits r u packets
chain_waits r u [] packets opened some is sent_is = absurd (omega arith)
chain_waits r u (accesses ∷ parts) packets opened some is sent_is =
    let all = chain_sent r accesses parts opened.waiting in
    let u_is : u ≡ fold reported_after_packet r (chain_packets (accesses ∷ parts)) = sent_is ∙ ap (fold reported_after_packet r) is in
    record {
      waits = (let w = all.waiting in let e = ap (λ (x : Reported). x.waiting) u_is in let n = ap length is in omega arith);
      limits = ap (λ (x : Reported). x.limits) u_is ∙ all.limits;
    }

-- and each reply was taken
pub record ChainDone (r v : Reported) (packets replies : List (List ℕ)) : Type 0 where
  pub is_open : IsOpen v
  pub last : v.last ≡ record { packets = packets; replies = replies }
  pub exchanges : v.exchanges ≡ counted_up r.exchanges

pub chain_done : (r u v : Reported) (parts : List (List RegAccess)) (packets replies : List (List ℕ)) → IsOpen r → 0 < length parts → packets ≡ chain_packets parts → u ≡ fold reported_after_packet r packets →
    v ≡ fold reported_after_reply u replies → length replies ≡ length packets → ChainDone r v packets replies
chain_done r u v [] packets replies opened some is sent_is taken_is count = absurd (omega arith)
chain_done r u v (accesses ∷ parts) packets replies opened some is sent_is taken_is count =
    let xs : List (List ℕ) = chain_packets (accesses ∷ parts) in
    let all = chain_sent r accesses parts opened.waiting in
    let some_taken = replies_taken u replies in
    let u_is : u ≡ fold reported_after_packet r xs = sent_is ∙ ap (fold reported_after_packet r) is in
    let first : eqb r.held 0 ≡ true = ap (λ n. eqb n 0) opened.held in
    let last_sent : u.last ≡ record { packets = xs; replies = [] } =
    ap (λ (x : Reported). x.last) u_is ∙ all.last ∙ ap (λ b. cond b (record { packets = xs; replies = [] }) (record { packets = r.last.packets ++ xs; replies = r.last.replies })) first in
    record {
      is_open = record {
        held = ap (λ (x : Reported). x.held) taken_is ∙ some_taken.held ∙ ap (λ (x : Reported). x.held) u_is ∙ all.held;
        waiting = (let a = ap (λ (x : Reported). x.waiting) taken_is in let b = some_taken.waiting in let d = ap (λ (x : Reported). x.waiting) u_is in let e = all.waiting in let f = opened.held in let g = ap length is in omega arith);
      };
      last = ap (λ (x : Reported). x.last) taken_is ∙ some_taken.last ∙ ap (λ (x : Exchange). record { packets = x.packets; replies = x.replies ++ replies }) last_sent ∙ ap (λ ps. record { packets = ps; replies = replies }) (sym is);
      exchanges = ap (λ (x : Reported). x.exchanges) taken_is ∙ some_taken.exchanges ∙ ap (λ (x : Reported). x.exchanges) u_is ∙ all.exchanges ∙ ap (λ b. cond b (counted_up r.exchanges) r.exchanges) first;
    }

-- ---- what was done

mask_opened : (x : Response) (q : TransferState) → LeavesGuard x q → not (is_good x) ≡ false → q.mask ≡ 0
mask_opened Good q guard opened = guard.mask
mask_opened Wait q guard opened = absurd (cc)
mask_opened Fault q guard opened = absurd (cc)
mask_opened Mismatch q guard opened = absurd (cc)

handed_executor : (n : BenchState) (replies : List (List ℕ)) → (fold bench_after_reply n replies).probe.executor ≡ n.probe.executor
handed_executor n [] = refl
handed_executor n (x ∷ replies) = handed_executor (bench_after_reply n x) replies

-- after a chain whose replies were taken: what they show, and what was done
pub flown_chain : (given : Limits) (accesses : List RegAccess) (parts : List (List RegAccess)) (replies : List (List ℕ)) (m n o : BenchState) → given.packet_size ≤ 1024 →
    0 < length parts → all_of parts ≡ accesses → AreWords accesses → AllTaken parts → AllByRecursion AreWords parts → FitChain given.packet_size parts → IsReady given m →
    n ≡ fold bench_after_packet m (chain_packets parts) → HandedSome replies n o → length replies ≡ length parts →
    (part : Part) × (readings_after (Some nothing_yet) parts replies ≡ Some part) × HasFlown Chain accesses part m o
flown_chain given accesses [] replies m n o short some all words taken part_words fits ready sent_is handed_is count = absurd (omega arith)
flown_chain given accesses (first ∷ rest) replies m n o short some all words taken part_words fits ready sent_is handed_is count =
    let parts : List (List RegAccess) = first ∷ rest in
    let e : ExecutorState = m.probe.executor in
    let p : TransferState = e.transfers in
    let idle = ready.idle in
    let flies = ready.flies in
    let guard = flies.guard in
    let short_here : e.limits.packet_size ≤ 1024 = subst (λ (l : Limits). l.packet_size ≤ 1024) (sym ready.limits) short in
    let fits_here : FitChain e.limits.packet_size parts = subst (λ (l : Limits). FitChain l.packet_size parts) (sym ready.limits) fits in
    let gone = chain_flown m n o first rest replies idle.held idle.waiting short_here fits_here sent_is handed_is count in
    let chain = does_chain p parts taken guard in
    let part : Part = chain_part parts (chain_replies p parts) in
    let executor : o.probe.executor ≡ with_transfers e (chain_after p parts) = ap (λ (x : ProbeState). x.executor) gone.probe in
    let transfers : transfers_of o ≡ chain_after p parts = ap (λ (x : ExecutorState). x.transfers) executor in
    let made : DoesPart p (transfers_of o) accesses part =
    subst (λ (q : TransferState). DoesPart p q accesses part) (sym transfers) (subst (λ (xs : List RegAccess). DoesPart p (chain_after p parts) xs part) all chain.part) in (
      part,
      ap (readings_after (Some nothing_yet) parts) gone.replies_are
          ∙ whole_chain_shows p parts given.packet_size fits (chain_answers p parts taken part_words guard flies.in_range) chain.cut,
      record {
        does = made;
        mask = λ opened. ap (λ (q : TransferState). q.mask) transfers ∙ mask_opened part.response (chain_after p parts) chain.guard opened;
        executor = executor ∙ ap (with_transfers e) (sym transfers);
        idle = record { held = ap (λ (x : ProbeState). x.held) gone.probe; waiting = ap (λ (x : ProbeState). x.waiting) gone.probe };
        starting = gone.starting;
        in_range = after_in_range p (transfers_of o) accesses part made flies.in_range words;
        once = λ form one. absurd (cc);
      },
    )

-- ---- where a call failed

-- held packets are not executed
held_only : (m : BenchState) (k : ℕ) (parts : List (List RegAccess)) → k < length parts → (fold bench_after_packet m (take k (chain_packets parts))).probe.executor ≡ m.probe.executor
held_only m zero parts below = refl
held_only m (suc k) [] below = absurd (omega arith)
held_only m (suc k) (accesses ∷ []) below = absurd (omega arith)
held_only m (suc k) (accesses ∷ next ∷ parts) below = held_only (bench_after_packet m (bytes_of_kind Queue (guarded_command accesses ∷ []))) k (next ∷ parts) (omega arith)

chain_executed : (given : Limits) (accesses : List RegAccess) (parts : List (List RegAccess)) (m n : BenchState) → given.packet_size ≤ 1024 → 0 < length parts → all_of parts ≡ accesses → AllTaken parts →
    FitChain given.packet_size parts → IsReady given m → n ≡ fold bench_after_packet m (chain_packets parts) → MayHaveFlown Chain accesses m n
chain_executed given accesses [] m n short some all taken fits ready is = absurd (omega arith)
chain_executed given accesses (first ∷ rest) m n short some all taken fits ready is =
    let parts : List (List RegAccess) = first ∷ rest in
    let e : ExecutorState = m.probe.executor in
    let p : TransferState = e.transfers in
    let idle = ready.idle in
    let flies = ready.flies in
    let short_here : e.limits.packet_size ≤ 1024 = subst (λ (l : Limits). l.packet_size ≤ 1024) (sym ready.limits) short in
    let fits_here : FitChain e.limits.packet_size parts = subst (λ (l : Limits). FitChain l.packet_size parts) (sym ready.limits) fits in
    let chain = does_chain p parts taken flies.guard in
    let part : Part = chain_part parts (chain_replies p parts) in
    let probe : n.probe ≡ chain_taken m.probe parts = ap (λ (b : BenchState). b.probe) is ∙ served_probe m (chain_packets parts) ∙ chain_ran m.probe first rest idle.held idle.waiting short_here fits_here in
    let transfers : transfers_of n ≡ chain_after p parts = ap (λ (x : ProbeState). x.executor.transfers) probe in
    record {
      either = inr (part, subst (λ (q : TransferState). DoesPart p q accesses part) (sym transfers) (subst (λ (xs : List RegAccess). DoesPart p (chain_after p parts) xs part) all chain.part), λ form one. absurd (cc));
      idle_cycles = ap (λ (x : ProbeState). x.executor.idle) probe;
    }

take_most : (k : ℕ) (xs : List (List ℕ)) → length xs ≤ k → take k xs ≡ xs
take_most zero [] h = refl
take_most zero (x ∷ xs) h = absurd (omega arith)
take_most (suc k) [] h = refl
take_most (suc k) (x ∷ xs) h = ap (λ ys. x ∷ ys) (take_most k xs (omega arith))

by_count : (k n : ℕ) → (k < n) ⊎ (n ≤ k)
by_count k zero = inr (omega arith)
by_count zero (suc n) = inl (omega arith)
by_count (suc k) (suc n) = either (by_count k n)
  where
    either : (k < n) ⊎ (n ≤ k) → (suc k < suc n) ⊎ (suc n ≤ suc k)
    either (inl h) = inl (omega arith)
    either (inr h) = inr (omega arith)

pub some_sent : (given : Limits) (accesses : List RegAccess) (parts : List (List RegAccess)) (packets : List (List ℕ)) (m n : BenchState) → given.packet_size ≤ 1024 → 0 < length parts → all_of parts ≡ accesses →
    AllTaken parts → FitChain given.packet_size parts → packets ≡ chain_packets parts → IsReady given m → ServedSome packets m n → MayHaveFlown Chain accesses m n
some_sent given accesses parts packets m n short some all taken fits is ready served_some =
    by_cases (by_count served_some.count (length parts))
  where
    next : n ≡ fold bench_after_packet m (take served_some.count (chain_packets parts))
    next = served_some.next ∙ ap (λ xs. fold bench_after_packet m (take served_some.count xs)) is

    by_cases : (served_some.count < length parts) ⊎ (length parts ≤ served_some.count) → MayHaveFlown Chain accesses m n
    by_cases (inl below) =
        let same : n.probe.executor ≡ m.probe.executor = ap (λ (b : BenchState). b.probe.executor) next ∙ held_only m served_some.count parts below in
        record { either = inl (ap (λ (x : ExecutorState). x.transfers) same); idle_cycles = ap (λ (x : ExecutorState). x.idle) same }
    by_cases (inr most) =
        chain_executed given accesses parts m n short some all taken fits ready
        (next ∙ ap (fold bench_after_packet m) (take_most served_some.count (chain_packets parts) (let c = packet_count parts in omega arith)))

-- replies that were taken change no transfers
handed_transfers : (replies : List (List ℕ)) (n o : BenchState) → HandedSome replies n o → o.probe.executor ≡ n.probe.executor
handed_transfers replies n o handed_is = ap (λ (b : BenchState). b.probe.executor) handed_is.next ∙ handed_executor n replies

pub not_all_taken : (given : Limits) (accesses : List RegAccess) (parts : List (List RegAccess)) (packets replies : List (List ℕ)) (m n o : BenchState) → given.packet_size ≤ 1024 → 0 < length parts → all_of parts ≡ accesses →
    AllTaken parts → FitChain given.packet_size parts → packets ≡ chain_packets parts → IsReady given m → n ≡ fold bench_after_packet m packets → HandedSome replies n o → MayHaveFlown Chain accesses m o
not_all_taken given accesses parts packets replies m n o short some all taken fits is ready sent_is handed_is =
    after_taken (chain_executed given accesses parts m n short some all taken fits ready (sent_is ∙ ap (fold bench_after_packet m) is))
  where
    same : transfers_of o ≡ transfers_of n
    same = ap (λ (x : ExecutorState). x.transfers) (handed_transfers replies n o handed_is)

    by_either : NoneOrPart Chain accesses m n → NoneOrPart Chain accesses m o
    by_either (inl kept) = inl (same ∙ kept)
    by_either (inr made) = inr (made.0, subst (λ (q : TransferState). DoesPart (transfers_of m) q accesses made.0) (sym same) made.1, λ form one. absurd (cc))

    after_taken : MayHaveFlown Chain accesses m n → MayHaveFlown Chain accesses m o
    after_taken may = record { either = by_either may.either; idle_cycles = ap (λ (x : ExecutorState). x.idle) (handed_transfers replies n o handed_is) ∙ may.idle_cycles }

-- ---- over a bench

pub flew_chain : (given : Limits) (accesses : List RegAccess) (parts : List (List RegAccess)) (packets replies : List (List ℕ)) (progress : Option FlightProgress) (new : List (Option ℕ)) (a b c : Option BenchState) →
    given.packet_size ≤ 1024 → 0 < length parts → all_of parts ≡ accesses → AreWords accesses → AllTaken parts → AllByRecursion AreWords parts → FitChain given.packet_size parts → packets ≡ chain_packets parts →
    length replies ≡ length packets → IsSeen (readings_after (Some nothing_yet) parts replies) progress new →
    StepsTo (λ m n. n ≡ fold bench_after_packet m packets) a b → StepsTo (HandedSome replies) b c → StepsTo (λ m o. IsReady given m → HasFlownBy Chain accesses progress new m o) a c
flew_chain given accesses parts packets replies progress new a b c short some all words taken part_words fits is count read first second =
    steps_then one a b c first second
  where
    one : (m n o : BenchState) → n ≡ fold bench_after_packet m packets → HandedSome replies n o → IsReady given m → HasFlownBy Chain accesses progress new m o
    one m n o sent_is handed_is ready =
        let flown = flown_chain given accesses parts replies m n o short some all words taken part_words fits ready (sent_is ∙ ap (fold bench_after_packet m) is) handed_is (count ∙ ap length is ∙ packet_count parts) in
        flown_by Chain accesses (readings_after (Some nothing_yet) parts replies) progress new flown.0 m o read flown.1 flown.2

pub send_failed : (given : Limits) (accesses : List RegAccess) (parts : List (List RegAccess)) (packets : List (List ℕ)) (a b : Option BenchState) →
    given.packet_size ≤ 1024 → 0 < length parts → all_of parts ≡ accesses → AllTaken parts → FitChain given.packet_size parts → packets ≡ chain_packets parts →
    StepsTo (ServedSome packets) a b → StepsTo (λ m n. IsReady given m → MayHaveFlown Chain accesses m n) a b
send_failed given accesses parts packets a b short some all taken fits is h =
    steps_map (λ m n s ready. some_sent given accesses parts packets m n short some all taken fits is ready s) a b h

pub receive_failed : (given : Limits) (accesses : List RegAccess) (parts : List (List RegAccess)) (packets replies : List (List ℕ)) (a b c : Option BenchState) →
    given.packet_size ≤ 1024 → 0 < length parts → all_of parts ≡ accesses → AllTaken parts → FitChain given.packet_size parts → packets ≡ chain_packets parts →
    StepsTo (λ m n. n ≡ fold bench_after_packet m packets) a b → StepsTo (HandedSome replies) b c → StepsTo (λ m o. IsReady given m → MayHaveFlown Chain accesses m o) a c
receive_failed given accesses parts packets replies a b c short some all taken fits is first second =
    steps_then (λ m n o s t ready. not_all_taken given accesses parts packets replies m n o short some all taken fits is ready s t) a b c first second
