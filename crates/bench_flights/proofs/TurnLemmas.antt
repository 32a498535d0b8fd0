-- Polls read by read over a bench.
use Rattle.std.proofs.Common.{◌≡◌, ◌⊎◌, inl, inr, ◌∙◌, ℕ, zero, suc, ◌+◌, ◌-◌, ◌^◌, ◌<◌, ◌≤◌, min, Bool, true, false, cond, Option, Some, None, refl, sym, ap, subst, arith}
use Rattle.std.specs.Prelude.{◌==◌, ◌&&◌, bit_and, not}
use Rattle.std.proofs.lemmas.Bool.{eq-eqb, eqb-true}
use Rattle.target_machine.specs.Attempt.{Attempt, answers, attempt, bank, ctrl_stat, dp_read, is_free}
use Rattle.target_machine.specs.Plain.{Polled, Polls, dp_read_of, given_number, is_fault, poll_read, poll_result}
use Rattle.target_machine.specs.State.{TargetState}
use Rattle.target_machine.specs.declared.access.Outcome.{Outcome}
use Rattle.target_machine.specs.declared.access.Outcome.TheVariants.{Value, Done, Fault}
use Rattle.target_machine.proofs.AccessLaws.{stays}
use Rattle.target_calls.proofs.EntryLemmas.{weight_some}
use Rattle.dap_transfer.specs.State.{Setting, grown_work}
use Rattle.probe_core.specs.Bench.{BenchState, StepsTo}
use Rattle.probe_core.specs.Probe.{target_of, work_of}
use Rattle.access_calls.specs.Standing.{transfer_number_of}
use Rattle.batch_packer.specs.Flying.{CanFly}
use Rattle.batch_packer.specs.declared.ends.FlightEnd.{FlightEnd}
use Rattle.batch_packer.specs.declared.ends.FlightEnd.TheVariants as ends
use Rattle.bench_flights.specs.Flown.{DidLess, HasDoneWhole, LeftActionOff, WasUnanswered, matched_word}
use Rattle.bench_flights.specs.Wires.{HasLooked, HasRead, HasWaited, IsUnread, ReadOrNot}
use Rattle.bench_flights.proofs.LookLemmas.{first_turn, looked_done, looked_more, looked_none, looked_stops, more_reads, polled_more, polled_select, polled_stops, unmet_of, unmet_reads}
use Rattle.bench_flights.proofs.WireLemmas.{steps_join, steps_map}
use Rattle.dap_transfer.specs.WireTransfer.{RetryIsOver}

-- ---- one read is a poll of one turn

one_turn : (mask requested value : ℕ) (t : TargetState) (hit : Bool) → (attempt t (dp_read_of 0x4)).outcome ≡ Value value → (bit_and value mask == requested) ≡ hit →
    poll_result 1 mask requested t ≡ cond hit (record { outcome = Value 1; reads = 1; next = (first_turn t).next }) (record { outcome = Value 0; reads = 1; next = (first_turn t).next })
unfolding poll_result
one_turn mask requested value t hit gives is =
    ap (λ (o : Outcome). poll_read o (first_turn t).next mask requested (poll_result 0 mask requested (first_turn t).next)) gives
    ∙ ap (λ (b : Bool). cond b (record { outcome = Value 1; reads = 1; next = (first_turn t).next }) (record { outcome = Value 0; reads = 1; next = (first_turn t).next })) is

read_looked : (mask requested value : ℕ) (m o : BenchState) (hit : Bool) → HasRead value m o → (bit_and value mask == requested) ≡ hit → HasLooked mask requested 1 (cond hit 1 0) m o
read_looked mask requested value m o true h is =
    let all = one_turn mask requested value (target_of m.probe) true h.gives is in
    record {
      good = ap (λ (p : Polled). is_fault p.outcome) all;
      word_is = ap (λ (p : Polled). given_number p.outcome) (sym all);
      target = h.target ∙ ap (λ (p : Polled). p.next) (sym all);
      work = h.work ∙ ap (λ (p : Polled). grown_work (work_of m.probe) p.reads) (sym all);
      retries = h.retries;
      number = (let n = h.number in let r = ap (λ (p : Polled). p.reads) all in omega (arith, n, r));
      setting = h.setting;
      idle_cycles = h.idle_cycles;
      flies = h.flies;
    }
read_looked mask requested value m o false h is =
    let all = one_turn mask requested value (target_of m.probe) false h.gives is in
    record {
      good = ap (λ (p : Polled). is_fault p.outcome) all;
      word_is = ap (λ (p : Polled). given_number p.outcome) (sym all);
      target = h.target ∙ ap (λ (p : Polled). p.next) (sym all);
      work = h.work ∙ ap (λ (p : Polled). grown_work (work_of m.probe) p.reads) (sym all);
      retries = h.retries;
      number = (let n = h.number in let r = ap (λ (p : Polled). p.reads) all in omega (arith, n, r));
      setting = h.setting;
      idle_cycles = h.idle_cycles;
      flies = h.flies;
    }

-- ---- with another DPBANKSEL the reads change nothing

other_bank : (b : Bool) (p : Attempt) (t : TargetState) → b ≡ false → (cond b p (answers 0 t)).next ≡ t
other_bank true p t e = absurd (cc)
other_bank false p t e = refl

not_zero : (n : ℕ) → (n ≡ 0 → ⊥) → (n == 0) ≡ false
not_zero n other = by_test (n == 0) refl
  where
    by_test : (b : Bool) → (n == 0) ≡ b → (n == 0) ≡ false
    by_test true is = absurd (other (eqb-true n 0 is))
    by_test false is = is

read_same : (t : TargetState) → (bank t ≡ 0 → ⊥) → (first_turn t).next ≡ t
unfolding attempt
read_same t other =
    stays (t.sticky && not (is_free t (dp_read_of 0x4))) (record { outcome = Fault; next = t }) (dp_read t 0x4) t refl
    (other_bank (bank t == 0) (answers (ctrl_stat t) (record t { reads = min (t.reads + 1) (2 ^ 32 - 1) })) t (not_zero (bank t) other))

looked_same : (o : Outcome) (u : TargetState) (mask requested : ℕ) (rest : Polled) (t : TargetState) → u ≡ t → rest.next ≡ t → (poll_read o u mask requested rest).next ≡ t
looked_same Done u mask requested rest t h k = k
looked_same Fault u mask requested rest t h k = h
looked_same (Value n) u mask requested rest t h k = by_hit (bit_and n mask == requested)
  where
    by_hit : (b : Bool) → (cond b (record { outcome = Value 1; reads = 1; next = u }) (record rest { reads = rest.reads + 1 })).next ≡ t
    by_hit true = h
    by_hit false = k

polled_same : (n mask requested : ℕ) (t : TargetState) → (bank t ≡ 0 → ⊥) → (poll_result n mask requested t).next ≡ t
unfolding poll_result
polled_same zero mask requested t other = refl
polled_same (suc n) mask requested t other =
    let x : Attempt = first_turn t in
    let same : x.next ≡ t = read_same t other in
    looked_same x.outcome x.next mask requested (poll_result n mask requested x.next) t same
    (polled_same n mask requested x.next (λ zero_bank. other (ap (λ (u : TargetState). bank u) (sym same) ∙ zero_bank)) ∙ same)

-- ---- turn by turn

pub turns_begin : (x : Option BenchState) (mask requested : ℕ) → StepsTo (λ m o. CanFly m → HasLooked mask requested 0 0 m o) x x
turns_begin None mask requested = tt
turns_begin (Some m) mask requested = λ flies. looked_none mask requested m flies

turn_joined : (mask requested a value : ℕ) (hit : Bool) → (bit_and value mask == requested) ≡ hit → (m k o : BenchState) → (CanFly m → HasLooked mask requested a 0 m k) → (CanFly k → HasRead value k o) → CanFly m → HasLooked mask requested (a + 1) (cond hit 1 0) m o
turn_joined mask requested a value hit is m k o h r flies =
    let l = h flies in looked_more mask requested a 1 (cond hit 1 0) m k o l (read_looked mask requested value k o hit (r l.flies) is)

pub turn_next : (x y z : Option BenchState) (mask requested a value : ℕ) → (bit_and value mask == requested) ≡ false → StepsTo (λ m o. CanFly m → HasLooked mask requested a 0 m o) x y → StepsTo (λ m o. CanFly m → HasRead value m o) y z →
    StepsTo (λ m o. CanFly m → HasLooked mask requested (a + 1) 0 m o) x z
turn_next x y z mask requested a value is h r = steps_join _ _ _ (turn_joined mask requested a value false is) x y z h r

pub turn_met : (x y z : Option BenchState) (mask requested a value : ℕ) → (bit_and value mask == requested) ≡ true → StepsTo (λ m o. CanFly m → HasLooked mask requested a 0 m o) x y → StepsTo (λ m o. CanFly m → HasRead value m o) y z →
    StepsTo (λ m o. CanFly m → HasLooked mask requested (a + 1) 1 m o × (a + 1 ≡ (poll_result (a + 1) mask requested (target_of m.probe)).reads)) x z
turn_met x y z mask requested a value is h r =
    steps_join _ _ _ (λ m k o p q flies. let l = p flies in (turn_joined mask requested a value true is m k o p q flies, met_reads m k o l (q l.flies))) x y z h r
  where
    met_reads : (m k o : BenchState) → HasLooked mask requested a 0 m k → HasRead value k o → a + 1 ≡ (poll_result (a + 1) mask requested (target_of m.probe)).reads
    met_reads m k o l q =
        let t : TargetState = target_of m.probe in
        let all : poll_result (a + 1) mask requested t ≡ more_reads a (poll_result 1 mask requested (target_of k.probe)) =
        polled_more a 1 mask requested t (unmet_of mask requested a m k l) ∙ ap (λ (u : TargetState). more_reads a (poll_result 1 mask requested u)) (sym l.target) in
        let one = one_turn mask requested value (target_of k.probe) true q.gives is in
        (let n = ap (λ (p : Polled). p.reads) all in let r = ap (λ (p : Polled). p.reads) one in omega (arith, n, r))

met_there : (mask requested a rest turns : ℕ) (m o : BenchState) → a + rest ≡ turns → HasLooked mask requested a 1 m o → a ≡ (poll_result a mask requested (target_of m.probe)).reads → HasDoneWhole (Polls mask requested turns) (matched_word true) m o × (a ≡ (poll_result turns mask requested (target_of m.probe)).reads)
met_there mask requested a rest turns m o sum h reads = (
  looked_done mask requested turns 1 m o (subst (λ (n : ℕ). HasLooked mask requested n 1 m o) sum (looked_stops mask requested a rest m o h)),
  reads ∙ ap (λ (p : Polled). p.reads) (sym (polled_stops a rest mask requested (target_of m.probe) (sym h.word_is))) ∙ ap (λ (n : ℕ). (poll_result n mask requested (target_of m.probe)).reads) sum,
)

pub turns_met : (x z : Option BenchState) (mask requested a turns : ℕ) → a ≤ turns → StepsTo (λ m o. CanFly m → HasLooked mask requested a 1 m o × (a ≡ (poll_result a mask requested (target_of m.probe)).reads)) x z →
    StepsTo (λ m o. CanFly m → HasDoneWhole (Polls mask requested turns) (matched_word true) m o) x z × StepsTo (λ m o. CanFly m → a ≡ (poll_result turns mask requested (target_of m.probe)).reads) x z
turns_met x z mask requested a turns within h =
    let sum : a + (turns - a) ≡ turns = omega (arith, within) in (
      steps_map _ _ (λ m o f flies. let l = f flies in (met_there mask requested a (turns - a) turns m o sum l.0 l.1).0) x z h,
      steps_map _ _ (λ m o f flies. let l = f flies in (met_there mask requested a (turns - a) turns m o sum l.0 l.1).1) x z h,
    )

pub turns_used : (x z : Option BenchState) (mask requested turns : ℕ) → StepsTo (λ m o. CanFly m → HasLooked mask requested turns 0 m o) x z →
    StepsTo (λ m o. CanFly m → HasDoneWhole (Polls mask requested turns) (matched_word false) m o) x z × StepsTo (λ m o. CanFly m → turns ≡ (poll_result turns mask requested (target_of m.probe)).reads) x z
turns_used x z mask requested turns h = (
  steps_map _ _ (λ m o f flies. looked_done mask requested turns 0 m o (f flies)) x z h,
  steps_map _ _ (λ m o f flies. sym (unmet_reads turns mask requested (target_of m.probe) (unmet_of mask requested turns m o (f flies)))) x z h,
)

-- ---- where a read did not come

-- so many turns are fewer than all
fewer_reads : (mask requested a turns : ℕ) (m k : BenchState) → a < turns → HasLooked mask requested a 0 m k → a < (poll_result turns mask requested (target_of m.probe)).reads
fewer_reads mask requested a turns m k less h =
    let t : TargetState = target_of m.probe in
    let sum : a + (turns - a) ≡ turns = omega (arith, less) in
    let all : poll_result turns mask requested t ≡ more_reads a (poll_result (turns - a) mask requested (poll_result a mask requested t).next) =
    ap (λ (n : ℕ). poll_result n mask requested t) (sym sum) ∙ polled_more a (turns - a) mask requested t (unmet_of mask requested a m k h) in
    let some : 0 < (poll_result (turns - a) mask requested (poll_result a mask requested t).next).reads = weight_some (poll_result a mask requested t).next (Polls mask requested (turns - a)) (omega (arith, less)) in
    (let n = ap (λ (p : Polled). p.reads) all in omega (arith, n, some))

unread_less : (mask requested a turns : ℕ) (m k o : BenchState) → a < turns → HasLooked mask requested a 0 m k → IsUnread k o → DidLess (Polls mask requested turns) m o
unread_less mask requested a turns m k o less h u =
    let reads : (poll_result a mask requested (target_of m.probe)).reads ≡ a = unmet_reads a mask requested (target_of m.probe) (unmet_of mask requested a m k h) in
    let fewer = fewer_reads mask requested a turns m k less h in
    record {
      work = a;
      work_is = λ counts. (let w = h.work in let v = u.work in omega (arith, w, v, counts, reads, fewer));
      less = fewer;
      idle_cycles = u.idle_cycles ∙ h.idle_cycles;
      target = inr (a, fewer, record { same = ap (λ (t : TargetState). record t { rdbuff = 0 }) (u.target ∙ h.target) });
    }

bank_of : (mask requested a : ℕ) (m k : BenchState) → HasLooked mask requested a 0 m k → bank (target_of m.probe) ≡ 0 → bank (target_of k.probe) ≡ 0
bank_of mask requested a m k h zero_bank =
    ap (λ (t : TargetState). bank t) h.target ∙ ap (λ (s : ℕ). bit_and s 0xF) (polled_select a mask requested (target_of m.probe)) ∙ zero_bank

waited_there : (mask requested a turns : ℕ) (m k o : BenchState) → a < turns → HasLooked mask requested a 0 m k → HasWaited k o → WasUnanswered (Polls mask requested turns) m o
waited_there mask requested a turns m k o less h w =
    let reads : (poll_result a mask requested (target_of m.probe)).reads ≡ a = unmet_reads a mask requested (target_of m.probe) (unmet_of mask requested a m k h) in
    let fewer = fewer_reads mask requested a turns m k less h in
    let same : target_of o.probe ≡ target_of m.probe = w.unread.target ∙ h.target ∙ polled_same a mask requested (target_of m.probe) (λ zero_bank. w.other (bank_of mask requested a m k h zero_bank)) in
    record {
      work = a;
      work_is = λ counts. (let v = h.work in let u = w.unread.work in omega (arith, v, u, counts, reads, fewer));
      less = fewer;
      target = record { same = ap (λ (t : TargetState). record t { rdbuff = 0 }) same };
      retries = λ few. (let r = h.retries in let s = w.retries (omega (arith, r, few)) in omega (arith, r, s));
      over = subst (λ (s : Setting). RetryIsOver s (transfer_number_of o)) h.setting w.over;
      idle_cycles = w.unread.idle_cycles ∙ h.idle_cycles;
      number = (let n = h.number in let l = w.number in omega (arith, n, l, reads));
      pending = w.pending;
    }

read_there : (mask requested a turns value : ℕ) (m k o : BenchState) (hit : Bool) → a < turns → HasLooked mask requested a 0 m k → HasRead value k o → (bit_and value mask == requested) ≡ hit → LeftActionOff (Polls mask requested turns) ends.BenchFault m o
read_there mask requested a turns value m k o true less h r is =
    let n : HasLooked mask requested (a + 1) 1 m o = looked_more mask requested a 1 1 m k o h (read_looked mask requested value k o true r is) in
    let sum : (a + 1) + (turns - (a + 1)) ≡ turns = omega (arith, less) in
    let w : HasLooked mask requested turns 1 m o = subst (λ (c : ℕ). HasLooked mask requested c 1 m o) sum (looked_stops mask requested (a + 1) (turns - (a + 1)) m o n) in
    inl (looked_done mask requested turns (given_number (poll_result turns mask requested (target_of m.probe)).outcome) m o (subst (λ (c : ℕ). HasLooked mask requested turns c m o) w.word_is w))
read_there mask requested a turns value m k o false less h r is =
    by_rest (looked_more mask requested a 1 0 m k o h (read_looked mask requested value k o false r is)) (turns - (a + 1)) refl
  where
    by_rest : HasLooked mask requested (a + 1) 0 m o → (rest : ℕ) → turns - (a + 1) ≡ rest → LeftActionOff (Polls mask requested turns) ends.BenchFault m o
    by_rest n zero same =
        let all : a + 1 ≡ turns = omega (arith, same, less) in
        let w : HasLooked mask requested turns 0 m o = subst (λ (c : ℕ). HasLooked mask requested c 0 m o) all n in
        inl (looked_done mask requested turns (given_number (poll_result turns mask requested (target_of m.probe)).outcome) m o (subst (λ (c : ℕ). HasLooked mask requested turns c m o) w.word_is w))
    by_rest n (suc rest) same = inr (unread_less mask requested (a + 1) turns m o o (omega (arith, same)) n (record { target = refl; work = omega arith; idle_cycles = refl }))

turn_broke : (mask requested a turns : ℕ) (end : FlightEnd) → a < turns → (m k o : BenchState) → (CanFly m → HasLooked mask requested a 0 m k) → (CanFly k → ReadOrNot end k o) → CanFly m → LeftActionOff (Polls mask requested turns) end m o
turn_broke mask requested a turns (ends.Cut cut) less m k o h r flies = let l = h flies in let w = r l.flies in (w.0, waited_there mask requested a turns m k o less l w.1)
turn_broke mask requested a turns ends.ReplyBad less m k o h r flies = let l = h flies in r l.flies
turn_broke mask requested a turns ends.BenchFault less m k o h r flies = let l = h flies in by_what l (r l.flies)
  where
    by_what : HasLooked mask requested a 0 m k → ((value : ℕ) × HasRead value k o) ⊎ IsUnread k o → LeftActionOff (Polls mask requested turns) ends.BenchFault m o
    by_what l (inl (value, read)) = read_there mask requested a turns value m k o (bit_and value mask == requested) less l read refl
    by_what l (inr u) = inr (unread_less mask requested a turns m k o less l u)

pub turn_left : (x y z : Option BenchState) (mask requested a turns : ℕ) (end : FlightEnd) → a < turns → StepsTo (λ m o. CanFly m → HasLooked mask requested a 0 m o) x y → StepsTo (λ m o. CanFly m → ReadOrNot end m o) y z →
    StepsTo (λ m o. CanFly m → LeftActionOff (Polls mask requested turns) end m o) x z
turn_left x y z mask requested a turns end less h r = steps_join _ _ _ (turn_broke mask requested a turns end less) x y z h r

-- ---- what the test of a value says

pub test_met : (a b : ℕ) → a ≡ b → (a == b) ≡ true
test_met a b h = eq-eqb a b h

pub test_unmet : (a b : ℕ) → (a ≡ b → ⊥) → (a == b) ≡ false
test_unmet a b h = by_test (a == b) refl
  where
    by_test : (x : Bool) → (a == b) ≡ x → (a == b) ≡ false
    by_test true is = absurd (h (eqb-true a b is))
    by_test false is = is
