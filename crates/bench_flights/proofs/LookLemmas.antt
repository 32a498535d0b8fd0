-- Polls in parts: so many turns, and then more.
use Rattle.std.proofs.Common.{◌≡◌, ◌⊎◌, inl, inr, ◌∙◌, ℕ, zero, suc, ◌+◌, ◌-◌, ◌^◌, ◌<◌, ◌≤◌, min, Bool, true, false, cond, Option, Some, None, Ok, Err, Result, IfOk, IfErr, refl, sym, ap, subst, arith}
use Rattle.std.specs.Prelude.{◌==◌, ◌&&◌, bit_and, not}
use Rattle.target_machine.specs.Attempt.{Attempt, answers, attempt, bank, ctrl_stat, dp_read, is_free}
use Rattle.target_machine.specs.Plain.{Action, Polled, Polls, dp_read_of, given_number, is_fault, poll_read, poll_result}
use Rattle.target_machine.specs.State.{TargetState}
use Rattle.target_machine.specs.declared.access.Outcome.{Outcome}
use Rattle.target_machine.specs.declared.access.Outcome.TheVariants.{Value, Done, Fault}
use Rattle.target_calls.proofs.EntryLemmas.{weight_some}
use Rattle.dap_transfer.specs.State.{Setting}
use Rattle.probe_core.specs.Bench.{BenchState, StepsTo}
use Rattle.probe_core.specs.Probe.{ExecutorState, target_of}
use Rattle.access_calls.specs.Standing.{transfer_setting_of}
use Rattle.batch_packer.specs.Actions.{Acts}
use Rattle.batch_packer.specs.Flying.{CanFly, transfers_of}
use Rattle.batch_packer.specs.Polling.{PolledBy}
use Rattle.batch_packer.specs.declared.ends.FlightEnd.{FlightEnd}
use Rattle.batch_packer.specs.declared.ends.FlightEnd.TheVariants as ends
use Rattle.probe_core.specs.declared.job.Config.{Config}
use Rattle.batch_packer.specs.declared.poll.PollAsk.{PollAsk}
use Rattle.batch_packer.proofs.CallLemmas.{flies_after}
use Rattle.bench_flights.specs.Flown.{CanMatch, DidLess, HasDoneWhole, IsSetTo, LeftActionOff, matched_word}
use Rattle.bench_flights.specs.Wires.{HasLooked, HasMadeAction, MadeOrNot, WasMade}
use Rattle.bench_flights.proofs.WireLemmas.{steps_join, steps_map}

-- ---- one turn

-- the first turn of a poll, and those after it
abbrev pub first_turn : TargetState → Attempt
first_turn t = attempt t (dp_read_of 4)

abbrev turn : Bool → TargetState → Polled → Polled
turn true t rest = record { outcome = Value 1; reads = 1; next = t }
turn false t rest = record rest { reads = rest.reads + 1 }

-- ---- what polls answer

word_of : (o : Outcome) (t : TargetState) (mask requested : ℕ) (rest : Polled) → (given_number rest.outcome ≡ 0) ⊎ (given_number rest.outcome ≡ 1) → (given_number (poll_read o t mask requested rest).outcome ≡ 0) ⊎ (given_number (poll_read o t mask requested rest).outcome ≡ 1)
word_of Done t mask requested rest h = h
word_of Fault t mask requested rest h = inl refl
word_of (Value n) t mask requested rest h = by_hit (bit_and n mask == requested)
  where
    by_hit : (b : Bool) → (given_number (cond b (record { outcome = Value 1; reads = 1; next = t }) (record rest { reads = rest.reads + 1 })).outcome ≡ 0) ⊎ (given_number (cond b (record { outcome = Value 1; reads = 1; next = t }) (record rest { reads = rest.reads + 1 })).outcome ≡ 1)
    by_hit true = inr refl
    by_hit false = h

pub polled_word : (n mask requested : ℕ) (t : TargetState) → (given_number (poll_result n mask requested t).outcome ≡ 0) ⊎ (given_number (poll_result n mask requested t).outcome ≡ 1)
unfolding poll_result
polled_word zero mask requested t = inl refl
polled_word (suc n) mask requested t = word_of (first_turn t).outcome (first_turn t).next mask requested (poll_result n mask requested (first_turn t).next) (polled_word n mask requested (first_turn t).next)

-- ---- where nothing matched, all turns were used

-- it did not match, and met no fault
pub record Unmet (p : Polled) : Type 0 where
  pub none : given_number p.outcome ≡ 0
  pub good : is_fault p.outcome ≡ false

-- then the first turn did not match
unmet_on : (o : Outcome) (t : TargetState) (mask requested : ℕ) (rest : Polled) → Unmet (poll_read o t mask requested rest) → (poll_read o t mask requested rest ≡ record rest { reads = rest.reads + 1 }) × Unmet rest
unmet_on Done t mask requested rest h = (refl, record { none = h.none; good = h.good })
unmet_on Fault t mask requested rest h = absurd (let g = h.good in cc)
unmet_on (Value n) t mask requested rest h = by_hit (bit_and n mask == requested) h
  where
    by_hit : (b : Bool) → Unmet (cond b (record { outcome = Value 1; reads = 1; next = t }) (record rest { reads = rest.reads + 1 })) → (cond b (record { outcome = Value 1; reads = 1; next = t }) (record rest { reads = rest.reads + 1 }) ≡ record rest { reads = rest.reads + 1 }) × Unmet rest
    by_hit true k = absurd (let g = k.none in omega (arith, g))
    by_hit false k = (refl, record { none = k.none; good = k.good })

pub unmet_reads : (n mask requested : ℕ) (t : TargetState) → Unmet (poll_result n mask requested t) → (poll_result n mask requested t).reads ≡ n
unfolding poll_result
unmet_reads zero mask requested t h = refl
unmet_reads (suc n) mask requested t h =
    let on = unmet_on (first_turn t).outcome (first_turn t).next mask requested (poll_result n mask requested (first_turn t).next) h in
    let all = unmet_reads n mask requested (first_turn t).next on.1 in
    ap (λ (p : Polled). p.reads) on.0 ∙ (omega (arith, all))

-- after so many turns without a match, more turns are those from there
abbrev pub more_reads : ℕ → Polled → Polled
more_reads n p = record p { reads = p.reads + n }

unmet_back : (o : Outcome) (t : TargetState) (mask requested : ℕ) (rest other : Polled) → Unmet (poll_read o t mask requested rest) → poll_read o t mask requested other ≡ record other { reads = other.reads + 1 }
unmet_back Done t mask requested rest other h = refl
unmet_back Fault t mask requested rest other h = absurd (let g = h.good in cc)
unmet_back (Value n) t mask requested rest other h = by_hit (bit_and n mask == requested) h
  where
    by_hit : (b : Bool) → Unmet (cond b (record { outcome = Value 1; reads = 1; next = t }) (record rest { reads = rest.reads + 1 })) → cond b (record { outcome = Value 1; reads = 1; next = t }) (record other { reads = other.reads + 1 }) ≡ record other { reads = other.reads + 1 }
    by_hit true k = absurd (let g = k.none in omega (arith, g))
    by_hit false k = refl

next_unmet : (o : Outcome) (t : TargetState) (mask requested : ℕ) (rest : Polled) → Unmet (poll_read o t mask requested rest) → (poll_read o t mask requested rest).next ≡ rest.next
next_unmet o t mask requested rest h = ap (λ (p : Polled). p.next) (unmet_on o t mask requested rest h).0

pub polled_more : (n m mask requested : ℕ) (t : TargetState) → Unmet (poll_result n mask requested t) → poll_result (n + m) mask requested t ≡ more_reads n (poll_result m mask requested (poll_result n mask requested t).next)
unfolding poll_result
polled_more zero m mask requested t h =
    let p : Polled = poll_result m mask requested t in
    ap (λ (k : ℕ). poll_result k mask requested t) (let z : 0 + m ≡ m = omega arith in z) ∙ ap (λ (k : ℕ). record p { reads = k }) (let z : p.reads ≡ p.reads + 0 = omega arith in z)
polled_more (suc n) m mask requested t h =
    let x : Attempt = first_turn t in
    let on = unmet_on x.outcome x.next mask requested (poll_result n mask requested x.next) h in
    let there : TargetState = (poll_result n mask requested x.next).next in
    let p : Polled = poll_result m mask requested there in
    ap (λ (k : ℕ). poll_result k mask requested t) (let z : suc n + m ≡ suc (n + m) = omega arith in z)
    ∙ unmet_back x.outcome x.next mask requested (poll_result n mask requested x.next) (poll_result (n + m) mask requested x.next) h
    ∙ ap (λ (q : Polled). record q { reads = q.reads + 1 }) (polled_more n m mask requested x.next on.1)
    ∙ ap (λ (k : ℕ). record p { reads = k }) (let z : p.reads + n + 1 ≡ p.reads + suc n = omega arith in z)
    ∙ ap (λ (u : TargetState). more_reads (suc n) (poll_result m mask requested u)) (sym (next_unmet x.outcome x.next mask requested (poll_result n mask requested x.next) h))

-- ---- where it matched, further turns change nothing

met_stays : (o : Outcome) (t : TargetState) (mask requested : ℕ) (rest other : Polled) → (given_number rest.outcome ≡ 1 → other ≡ rest) → given_number (poll_read o t mask requested rest).outcome ≡ 1 → poll_read o t mask requested other ≡ poll_read o t mask requested rest
met_stays Done t mask requested rest other f h = ap (λ (p : Polled). record p { reads = p.reads + 1 }) (f h)
met_stays Fault t mask requested rest other f h = refl
met_stays (Value n) t mask requested rest other f h = by_hit (bit_and n mask == requested) h
  where
    by_hit : (b : Bool) → given_number (cond b (record { outcome = Value 1; reads = 1; next = t }) (record rest { reads = rest.reads + 1 })).outcome ≡ 1 →
        cond b (record { outcome = Value 1; reads = 1; next = t }) (record other { reads = other.reads + 1 }) ≡ cond b (record { outcome = Value 1; reads = 1; next = t }) (record rest { reads = rest.reads + 1 })
    by_hit true k = refl
    by_hit false k = ap (λ (p : Polled). record p { reads = p.reads + 1 }) (f k)

pub polled_stops : (n m mask requested : ℕ) (t : TargetState) → given_number (poll_result n mask requested t).outcome ≡ 1 → poll_result (n + m) mask requested t ≡ poll_result n mask requested t
unfolding poll_result
polled_stops zero m mask requested t h = absurd (omega (arith, h))
polled_stops (suc n) m mask requested t h =
    let x : Attempt = first_turn t in
    ap (λ (k : ℕ). poll_result k mask requested t) (let z : suc n + m ≡ suc (n + m) = omega arith in z)
    ∙ met_stays x.outcome x.next mask requested (poll_result n mask requested x.next) (poll_result (n + m) mask requested x.next) (λ k. polled_stops n m mask requested x.next k) h

-- ---- SELECT stays

pick : (b : Bool) (p q : Attempt) (s : ℕ) → p.next.select ≡ s → q.next.select ≡ s → (cond b p q).next.select ≡ s
pick true p q s h k = h
pick false p q s h k = k

pub read_select : (t : TargetState) → (first_turn t).next.select ≡ t.select
unfolding attempt
read_select t =
    pick (t.sticky && not (is_free t (dp_read_of 4))) (record { outcome = Fault; next = t }) (dp_read t 4) t.select refl
    (pick (bank t == 0) (answers (ctrl_stat t) (record t { reads = min (t.reads + 1) (2 ^ 32 - 1) })) (answers 0 t) t.select refl refl)

select_looked : (o : Outcome) (t : TargetState) (mask requested : ℕ) (rest : Polled) (s : ℕ) → t.select ≡ s → rest.next.select ≡ s → (poll_read o t mask requested rest).next.select ≡ s
select_looked Done t mask requested rest s h k = k
select_looked Fault t mask requested rest s h k = h
select_looked (Value n) t mask requested rest s h k = by_hit (bit_and n mask == requested)
  where
    by_hit : (b : Bool) → (cond b (record { outcome = Value 1; reads = 1; next = t }) (record rest { reads = rest.reads + 1 })).next.select ≡ s
    by_hit true = h
    by_hit false = k

pub polled_select : (n mask requested : ℕ) (t : TargetState) → (poll_result n mask requested t).next.select ≡ t.select
unfolding poll_result
polled_select zero mask requested t = refl
polled_select (suc n) mask requested t =
    let x : Attempt = first_turn t in
    select_looked x.outcome x.next mask requested (poll_result n mask requested x.next) t.select (read_select t) (polled_select n mask requested x.next ∙ read_select t)

-- ---- over a bench

pub unmet_of : (mask requested n : ℕ) (m o : BenchState) → HasLooked mask requested n 0 m o → Unmet (poll_result n mask requested (target_of m.probe))
unmet_of mask requested n m o h = record { none = sym h.word_is; good = h.good }

pub looked_none : (mask requested : ℕ) (m : BenchState) → CanFly m → HasLooked mask requested 0 0 m m
unfolding poll_result
looked_none mask requested m flies = record {
  good = refl;
  word_is = refl;
  target = refl;
  work = omega arith;
  retries = refl;
  number = omega arith;
  setting = refl;
  idle_cycles = refl;
  flies = flies;
}

looked_made : (mask requested n word : ℕ) (m o : BenchState) → CanFly m → HasMadeAction (Polls mask requested n) word m o → HasLooked mask requested n word m o
looked_made mask requested n word m o flies h = record {
  good = h.acts.passes;
  word_is = h.word_is;
  target = h.acts.target;
  work = h.acts.work;
  retries = h.acts.retries;
  number = (let a = h.acts.number in omega (arith, a));
  setting = h.setting;
  idle_cycles = h.idle_cycles;
  flies = flies_after (Polls mask requested n) m o flies h.acts;
}

pub looked_more : (mask requested a b word : ℕ) (m k o : BenchState) → HasLooked mask requested a 0 m k → HasLooked mask requested b word k o → HasLooked mask requested (a + b) word m o
looked_more mask requested a b word m k o h l =
    let t : TargetState = target_of m.probe in
    let all : poll_result (a + b) mask requested t ≡ more_reads a (poll_result b mask requested (target_of k.probe)) =
    polled_more a b mask requested t (unmet_of mask requested a m k h) ∙ ap (λ (u : TargetState). more_reads a (poll_result b mask requested u)) (sym h.target) in
    let count : (poll_result (a + b) mask requested t).reads ≡ (poll_result b mask requested (target_of k.probe)).reads + a = ap (λ (p : Polled). p.reads) all in
    let made : (poll_result a mask requested t).reads ≡ a = unmet_reads a mask requested t (unmet_of mask requested a m k h) in
    record {
      good = ap (λ (p : Polled). is_fault p.outcome) all ∙ l.good;
      word_is = l.word_is ∙ ap (λ (p : Polled). given_number p.outcome) (sym all);
      target = l.target ∙ ap (λ (p : Polled). p.next) (sym all);
      work = (let w = h.work in let v = l.work in omega (arith, w, v, count, made));
      retries = l.retries ∙ h.retries;
      number = (let w = h.number in let v = l.number in omega (arith, w, v, count, made));
      setting = l.setting ∙ h.setting;
      idle_cycles = l.idle_cycles ∙ h.idle_cycles;
      flies = l.flies;
    }

pub looked_stops : (mask requested a b : ℕ) (m o : BenchState) → HasLooked mask requested a 1 m o → HasLooked mask requested (a + b) 1 m o
looked_stops mask requested a b m o h =
    let same : poll_result (a + b) mask requested (target_of m.probe) ≡ poll_result a mask requested (target_of m.probe) = polled_stops a b mask requested (target_of m.probe) (sym h.word_is) in
    record {
      good = ap (λ (p : Polled). is_fault p.outcome) same ∙ h.good;
      word_is = h.word_is ∙ ap (λ (p : Polled). given_number p.outcome) (sym same);
      target = h.target ∙ ap (λ (p : Polled). p.next) (sym same);
      work = (let w = h.work in let count = ap (λ (p : Polled). p.reads) same in omega (arith, w, count));
      retries = h.retries;
      number = (let w = h.number in let count = ap (λ (p : Polled). p.reads) same in omega (arith, w, count));
      setting = h.setting;
      idle_cycles = h.idle_cycles;
      flies = h.flies;
    }

pub looked_done : (mask requested turns word : ℕ) (m o : BenchState) → HasLooked mask requested turns word m o → HasDoneWhole (Polls mask requested turns) word m o
looked_done mask requested turns word m o h = record {
  does = λ counts. record {
    target = h.target;
    clear = h.flies.guard.clear;
    work = (let w = h.work in omega (arith, w, counts));
    retries = h.retries;
    setting = h.setting;
    idle_cycles = h.idle_cycles;
    number = (let n = h.number in omega (arith, n));
  };
  good = h.good;
  word_is = h.word_is;
  next = h.flies;
}

-- fewer reads than all were made
pub looked_less : (mask requested turns made : ℕ) (m k o : BenchState) → made < turns → HasLooked mask requested made 0 m k → o.probe.executor ≡ k.probe.executor → DidLess (Polls mask requested turns) m o
looked_less mask requested turns made m k o less h same =
    let t : TargetState = target_of m.probe in
    let reads : (poll_result made mask requested t).reads ≡ made = unmet_reads made mask requested t (unmet_of mask requested made m k h) in
    let rest : ℕ = turns - made in
    let sum : made + (turns - made) ≡ turns = omega (arith, less) in
    let all : poll_result turns mask requested t ≡ more_reads made (poll_result (turns - made) mask requested (poll_result made mask requested t).next) =
    ap (λ (n : ℕ). poll_result n mask requested t) (sym sum) ∙ polled_more made (turns - made) mask requested t (unmet_of mask requested made m k h) in
    let some : 0 < (poll_result (turns - made) mask requested (poll_result made mask requested t).next).reads = weight_some (poll_result made mask requested t).next (Polls mask requested (turns - made)) (omega (arith, less)) in
    let count : (poll_result turns mask requested t).reads ≡ (poll_result (turns - made) mask requested (poll_result made mask requested t).next).reads + made = ap (λ (p : Polled). p.reads) all in
    let fewer : made < (poll_result turns mask requested t).reads = omega (arith, count, some) in
    record {
      work = made;
      work_is = λ counts. (let w = h.work in let s = ap (λ (e : ExecutorState). e.transfers.work) same in omega (arith, w, s, counts, reads, fewer));
      less = fewer;
      idle_cycles = ap (λ (e : ExecutorState). e.idle) same ∙ h.idle_cycles;
      target = inr (made, fewer, record { same = ap (λ (u : TargetState). record u { rdbuff = 0 }) (ap (λ (e : ExecutorState). e.transfers.line.target) same ∙ h.target) });
    }

-- ---- portions of a poll

pub bank_kept : (idle retry mask requested n word : ℕ) (m o : BenchState) → HasLooked mask requested n word m o → CanMatch idle retry m → CanMatch idle retry o
bank_kept idle retry mask requested n word m o h can = record {
  bank_zero = ap (λ (t : TargetState). bank t) h.target ∙ ap (λ (s : ℕ). bit_and s 0xF) (polled_select n mask requested (target_of m.probe)) ∙ can.bank_zero;
  set = record { idle_is = h.idle_cycles ∙ can.set.idle_is; retry_is = ap (λ (s : Setting). s.retry) h.setting ∙ can.set.retry_is };
}

pub poll_begins : (x : Option BenchState) (idle retry mask requested : ℕ) → StepsTo (λ m o. CanFly m → CanMatch idle retry m → HasLooked mask requested 0 0 m o) x x
poll_begins None idle retry mask requested = tt
poll_begins (Some m) idle retry mask requested = λ flies can. looked_none mask requested m flies

joined_portion : (idle retry mask requested a b word : ℕ) (m k o : BenchState) → (CanFly m → CanMatch idle retry m → HasLooked mask requested a 0 m k) → (CanFly k → CanMatch idle retry k → HasMadeAction (Polls mask requested b) word k o) →
    CanFly m → CanMatch idle retry m → HasLooked mask requested (a + b) word m o
joined_portion idle retry mask requested a b word m k o h d flies can =
    let l = h flies can in
    looked_more mask requested a b word m k o l (looked_made mask requested b word k o l.flies (d l.flies (bank_kept idle retry mask requested a 0 m k l can)))

pub poll_next : (x y z : Option BenchState) (idle retry mask requested a b word : ℕ) → StepsTo (λ m o. CanFly m → CanMatch idle retry m → HasLooked mask requested a 0 m o) x y →
    StepsTo (λ m o. CanFly m → CanMatch idle retry m → HasMadeAction (Polls mask requested b) word m o) y z → StepsTo (λ m o. CanFly m → CanMatch idle retry m → HasLooked mask requested (a + b) word m o) x z
poll_next x y z idle retry mask requested a b word h d = steps_join _ _ _ (joined_portion idle retry mask requested a b word) x y z h d

-- the register matched
pub poll_matches : (x z : Option BenchState) (idle retry mask requested a b turns : ℕ) → a + b ≡ turns → StepsTo (λ m o. CanFly m → CanMatch idle retry m → HasLooked mask requested a 1 m o) x z →
    StepsTo (λ m o. CanFly m → CanMatch idle retry m → HasDoneWhole (Polls mask requested turns) (matched_word true) m o) x z
poll_matches x z idle retry mask requested a b turns sum h =
    steps_map _ _ (λ m o f flies can. looked_done mask requested turns 1 m o (subst (λ (n : ℕ). HasLooked mask requested n 1 m o) sum (looked_stops mask requested a b m o (f flies can)))) x z h

-- the turns are used up
pub poll_used : (x z : Option BenchState) (idle retry mask requested made turns : ℕ) → made ≡ turns → StepsTo (λ m o. CanFly m → CanMatch idle retry m → HasLooked mask requested made 0 m o) x z →
    StepsTo (λ m o. CanFly m → CanMatch idle retry m → HasDoneWhole (Polls mask requested turns) (matched_word false) m o) x z
poll_used x z idle retry mask requested made turns all h =
    steps_map _ _ (λ m o f flies can. looked_done mask requested turns 0 m o (subst (λ (n : ℕ). HasLooked mask requested n 0 m o) all (f flies can))) x z h

-- a bench call failed in a portion
portion_left : (idle retry mask requested a b turns : ℕ) (end : FlightEnd) → 1 ≤ b → a + b ≤ turns → (m k o : BenchState) → (CanFly m → CanMatch idle retry m → HasLooked mask requested a 0 m k) →
    (CanFly k → CanMatch idle retry k → MadeOrNot (Polls mask requested b) end k o) → CanFly m → CanMatch idle retry m → LeftActionOff (Polls mask requested turns) end m o
portion_left idle retry mask requested a b turns ends.BenchFault some within m k o h d flies can = by_what (d l.flies (bank_kept idle retry mask requested a 0 m k l can))
  where
    l : HasLooked mask requested a 0 m k
    l = h flies can

    by_word : WasMade (Polls mask requested b) k o → (given_number (poll_result b mask requested (target_of k.probe)).outcome ≡ 0) ⊎ (given_number (poll_result b mask requested (target_of k.probe)).outcome ≡ 1) → LeftActionOff (Polls mask requested turns) ends.BenchFault m o
    by_word made (inr one) =
        let n : HasLooked mask requested (a + b) 1 m o = looked_more mask requested a b 1 m k o l (looked_made mask requested b 1 k o l.flies (record { acts = made.acts; setting = made.setting; idle_cycles = made.idle_cycles; word_is = sym one })) in
        let sum : (a + b) + (turns - (a + b)) ≡ turns = omega (arith, within) in
        let w : HasLooked mask requested turns 1 m o = subst (λ (c : ℕ). HasLooked mask requested c 1 m o) sum (looked_stops mask requested (a + b) (turns - (a + b)) m o n) in
        inl (looked_done mask requested turns (given_number (poll_result turns mask requested (target_of m.probe)).outcome) m o (subst (λ (c : ℕ). HasLooked mask requested turns c m o) w.word_is w))
    by_word made (inl none) =
        let n : HasLooked mask requested (a + b) 0 m o = looked_more mask requested a b 0 m k o l (looked_made mask requested b 0 k o l.flies (record { acts = made.acts; setting = made.setting; idle_cycles = made.idle_cycles; word_is = sym none })) in
        by_rest n (turns - (a + b)) refl
      where
        by_rest : HasLooked mask requested (a + b) 0 m o → (rest : ℕ) → turns - (a + b) ≡ rest → LeftActionOff (Polls mask requested turns) ends.BenchFault m o
        by_rest n zero is =
            let all : a + b ≡ turns = omega (arith, is, within) in
            let w : HasLooked mask requested turns 0 m o = subst (λ (c : ℕ). HasLooked mask requested c 0 m o) all n in
            inl (looked_done mask requested turns (given_number (poll_result turns mask requested (target_of m.probe)).outcome) m o (subst (λ (c : ℕ). HasLooked mask requested turns c m o) w.word_is w))
        by_rest n (suc rest) is = inr (looked_less mask requested turns (a + b) m o o (omega (arith, is)) n refl)

    by_what : WasMade (Polls mask requested b) k o ⊎ (o.probe.executor ≡ k.probe.executor) → LeftActionOff (Polls mask requested turns) ends.BenchFault m o
    by_what (inl made) = by_word made (polled_word b mask requested (target_of k.probe))
    by_what (inr same) = inr (looked_less mask requested turns a m k o (omega (arith, some, within)) l same)
portion_left idle retry mask requested a b turns ends.ReplyBad some within m k o h d flies can = let l = h flies can in d l.flies (bank_kept idle retry mask requested a 0 m k l can)
portion_left idle retry mask requested a b turns (ends.Cut cut) some within m k o h d flies can = absurd (let l = h flies can in d l.flies (bank_kept idle retry mask requested a 0 m k l can))

pub poll_left : (x y z : Option BenchState) (idle retry mask requested a b turns : ℕ) (end : FlightEnd) → 1 ≤ b → a + b ≤ turns → StepsTo (λ m o. CanFly m → CanMatch idle retry m → HasLooked mask requested a 0 m o) x y →
    StepsTo (λ m o. CanFly m → CanMatch idle retry m → MadeOrNot (Polls mask requested b) end m o) y z → StepsTo (λ m o. CanFly m → CanMatch idle retry m → LeftActionOff (Polls mask requested turns) end m o) x z
poll_left x y z idle retry mask requested a b turns end some within h d = steps_join _ _ _ (portion_left idle retry mask requested a b turns end some within) x y z h d

-- ---- one portion, as the layer below says it

word_matched : (n : ℕ) (matched : Bool) → (n ≡ 0) ⊎ (n ≡ 1) → matched ≡ (n == 1) → matched_word matched ≡ n
word_matched n matched (inl none) is = ap matched_word (is ∙ ap (λ (k : ℕ). k == 1) none) ∙ sym none
word_matched n matched (inr one) is = ap matched_word (is ∙ ap (λ (k : ℕ). k == 1) one) ∙ sym one

setting_same : (a b : Setting) → a.stalls ≡ b.stalls → a.retry ≡ b.retry → a.matches ≡ b.matches → a ≡ b
setting_same a b stalls retry matches = λ i. record { stalls = stalls i; retry = retry i; matches = matches i }

-- the idle cycles and the retry number are those that the probe had
was_polled : (idle retry : ℕ) (x : Action) (m o : BenchState) → CanMatch idle retry m → Acts x (transfers_of m) (transfers_of o) → IsSetTo idle retry o → WasMade x m o
was_polled idle retry x m o can acts set = record {
  acts = acts;
  setting = setting_same (transfer_setting_of o) (transfer_setting_of m) acts.stalls (set.retry_is ∙ sym can.set.retry_is) acts.matches;
  idle_cycles = set.idle_is ∙ sym can.set.idle_is;
}

pub portion_made : (x y : Option BenchState) (config : Config) (ask : PollAsk) (result : Result Bool FlightEnd) →
    StepsTo (λ m o. CanFly m → bank (target_of m.probe) ≡ 0 → PolledBy config ask result m o) x y →
    IfOk result (λ matched. StepsTo (λ m o. CanFly m → CanMatch config.idle config.retry m → HasMadeAction (Polls ask.mask ask.value ask.turns) (matched_word matched) m o) x y)
portion_made x y config ask (Err end) h = tt
portion_made x y config ask (Ok matched) h =
    steps_map _ _ (λ m o f flies can. let p = f flies can.bank_zero in let made = was_polled config.idle config.retry _ m o can p.acted.acts (record { idle_is = p.idle_cycles; retry_is = p.retry }) in
    record { acts = made.acts; setting = made.setting; idle_cycles = made.idle_cycles; word_is = word_matched (given_number (poll_result ask.turns ask.mask ask.value (target_of m.probe)).outcome) matched (polled_word ask.turns ask.mask ask.value (target_of m.probe)) p.matched_is }) x y h

left_portion : (config : Config) (ask : PollAsk) (end : FlightEnd) (m o : BenchState) → CanMatch config.idle config.retry m → PolledBy config ask (Err end) m o → MadeOrNot (Polls ask.mask ask.value ask.turns) end m o
left_portion config ask ends.BenchFault m o can (inl same) = inr same
left_portion config ask ends.BenchFault m o can (inr polled) = inl (was_polled config.idle config.retry _ m o can polled.acts (record { idle_is = polled.idle_cycles; retry_is = polled.retry }))
left_portion config ask ends.ReplyBad m o can h = h
left_portion config ask (ends.Cut cut) m o can h = absurd h

pub portion_lefts : (x y : Option BenchState) (config : Config) (ask : PollAsk) (result : Result Bool FlightEnd) →
    StepsTo (λ m o. CanFly m → bank (target_of m.probe) ≡ 0 → PolledBy config ask result m o) x y →
    IfErr result (λ end. StepsTo (λ m o. CanFly m → CanMatch config.idle config.retry m → MadeOrNot (Polls ask.mask ask.value ask.turns) end m o) x y)
portion_lefts x y config ask (Ok matched) h = tt
portion_lefts x y config ask (Err end) h = steps_map _ _ (λ m o f flies can. left_portion config ask end m o can (f flies can.bank_zero)) x y h

-- what a portion answers, by its case
pub word_for : (x y : Option BenchState) (idle retry mask requested turns : ℕ) (matched is : Bool) → matched ≡ is →
    StepsTo (λ m o. CanFly m → CanMatch idle retry m → HasMadeAction (Polls mask requested turns) (matched_word matched) m o) x y →
    StepsTo (λ m o. CanFly m → CanMatch idle retry m → HasMadeAction (Polls mask requested turns) (matched_word is) m o) x y
word_for x y idle retry mask requested turns matched is same h =
    subst (λ (b : Bool). StepsTo (λ m o. CanFly m → CanMatch idle retry m → HasMadeAction (Polls mask requested turns) (matched_word b) m o) x y) same h
