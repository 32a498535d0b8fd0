-- Which units were made where an access was cut, and the memory that they leave.
use Rattle.std.proofs.Common.{◌≡◌, ◌≢◌, ◌∙◌, ◌⊎◌, inl, inr, ℕ, zero, suc, ◌+◌, ◌-◌, ◌≤◌, max, Bool, true, false, cond, not, ◌&&◌, ◌||◌, List, [], ◌∷◌, ◌++◌, append_assoc, fold, length, length-append, take, slice_get, Some, refl, sym, ap, subst, arith}
use Rattle.target_machine.specs.Counts.{one_if}
use Rattle.target_machine.specs.Fresh.{IsFresh}
use Rattle.target_machine.specs.Plain.{CallDone, action_attempt, is_fault}
use Rattle.target_machine.specs.State.{Agree, TargetState}
use Rattle.probe_core.specs.Bench.{BenchState}
use Rattle.probe_core.specs.Probe.{target_of}
use Rattle.target_calls.specs.Asks.{AreAskable}
use Rattle.target_calls.specs.Journal.{Entry, completes, is_skip, is_unforgiven, lines_before, target_after}
use Rattle.target_calls.specs.World.{is_faulted, left_at, next_world, start_world, world_after}
use Rattle.target_calls.specs.declared.calls.Ask.{Ask}
use Rattle.target_calls.specs.declared.journal.Part.{Part}
use Rattle.target_calls.specs.declared.journal.Part.TheVariants.{Ends, Leads, Settles, Skips}
use Rattle.access_regs.specs.Alone.{NoneFaults, call_alone, alone_after}
use Rattle.access_regs.specs.Closed.{HasMade, IsMadeAt, closed_after, closed_by, closes}
use Rattle.access_regs.specs.Journal.{issued_entries}
use Rattle.access_regs.specs.Stops.{StaysThere, StopsThere, world_at}
use Rattle.access_regs.specs.declared.planner.Planner.{Planner}
use Rattle.access_regs.proofs.EntryMemory.{memory_at_entry}
use Rattle.access_regs.proofs.StopLists.{fault_stops, good_end, wait_stops}
use Rattle.access_regs.proofs.Lists.{not_settling}
use Rattle.access_calls.specs.Made.{HasMemory, last_made, last_made_by, units_made}
use Rattle.access_calls.specs.Numbers.{HasNumbers, unit_at}
use Rattle.access_calls.specs.Reported.{Beginning, began, start_of}
use Rattle.access_calls.specs.Standing.{HasPerformed, pending_of}
use Rattle.access_calls.specs.declared.stop.Report.{Report}
use Rattle.access_calls.specs.declared.stop.StopCause.TheVariants.{Faulted, NoAnswer}
use Rattle.flight_laws.proofs.CutLemmas.{take_front}
use Rattle.flight_laws.proofs.StopLemmas.{entry_at, lines_cut}
use Rattle.flight_laws.specs.Flights.{IsCutAt, IsStrictFaultAt}

-- ---- entries

closes_is : (p : Part) → (completes p || is_skip p) ≡ closes p
closes_is Settles = refl
closes_is Leads = refl
closes_is Ends = refl
closes_is (Skips true) = refl
closes_is (Skips false) = refl

last_from : (units : ℕ) (entries : List Entry) → fold last_made_by units entries ≡ closed_after units entries
last_from units [] = refl
last_from units (e ∷ entries) = ap (λ (b : Bool). fold last_made_by (cond b e.unit units) entries) (closes_is e.part) ∙ last_from (closed_by units e) entries

last_is : (entries : List Entry) → last_made entries ≡ closed_after 0 entries
last_is entries = last_from 0 entries

-- the unit that a stop names is that of the entry after the confirmed ones
unit_cut : (entries : List Entry) (t : TargetState) (asks : List Ask) (skipped lines : ℕ) (r : Report) (cut : IsCutAt entries r.confirmed t) → HasNumbers entries asks skipped lines r → r.unit ≡ cut.entry.unit
unit_cut entries t asks skipped lines r cut numbers =
    ap (λ x. x.unit) numbers.numbers
    ∙ (λ j. unit_at (slice_get (cut.is j) (sym cut.at j)))
    ∙ ap unit_at (entry_at cut.front cut.entry cut.more)

-- ---- calls

-- where no call is answered
none_answered : (t : TargetState) (large : List ℕ) (asks : List Ask) → (world_after (world_at t large (Some 0)) asks).target ≡ t
none_answered t large [] = refl
none_answered t large (ask ∷ asks) = refl

-- The first calls, of which none but perhaps the last ends at a fault, in the world in which so many are answered.
answered_first : (t : TargetState) (large : List ℕ) (asks : List Ask) (n at : ℕ) → NoneFaults t large (take at asks) → n ≤ at + 1 → alone_after t large (take n asks) ≡ (world_after (world_at t large (Some n)) asks).target
answered_first t large [] zero at none few = refl
answered_first t large [] (suc n) at none few = refl
answered_first t large (ask ∷ asks) zero at none few = refl
answered_first t large (ask ∷ asks) (suc n) zero none few = by_end (is_faulted d.end)
  where
    d : CallDone
    d = call_alone t large ask

    last : alone_after d.next d.large (take n asks) ≡ d.next
    last = (let no : n ≡ 0 = omega (arith, few) in ap (λ (i : ℕ). alone_after d.next d.large (take i asks)) no)

    after : (world_after (world_at d.next d.large (Some n)) asks).target ≡ d.next
    after = (let no : n ≡ 0 = omega (arith, few) in ap (λ (i : ℕ). (world_after (world_at d.next d.large (Some i)) asks).target) no ∙ none_answered d.next d.large asks)

    by_end : (b : Bool) → alone_after d.next d.large (take n asks) ≡ (cond b (left_at (world_at t large (Some (suc n))) ask) (world_after (world_at d.next d.large (Some n)) asks)).target
    by_end true = last
    by_end false = last ∙ sym after
answered_first t large (ask ∷ asks) (suc n) (suc at) none few =
    let d : CallDone = call_alone t large ask in
    answered_first d.next d.large asks n at none.1 (omega (arith, few))
    ∙ sym (ap (λ (b : Bool). (cond b (left_at (world_at t large (Some (suc n))) ask) (world_after (world_at d.next d.large (Some n)) asks)).target) (good_end d.end none.0))

-- ---- the memory

pub agree_words : (t u : TargetState) → Agree t u → t.words ≡ u.words
agree_words t u h = ap (λ (s : TargetState). s.words) h.same

module _ (p : Planner) (m0 o : BenchState) (asks : List Ask) (r : Report) (skipped lines : ℕ) (fresh : IsFresh (target_of m0.probe)) (ok : AreAskable asks)
    (cut : IsCutAt (issued_entries p (target_of m0.probe) asks) r.confirmed (target_of m0.probe)) (numbers : HasNumbers (issued_entries p (target_of m0.probe) asks) asks skipped lines r)
    (there : Agree (target_of o.probe) (target_after (target_of m0.probe) (take r.accesses (issued_entries p (target_of m0.probe) asks)))) where
  abbrev t0 : TargetState
  t0 = target_of m0.probe

  abbrev entries : List Entry
  entries = issued_entries p t0 asks

  abbrev stays : StaysThere 0 t0 [] asks cut.entry
  stays = wait_stops p t0 asks cut.front cut.entry cut.more fresh ok cut.is cut.passes

  lines_are : lines ≡ lines_before cut.entry
  lines_are = lines_cut entries t0 asks skipped lines r cut numbers

  at_is : stays.at ≡ lines
  at_is = (let l = stays.lines in let k = lines_are in omega (arith, l, k))

  abbrev law : IsMadeAt t0 asks cut.front cut.entry
  law = memory_at_entry p t0 asks cut.front cut.entry cut.more fresh ok cut.is cut.passes

  longer : entries ≡ (cut.front ++ cut.entry ∷ []) ++ cut.more
  longer = cut.is ∙ sym (append_assoc cut.front (cut.entry ∷ []) cut.more)

  longer_length : length (cut.front ++ cut.entry ∷ []) ≡ r.confirmed + 1
  longer_length = (let l = length-append cut.front (cut.entry ∷ []) in let a = cut.at in omega (arith, l, a))

  -- what the first calls leave, in the world in which so many are answered
  in_world : (n : ℕ) → n ≤ lines + 1 → (alone_after t0 [] (take n asks)).words ≡ (world_after (start_world t0 (Some n)) asks).target.words
  in_world n few = ap (λ (s : TargetState). s.words) (answered_first t0 [] asks n stays.at stays.none (let a = at_is in omega (arith, few, a)))

  -- the first entries were performed, and these units made
  made : (front : List Entry) → take r.accesses entries ≡ front → HasMade t0 asks (lines_before cut.entry) front → HasMemory t0 asks (max lines (last_made (take r.accesses entries))) lines o
  made front is h = record {
    asked = (let a = h.asked in let s = same in omega (arith, a, s));
    few = few;
    words = agree_words (target_of o.probe) (target_after t0 (take r.accesses entries)) there ∙ ap (λ (l : List Entry). (target_after t0 l).words) is ∙ h.words
        ∙ ap (λ (n : ℕ). (alone_after t0 [] (take n asks)).words) (sym same) ∙ in_world (max lines (last_made (take r.accesses entries))) few;
  }
    where
      same : max lines (last_made (take r.accesses entries)) ≡ max (lines_before cut.entry) (closed_after 0 front)
      same = ap (λ (l : List Entry). max lines (last_made l)) is ∙ ap (λ (k : ℕ). max lines k) (last_is front) ∙ ap (λ (k : ℕ). max k (closed_after 0 front)) lines_are

      few : max lines (last_made (take r.accesses entries)) ≤ lines + 1
      few = (let f = h.few in let s = same in let l = lines_are in omega (arith, f, s, l))

  -- where a retry ended
  pub wait_memory : (b : Bool) → r.accesses ≡ r.confirmed + one_if b → HasMemory t0 asks (units_made NoAnswer entries r lines) lines o
  wait_memory false is = made cut.front (take_front r.accesses entries cut.front (cut.entry ∷ cut.more) cut.is (let a = cut.at in omega (arith, a, is))) law.before
  wait_memory true is = made (cut.front ++ cut.entry ∷ []) (take_front r.accesses entries (cut.front ++ cut.entry ∷ []) cut.more longer (let a = longer_length in omega (arith, a, is))) law.after

  -- at a fault
  module _ (bad : is_fault (action_attempt (target_after t0 cut.front) cut.entry.action).outcome ≡ true) (strict : cut.entry.forgiving ≡ false) where
    abbrev stops : StopsThere 0 t0 [] asks cut.entry
    stops = fault_stops p t0 asks cut.front cut.entry cut.more fresh ok cut.is cut.passes bad strict

    own_lines : lines + 1 ≡ cut.entry.unit
    own_lines =
        let l = lines_are ∙ ap (λ (x : Bool). cond x cut.entry.unit (cut.entry.unit - 1)) (not_settling cut.entry.part stops.own) in
        let u = stops.unit in omega (arith, l, u)

    pub own_unit : r.unit ≡ lines + 1
    own_unit = unit_cut entries t0 asks skipped lines r cut numbers ∙ sym own_lines

    breaks : is_unforgiven (target_after t0 cut.front) cut.entry ≡ true
    breaks = (λ j. bad j && not (strict j))

    pub fault_memory : r.accesses ≡ r.confirmed + 1 → HasMemory t0 asks (units_made Faulted entries r lines) lines o
    fault_memory is = record {
      asked = (let w = stops.within in let u = stops.unit in let o = own_unit in let l = own_lines in omega (arith, w, u, o, l));
      few = (let o = own_unit in omega (arith, o));
      words = agree_words (target_of o.probe) (target_after t0 (take r.accesses entries)) there
          ∙ ap (λ (l : List Entry). (target_after t0 l).words) (take_front r.accesses entries (cut.front ++ cut.entry ∷ []) cut.more longer (let a = longer_length in omega (arith, a, is)))
          ∙ law.fault breaks
          ∙ (let same : lines_before cut.entry + 1 ≡ r.unit = (let l = lines_are in let u = own_unit in omega (arith, l, u)) in ap (λ (n : ℕ). (alone_after t0 [] (take n asks)).words) same)
          ∙ in_world r.unit (let u = own_unit in omega (arith, u));
    }
