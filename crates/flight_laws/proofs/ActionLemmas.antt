-- Polls, commands of the probe, and forgiven faults.
use Rattle.std.proofs.Common.{◌≡◌, ◌⊎◌, inl, inr, ◌∙◌, ℕ, suc, ◌+◌, ◌-◌, ◌*◌, ◌/◌, ◌^◌, ◌≤◌, ◌<◌, min, Bool, true, false, cond, not, ◌&&◌, List, [], ◌∷◌, ◌++◌, length, take, drop, Option, Some, None, refl, sym, ap, subst, arith, append_assoc, length-append}
use Rattle.std.proofs.lemmas.List.{take_all}
use Rattle.std.proofs.lemmas.List.Sums.{sum_by-cons}
use Rattle.std.proofs.Math.Seq.{drop-append_seam, take-append-add, take-append_seam}
use Rattle.std.proofs.lemmas.Bool.{both_ways, cases_lt}
use Rattle.std.proofs.Math.Nat.{le-div_iff_mul-le}
use Rattle.std.specs.Prelude.{slice_get}
use Rattle.target_calls.proofs.EntryLemmas.{commands_append, performed_part, registers_append, weight_append}
use Rattle.access_calls.specs.Numbers.{HasNumbers}
use Rattle.access_calls.specs.Reported.{AccessView, began}
use Rattle.access_calls.specs.Standing.{AreTogether, HasBroken, IsPartOfAction, IsPartOfEntry, IsUnanswered, idle_cycles_of, pending_of, transfer_number_of, transfer_setting_of}
use Rattle.access_regs.proofs.Seams.{after_split, passes_both}
use Rattle.access_regs.specs.Entries.{NoneFault}
use Rattle.access_regs.specs.Journal.{making}
use Rattle.target_calls.specs.Journal.{Entry, Passes, actions_in, target_after}
use Rattle.target_calls.specs.Weights.{commands_in, commands_of, entries_performed, registers_in, registers_of, weight, weight_in}
use Rattle.flight_laws.proofs.CutLemmas.{Cutting, cut, faults, front_target, one_more, passes_but_last, work_is}
use Rattle.flight_laws.proofs.FlightLemmas.{commands_both, flight_length, head_makes, weight_both}
use Rattle.flight_laws.specs.Actions.{ActionBench, ActionDone, ActionWait, AreForgiving, FaultForgiven}
use Rattle.flight_laws.specs.Packets.{FewPackets, FullFlight}
use Rattle.flight_laws.specs.UnderWay.{IsUnderWay}
use Rattle.flight_laws.proofs.StopLemmas.{entry_at}
use Rattle.batch_packer.specs.Flying.{Flies}
use Rattle.flight_forms.specs.Flights.{Part}
use Rattle.target_machine.specs.Counts.{one_if}
use Rattle.dap_transfer.specs.State.{Setting, is_wait}
use Rattle.probe_core.specs.Bench.{BenchState}
use Rattle.probe_core.specs.Probe.{ended_retries_of, target_of, work_of}
use Rattle.probe_core.specs.declared.job.Limits.{Limits}
use Rattle.target_machine.specs.Lists.{after}
use Rattle.target_machine.specs.Plain.{Action, Commands, Makes, action_attempt, forgives, is_fault}
use Rattle.target_machine.specs.State.{Agree, TargetState}
use Rattle.target_machine.specs.declared.access.RegAccess.{RegAccess}
use Rattle.dap_messages.specs.declared.request.Response.{Response}
use Rattle.dap_messages.specs.declared.request.Response.TheVariants.{Good, Fault}
use Rattle.access_calls.specs.declared.stop.Report.{Report}
use Rattle.dap_transfer.specs.WireTransfer.{RetryIsOver}

-- ---- one entry more

weight_one : (t : TargetState) (xs : List Entry) (e : Entry) → weight_in t (xs ++ e ∷ []) ≡ weight_in t xs + weight (target_after t xs) e.action
weight_one t xs e = (let w = weight_append t xs (e ∷ []) in omega (arith, w))

commands_one : (xs : List Entry) (e : Entry) → commands_in (xs ++ e ∷ []) ≡ commands_in xs + commands_of e.action
commands_one xs e = commands_append xs (e ∷ []) ∙ ap (λ k. commands_in xs + k) (sum_by-cons (λ (x : Entry). commands_of x.action) e []) ∙ omega arith

pub action_done : ActionDone
action_done entries made e rest m0 m o on does passes room =
    let t0 : TargetState = target_of m0.probe in
    let w : weight (target_of m.probe) e.action ≡ weight (after t0 (actions_in made)) e.action = ap (λ (s : TargetState). weight s e.action) on.target in
    record {
      are = on.are ∙ sym (append_assoc made (e ∷ []) rest);
      weighty = on.weighty;
      flight = refl;
      passes = passes_both t0 made (e ∷ []) on.passes (ap (λ (s : TargetState). is_fault (action_attempt s e.action).outcome && not e.forgiving) (sym on.target) ∙ passes, tt);
      target = does.target ∙ ap (λ (s : TargetState). (action_attempt s e.action).next) on.target ∙ sym (after_split t0 made (e ∷ []));
      clear = does.clear;
      work = (let a = does.work in let b = on.work in let c = weight_one t0 made e in omega (arith, a, b, c, w));
      room = omega (arith, room);
      retries = does.retries ∙ on.retries;
      few = on.few;
      setting = does.setting ∙ on.setting;
      idle_cycles = does.idle_cycles ∙ on.idle_cycles;
      number = (let a = does.number in let b = on.number in let c = weight_one t0 made e in let d = commands_one made e in omega (arith, a, b, c, d, w));
    }

-- ---- a part of an entry

-- the entries after the first ones, and before the rest
pub between : (entries made some rest : List Entry) → entries ≡ made ++ (some ++ rest) → drop (length made) (take (length made + length some) entries) ≡ some
between entries made some rest are =
    ap (λ (l : List Entry). drop (length made) (take (length made + length some) l)) are
    ∙ ap (drop (length made)) (take-append-add made (some ++ rest) (length some))
    ∙ drop-append_seam made (take (length some) (some ++ rest))
    ∙ take-append_seam some rest

module _ (entries made : List Entry) (e : Entry) (rest : List Entry) (n : Option ℕ) (m0 m o : BenchState) (work : ℕ) (on : IsUnderWay entries made [] (e ∷ rest) [] m0 m) (grown : work_of o.probe ≡ work_of m.probe + work) (less : work < weight (target_of m.probe) e.action) where
  abbrev t0 : TargetState
  t0 = target_of m0.probe

  count_at : length made ≡ entries_performed t0 entries (work_of o.probe - work_of m0.probe)
  count_at =
      let g : work_of o.probe - work_of m0.probe ≡ weight_in t0 made + work = (let a = on.work in omega (arith, a, grown)) in
      sym ((λ j. entries_performed t0 (on.are j) (g j)) ∙ performed_part t0 made e rest work (subst (λ (s : TargetState). work < weight s e.action) on.target less))

  long : length entries ≡ length made + suc (length rest)
  long = ap length on.are ∙ length-append made (e ∷ rest)

  made_is : take (length made) entries ≡ made
  made_is = ap (take (length made)) on.are ∙ take-append_seam made (e ∷ rest)

  at_front : target_of m.probe ≡ target_after t0 (take (length made) entries)
  at_front = on.target ∙ ap (target_after t0) (sym made_is)

  next_is : slice_get entries (length made) ≡ Some e
  next_is = ap (λ (l : List Entry). slice_get l (length made)) on.are ∙ entry_at made e rest

  work_within : work_of o.probe - work_of m0.probe ≤ weight_in t0 entries
  work_within =
      (let a = on.work in let w : work < weight (target_after t0 made) e.action = subst (λ (s : TargetState). work < weight s e.action) on.target less in
      let x = ap (weight_in t0) on.are in let y = weight_append t0 made (e ∷ rest) in omega (arith, a, grown, w, x, y))

  work_up_to_here : work_of o.probe - work_of m0.probe ≤ weight_in t0 (take (length made + 1) entries)
  work_up_to_here =
      (let a = on.work in let w : work < weight (target_after t0 made) e.action = subst (λ (s : TargetState). work < weight s e.action) on.target less in
      let x = ap (weight_in t0) (ap (take (length made + 1)) on.are ∙ take-append-add made (e ∷ rest) 1) in let y = weight_one t0 made e in omega (arith, a, grown, w, x, y))

  alone : (limits : Limits) → AreTogether limits (drop (length made) (take (length made + 1) entries))
  alone limits = inr (ap length (between entries made (e ∷ []) rest on.are))

  pub action_bench : (limits : Limits) → ((work ≡ 0) × Agree (target_of o.probe) (target_of m.probe)) ⊎ IsPartOfAction e.action (target_of m.probe) (target_of o.probe) → idle_cycles_of o ≡ idle_cycles_of m
      → HasBroken limits entries (length made + 1) (length made) (began m0 n) o
  action_bench limits (inl (none, same)) idle = record {
    count = length made;
    begun = length made;
    count_is = count_at;
    no_more = work_within;
    up_to = (let a = on.work in let f = ap (weight_in t0) made_is in omega (arith, a, grown, none, f));
    low = omega arith;
    high = omega arith;
    within = (let l = long in omega (arith, l));
    together = alone limits;
    good = passes_but_last t0 (length made) entries made (e ∷ rest) on.are on.passes (omega arith);
    idle_cycles = idle ∙ on.idle_cycles;
    target = inl (refl, subst (Agree (target_of o.probe)) at_front same);
  }
  action_bench limits (inr part) idle = record {
    count = length made;
    begun = length made + 1;
    count_is = count_at;
    no_more = work_within;
    up_to = work_up_to_here;
    low = omega arith;
    high = omega arith;
    within = (let l = long in omega (arith, l));
    together = alone limits;
    good = passes_but_last t0 (length made + 1) entries made (e ∷ rest) on.are on.passes (omega arith);
    idle_cycles = idle ∙ on.idle_cycles;
    target = inr (
      refl,
      subst (λ (x : Option Entry). IsPartOfEntry x (target_after t0 (take (length made) entries)) (target_of o.probe)) (sym next_is) (subst (λ (s : TargetState). IsPartOfAction e.action s (target_of o.probe)) at_front part),
    );
  }

  pub action_wait : (r : Report) (b : AccessView) → Agree (target_of o.probe) (target_of m.probe) → idle_cycles_of o ≡ idle_cycles_of m → ended_retries_of o.probe ≡ ended_retries_of m.probe + 1 → RetryIsOver (transfer_setting_of m) (transfer_number_of o) → transfer_number_of o ≤ transfer_number_of m + 2 * work + 1 → pending_of o ≡ false → r.accesses ≡ length made → r.confirmed ≡ length made → HasNumbers entries b.asks.calls b.skipped b.lines r →
      IsUnanswered entries r b (began m0 n) o
  action_wait r b same idle retries over number pending accesses confirmed numbers = record {
    performed = record {
      count_is = accesses ∙ count_at;
      no_more = work_within;
      within = (let l = long in omega (arith, l, accesses));
      target = subst (Agree (target_of o.probe)) (at_front ∙ ap (λ (k : ℕ). target_after t0 (take k entries)) (sym accesses)) same;
    };
    confirmed = accesses ∙ sym confirmed ∙ (let z : r.confirmed ≡ r.confirmed + 0 = omega arith in z) ∙ ap (λ (x : Bool). r.confirmed + cond x 1 0) (sym pending);
    up_to = subst (λ (k : ℕ). work_of o.probe - work_of m0.probe ≤ weight_in t0 (take (k + 1) entries)) (sym confirmed) work_up_to_here;
    numbers = numbers;
    retries = retries ∙ ap (λ k. k + 1) on.retries;
    idle_cycles = idle ∙ on.idle_cycles;
    over = subst (λ (s : Setting). RetryIsOver s (transfer_number_of o)) on.setting over;
    number =
        (let c : commands_in (take r.accesses entries) ≡ commands_in made = (λ j. commands_in (take (accesses j) (on.are j))) ∙ ap commands_in (take-append_seam made (e ∷ rest)) in
        let a = on.number in let w = on.work in omega (arith, c, a, w, number, grown));
  }

pub action_bench_law : ActionBench
action_bench_law limits entries made e rest n m0 m o work on grown less left idle = action_bench entries made e rest n m0 m o work on grown less limits left idle

pub action_wait_law : ActionWait
action_wait_law entries made e rest n m0 m o work r b on grown less same idle retries over number pending accesses confirmed numbers = action_wait entries made e rest n m0 m o work on grown less r b same idle retries over number pending accesses confirmed numbers

-- ---- a fault that is forgiven

pub forgiving_passes : (u : TargetState) (es : List Entry) → AreForgiving es → Passes u es
forgiving_passes u [] h = tt
forgiving_passes u (e ∷ es) h = (ap (λ (b : Bool). is_fault (action_attempt u e.action).outcome && not b) h.0 ∙ and_false (is_fault (action_attempt u e.action).outcome), forgiving_passes (action_attempt u e.action).next es h.1)
  where
    and_false : (b : Bool) → (b && not true) ≡ false
    and_false true = refl
    and_false false = refl

none_fault_at : (u : TargetState) (front : List Entry) (e : Entry) (back : List Entry) (lead : List RegAccess) (a : RegAccess) → NoneFault u lead → actions_in (front ++ e ∷ back) ≡ making (lead ++ a ∷ []) → length front < length lead → is_fault (action_attempt (after u (actions_in front)) e.action).outcome ≡ false
none_fault_at u [] e back [] a h is less = absurd (omega (arith, less))
none_fault_at u [] e back (b ∷ lead) a h is less = ap (λ (x : Action). is_fault (action_attempt u x).outcome) (head_makes e.action (Makes b) (actions_in back) (making (lead ++ a ∷ [])) is).0 ∙ h.0
none_fault_at u (x ∷ front) e back [] a h is less = absurd (omega (arith, less))
none_fault_at u (x ∷ front) e back (b ∷ lead) a h is less =
    let p = head_makes x.action (Makes b) (actions_in (front ++ e ∷ back)) (making (lead ++ a ∷ [])) is in
    none_fault_at (action_attempt u x.action).next front e back lead a (subst (λ (y : Action). NoneFault (action_attempt u y).next lead) (sym p.0) h.1) p.1 (omega (arith, less))

all_forgiving : (xs : List Entry) (e : Entry) → AreForgiving xs → e.forgiving ≡ true → AreForgiving (xs ++ e ∷ [])
all_forgiving [] e h k = (k, tt)
all_forgiving (x ∷ xs) e h k = (h.0, all_forgiving xs e h.1 k)

-- where no access before it faults, a flight faults at its last one, and all its entries were performed
module _ (entries made flying rest : List Entry) (lead : List RegAccess) (a : RegAccess) (m0 m o : BenchState) (part : Part) (on : IsUnderWay entries made flying rest (lead ++ a ∷ []) m0 m) (flies : Flies (lead ++ a ∷ []) part m o) (bad : part.response ≡ Fault) (none : NoneFault (target_of m.probe) lead) where
  early : part.confirmed < length lead → part.confirmed < length (lead ++ a ∷ []) → ⊥
  early less short =
      let c : Cutting part.confirmed flying = cut entries made flying rest (lead ++ a ∷ []) None m0 m o part on flies.does bad short in
      let good : is_fault (action_attempt (after (target_of m.probe) (actions_in c.front)) c.entry.action).outcome ≡ false =
      none_fault_at (target_of m.probe) c.front c.entry c.back lead a none (ap actions_in (sym c.is) ∙ on.flight) (let at = c.at in omega (arith, at, less)) in
      let here : after (target_of m0.probe) (actions_in (made ++ c.front)) ≡ after (target_of m.probe) (actions_in c.front) = after_split (target_of m0.probe) made c.front ∙ ap (λ (s : TargetState). after s (actions_in c.front)) (sym on.target) in
      both_ways (is_fault (action_attempt (after (target_of m.probe) (actions_in c.front)) c.entry.action).outcome) good
      (ap (λ (s : TargetState). is_fault (action_attempt s c.entry.action).outcome) (sym here) ∙ faults entries made flying rest (lead ++ a ∷ []) None m0 m o part on flies.does bad short)

  last_by : part.confirmed < length (lead ++ a ∷ []) → length (lead ++ a ∷ []) ≡ length lead + 1 → (part.confirmed < length lead → ⊥) → part.confirmed ≡ length lead
  last_by short len never = by_place (cases_lt part.confirmed (length lead))
    where
      by_place : (part.confirmed < length lead) ⊎ (length lead ≤ part.confirmed) → part.confirmed ≡ length lead
      by_place (inl less) = absurd (never less)
      by_place (inr ge) = omega (arith, short, len, ge)

  pub all_performed : part.performed ≡ length flying
  all_performed =
      let short : part.confirmed < length (lead ++ a ∷ []) = flies.does.made.short (λ good. absurd (let x : ◌≡◌ {A = Response} Good Fault = sym good ∙ bad in cc)) in
      let one : part.performed ≡ part.confirmed + 1 = one_more entries made flying rest (lead ++ a ∷ []) None m0 m o part on flies.does bad short in
      let len : length (lead ++ a ∷ []) ≡ length lead + 1 = length-append lead (a ∷ []) in
      let flen : length flying ≡ length (lead ++ a ∷ []) = flight_length flying (lead ++ a ∷ []) on.flight in
      let at_last : part.confirmed ≡ length lead = last_by short len (λ less. early less short) in
      omega (arith, one, at_last, len, flen)

pub fault_forgiven : FaultForgiven
fault_forgiven entries made flying abort rest lead a m0 m o p part on flies bad none forgiving action mild does room =
    let accesses : List RegAccess = lead ++ a ∷ [] in
    let t0 : TargetState = target_of m0.probe in
    let tm : TargetState = target_of m.probe in
    let all : part.performed ≡ length flying = all_performed entries made flying (abort ∷ rest) lead a m0 m o part on flies bad none in
    let whole : take part.performed flying ≡ flying = take_all part.performed flying (omega (arith, all)) in
    let target_o : target_of o.probe ≡ after t0 (actions_in (made ++ flying)) = front_target entries made flying (abort ∷ rest) accesses None m0 m o part on flies.does ∙ ap (λ (l : List Entry). after t0 (actions_in (made ++ l))) whole in
    let joined : made ++ (flying ++ abort ∷ []) ≡ (made ++ flying) ++ abort ∷ [] = sym (append_assoc made flying (abort ∷ [])) in
    let w1 = weight_one t0 (made ++ flying) abort in
    let w2 = weight_both t0 made flying accesses on.flight in
    let w3 : weight (after t0 (actions_in (made ++ flying))) abort.action ≡ 1 = ap (weight (after t0 (actions_in (made ++ flying)))) action in
    let wj : weight_in t0 (made ++ (flying ++ abort ∷ [])) ≡ weight_in t0 ((made ++ flying) ++ abort ∷ []) = ap (weight_in t0) joined in
    let c1 = commands_one (made ++ flying) abort in
    let c2 = commands_both made flying accesses on.flight in
    let c3 : commands_of abort.action ≡ 1 = ap commands_of action in
    let cj : commands_in (made ++ (flying ++ abort ∷ [])) ≡ commands_in ((made ++ flying) ++ abort ∷ []) = ap commands_in joined in
    let work_o = work_is entries made flying (abort ∷ rest) accesses None m0 m o part on flies.does in
    record {
      are = on.are ∙ ap (λ (l : List Entry). made ++ l) (sym (append_assoc flying (abort ∷ []) rest)) ∙ sym (append_assoc made (flying ++ abort ∷ []) rest);
      weighty = on.weighty;
      flight = refl;
      passes = passes_both t0 made (flying ++ abort ∷ []) on.passes (forgiving_passes (after t0 (actions_in made)) (flying ++ abort ∷ []) (all_forgiving flying abort forgiving mild));
      target = does.target ∙ ap (λ (s : TargetState). (action_attempt s (Commands forgives)).next) target_o ∙ ap (λ (x : Action). (action_attempt (after t0 (actions_in (made ++ flying))) x).next) (sym action)
          ∙ sym (after_split t0 (made ++ flying) (abort ∷ [])) ∙ ap (λ (l : List Entry). after t0 (actions_in l)) (sym joined);
      clear = does.clear;
      work = (let w = on.work in let d : work_of p.probe ≡ work_of o.probe + 1 = does.work in omega (arith, w, d, work_o, w1, w2, w3, wj, all));
      room = omega (arith, room);
      retries = does.retries ∙ flies.does.retries ∙ ap (λ (x : Response). cond (is_wait x) (min (ended_retries_of m.probe + 1) (2 ^ 32 - 1)) (ended_retries_of m.probe)) bad ∙ on.retries;
      few = on.few;
      setting = does.setting ∙ flies.does.setting ∙ on.setting;
      idle_cycles = does.idle_cycles ∙ flies.idle_cycles ∙ on.idle_cycles;
      number =
          (let x = flies.does.number in let y : one_if (is_wait part.response) ≡ 0 = ap (λ (x : Response). one_if (is_wait x)) bad in let z = on.number in
          let d : transfer_number_of p + 2 * 1 ≤ transfer_number_of o + 2 * 1 = does.number in
          omega (arith, x, y, z, d, w1, w2, w3, wj, c1, c2, c3, cj, all));
    }

-- ---- packets

pub flight_registers : (es : List Entry) (accesses : List RegAccess) → actions_in es ≡ making accesses → registers_in es ≡ length accesses
flight_registers [] [] e = refl
flight_registers [] (a ∷ accesses) e = absurd (cc)
flight_registers (x ∷ es) [] e = absurd (cc)
flight_registers (x ∷ es) (a ∷ accesses) e =
    let p = head_makes x.action (Makes a) (actions_in es) (making accesses) e in
    sum_by-cons (λ (y : Entry). registers_of y.action) x es ∙ (λ j. registers_of (p.0 j) + flight_registers es accesses p.1 j) ∙ omega arith

few_div : (full capacity registers : ℕ) → 0 < capacity → full * capacity ≤ registers → full ≤ registers / capacity
few_div full capacity registers some le = (le-div_iff_mul-le {k = capacity} {x = full} {y = registers} some).1 le

pub few_packets : FewPackets
few_packets full capacity needs made more b m h =
    let r = registers_append made more in
    let le : full * capacity ≤ registers_in (made ++ more) = (let f = h.filled in omega (arith, r, f)) in
    let d : full ≤ registers_in (made ++ more) / capacity = few_div full capacity _ h.some le in
    let f = h.few in omega (arith, f, d)

pub full_flight : FullFlight
full_flight full capacity needs made flying accesses b m o h flight many one = record {
  some = h.some;
  few = (let f = h.few in omega (arith, f, one));
  filled = (let f = h.filled in let r = registers_append made flying in let g = flight_registers flying accesses flight in
      let d : (full + 1) * capacity ≡ full * capacity + capacity = omega arith in omega (arith, f, r, g, many, d));
}
