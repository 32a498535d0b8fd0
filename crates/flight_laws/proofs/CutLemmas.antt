-- Where a flight is cut.
use Rattle.std.proofs.Common.{◌≡◌, inl, inr, ◌∙◌, ℕ, zero, suc, ◌+◌, ◌-◌, ◌^◌, ◌≤◌, ◌<◌, min, Bool, true, false, cond, not, ◌&&◌, List, [], ◌∷◌, ◌++◌, length, take, drop, Option, Some, refl, sym, ap, subst, arith, append_assoc, length-append}
use Rattle.std.proofs.lemmas.List.{length-take, take-append-drop, take-append-le}
use Rattle.std.proofs.Math.Seq.{drop-append_seam, take-append-add, take-append_seam}
use Rattle.std.specs.List.{AllByRecursion}
use Rattle.target_calls.proofs.EntryLemmas.{fault_first, pass_front}
use Rattle.target_machine.proofs.FreshLemmas.{attempt_sets}
use Rattle.access_calls.specs.Reported.{began}
use Rattle.access_calls.specs.Standing.{AreTogether, HasPerformed, IsMade, flight_accesses, pending_of, transfer_number_of, transfer_setting_of}
use Rattle.access_regs.proofs.Seams.{after_split, passes_both}
use Rattle.access_regs.specs.Journal.{making}
use Rattle.target_calls.specs.Journal.{Entry, Passes, actions_in, first_fault}
use Rattle.target_calls.specs.Weights.{AreWeighty, commands_in, weight_in}
use Rattle.flight_laws.proofs.FlightLemmas.{clear_passes, commands_both, flight_length, flight_take, head_makes, makes_after, room_grown, weight_both}
use Rattle.flight_laws.proofs.UnderWayLemmas.{front_performed}
use Rattle.batch_packer.specs.Flying.{transfers_of}
use Rattle.flight_laws.specs.Flights.{AreStrict, BenchFlies, FaultFlies, IsCutAt, IsStrictFaultAt, WaitFlies}
use Rattle.flight_laws.specs.UnderWay.{IsUnderWay}
use Rattle.target_machine.specs.Counts.{one_if}
use Rattle.dap_transfer.specs.State.{Setting, TransferState, is_wait}
use Rattle.dap_transfer.proofs.NormalAnswers.{count_missing}
use Rattle.flight_forms.specs.Flights.{DoesPart, Part}
use Rattle.flight_forms.proofs.Rows.{clear_end}
use Rattle.probe_core.specs.Bench.{BenchState}
use Rattle.probe_core.specs.Probe.{ended_retries_of, target_of, work_of}
use Rattle.probe_core.specs.declared.job.Limits.{Limits}
use Rattle.target_machine.specs.Lists.{after}
use Rattle.target_machine.specs.Plain.{Action, Makes, action_attempt, is_fault}
use Rattle.target_machine.specs.State.{TargetState}
use Rattle.target_machine.specs.declared.access.RegAccess.{RegAccess}
use Rattle.target_machine.proofs.CountLemmas.{one_most}
use Rattle.dap_messages.specs.declared.request.Response.{Response}
use Rattle.dap_messages.specs.declared.request.Response.TheVariants.{Good, Wait, Fault}
use Rattle.dap_transfer.specs.WireTransfer.{RetryIsOver}

-- a list cut at a place within
pub record Cutting {A : Type 0} (k : ℕ) (xs : List A) : Type 0 where
  pub front : List A
  pub entry : A
  pub back : List A
  pub is : xs ≡ front ++ entry ∷ back
  pub at : length front ≡ k

pub cut_list : {A : Type 0} → (k : ℕ) (xs : List A) → k < length xs → Cutting k xs
cut_list k [] less = absurd (omega (arith, less))
cut_list zero (x ∷ xs) less = record { front = []; entry = x; back = xs; is = refl; at = refl }
cut_list (suc k) (x ∷ xs) less =
    let c = cut_list k xs (omega (arith, less)) in
    record { front = x ∷ c.front; entry = c.entry; back = c.back; is = ap (λ l. x ∷ l) c.is; at = ap suc c.at }

pub take_front : {A : Type 0} → (k : ℕ) (xs front back : List A) → xs ≡ front ++ back → length front ≡ k → take k xs ≡ front
take_front k xs front back is at = (λ j. take (sym at j) (is j)) ∙ take-append_seam front back

record IsMakes (e : Entry) : Type 0 where
  access : RegAccess
  is : e.action ≡ Makes access

is_makes : (front : List Entry) (e : Entry) (back : List Entry) (accesses : List RegAccess) → actions_in (front ++ e ∷ back) ≡ making accesses → IsMakes e
is_makes [] e back [] h = absurd (cc)
is_makes [] e back (a ∷ accesses) h = record { access = a; is = (head_makes e.action (Makes a) (actions_in back) (making accesses) h).0 }
is_makes (x ∷ front) e back [] h = absurd (cc)
is_makes (x ∷ front) e back (a ∷ accesses) h = is_makes front e back accesses (head_makes x.action (Makes a) (actions_in (front ++ e ∷ back)) (making accesses) h).1

strict_at : (front : List Entry) (e : Entry) (back : List Entry) → AreStrict (front ++ e ∷ back) → e.forgiving ≡ false
strict_at [] e back h = h.0
strict_at (x ∷ front) e back h = strict_at front e back h.1

pub has_at : (entries front rest : List Entry) (k : ℕ) (n : Option ℕ) (m0 o : BenchState) → entries ≡ front ++ rest → AreWeighty entries → length front ≡ k → work_of o.probe ≡ work_of m0.probe + weight_in (target_of m0.probe) front
    → target_of o.probe ≡ after (target_of m0.probe) (actions_in front) → HasPerformed entries k (began m0 n) o
has_at entries front rest k n m0 o is weighty len work target =
    subst (λ (j : ℕ). HasPerformed entries j (began m0 n) o) len
    (subst (λ (l : List Entry). HasPerformed l (length front) (began m0 n) o) (sym is)
    (front_performed n m0 o front rest (subst AreWeighty is weighty) work target))

-- more entries weigh no less
pub weight_longer : (t : TargetState) (n k : ℕ) (es : List Entry) → n ≤ k → weight_in t (take n es) ≤ weight_in t (take k es)
weight_longer t zero k es le = omega arith
weight_longer t (suc n) zero es le = absurd (omega (arith, le))
weight_longer t (suc n) (suc k) [] le = omega arith
weight_longer t (suc n) (suc k) (e ∷ es) le = (let r = weight_longer (action_attempt t e.action).next n k es (omega (arith, le)) in omega (arith, r))

-- all but the last of the entries that were begun, where more than these pass
pub passes_but_last : (t : TargetState) (begun : ℕ) (entries front rest : List Entry) → entries ≡ front ++ rest → Passes t front → begun - 1 ≤ length front → Passes t (take (begun - 1) entries)
passes_but_last t begun entries front rest is passes le =
    let first : take (begun - 1) entries ≡ take (begun - 1) front = ap (take (begun - 1)) is ∙ take-append-le (begun - 1) front rest le in
    subst (Passes t) (sym first) (pass_front t (take (begun - 1) front) (drop (begun - 1) front) (subst (Passes t) (sym (take-append-drop (begun - 1) front)) passes))

module _ (entries made flying rest : List Entry) (accesses : List RegAccess) (n : Option ℕ) (m0 m o : BenchState) (part : Part) (on : IsUnderWay entries made flying rest accesses m0 m) where
  abbrev pub t0 : TargetState
  t0 = target_of m0.probe

  abbrev pub front : List Entry
  front = made ++ take part.performed flying

  pub split : entries ≡ front ++ (drop part.performed flying ++ rest)
  split =
      on.are
      ∙ ap (λ (l : List Entry). made ++ (l ++ rest)) (sym (take-append-drop part.performed flying))
      ∙ ap (λ (l : List Entry). made ++ l) (append_assoc (take part.performed flying) (drop part.performed flying) rest)
      ∙ sym (append_assoc made (take part.performed flying) (drop part.performed flying ++ rest))

  part_flight : actions_in (take part.performed flying) ≡ making (take part.performed accesses)
  part_flight = flight_take part.performed flying accesses on.flight

  module _ (does : DoesPart (transfers_of m) (transfers_of o) accesses part) where
    most : part.performed ≤ length flying
    most = (let l = flight_length flying accesses on.flight in let h = does.made.most in omega (arith, l, h))

    pub front_length : length front ≡ length made + part.performed
    front_length = length-append made (take part.performed flying) ∙ (let l = length-take part.performed flying in let h = most in grind (arith, l, h))

    pub work_is : work_of o.probe ≡ work_of m.probe + part.performed
    work_is = does.work ∙ room_grown (work_of m.probe) part.performed (let h = most in let r = on.room in omega (arith, h, r))

    front_work : work_of o.probe ≡ work_of m0.probe + weight_in t0 front
    front_work =
        let w = work_is in let x = on.work in
        let y = weight_both t0 made (take part.performed flying) (take part.performed accesses) part_flight in
        let l = length-append made (take part.performed flying) in let l' = front_length in
        omega (arith, w, x, y, l, l')

    pub front_target : target_of o.probe ≡ after t0 (actions_in front)
    front_target =
        does.made.target
        ∙ sym (makes_after (target_of m.probe) (take part.performed accesses))
        ∙ ap (after (target_of m.probe)) (sym part_flight)
        ∙ ap (λ (s : TargetState). after s (actions_in (take part.performed flying))) on.target
        ∙ sym (after_split t0 made (take part.performed flying))

    front_is : take (length made + part.performed) entries ≡ front
    front_is =
        (λ j. take (sym front_length j) (split j)) ∙ take-append_seam front (drop part.performed flying ++ rest)

    -- no more was done than the first entries weigh
    pub work_up_to : (most : ℕ) → length made + part.performed ≤ most → work_of o.probe - work_of m0.probe ≤ weight_in t0 (take most entries)
    work_up_to most le =
        (let w = front_work in let f = ap (weight_in t0) front_is in let l = weight_longer t0 (length made + part.performed) most entries le in omega (arith, w, f, l))

    pub has_part : HasPerformed entries (length made + part.performed) (began m0 n) o
    has_part = has_at entries front (drop part.performed flying ++ rest) (length made + part.performed) n m0 o split on.weighty front_length front_work front_target

    -- where it is cut
    cut_at : part.confirmed < length accesses → IsCutAt entries (length made + part.confirmed) t0
    cut_at short =
        let c : Cutting part.confirmed flying = cut_list part.confirmed flying (let l = flight_length flying accesses on.flight in omega (arith, short, l)) in
        let same : take part.confirmed flying ≡ c.front = take_front part.confirmed flying c.front (c.entry ∷ c.back) c.is c.at in
        let clear : Passes (target_of m.probe) (take part.confirmed flying) = clear_passes (target_of m.probe) (take part.confirmed flying) (take part.confirmed accesses) (flight_take part.confirmed flying accesses on.flight) does.made.clear in
        record {
          front = made ++ c.front;
          entry = c.entry;
          more = c.back ++ rest;
          is = on.are ∙ ap (λ (l : List Entry). made ++ (l ++ rest)) c.is ∙ ap (λ (l : List Entry). made ++ l) (append_assoc c.front (c.entry ∷ c.back) rest) ∙ sym (append_assoc made c.front (c.entry ∷ (c.back ++ rest)));
          at = length-append made c.front ∙ ap (λ (k : ℕ). length made + k) c.at;
          passes = passes_both t0 made c.front on.passes (subst (λ (s : TargetState). Passes s c.front) on.target (subst (Passes (target_of m.probe)) same clear));
        }

    -- all but the last of those that were performed pass
    begun_pass : Passes t0 (take (length made + part.performed - 1) entries)
    begun_pass =
        let clear : Passes (target_of m.probe) (take part.confirmed flying) = clear_passes (target_of m.probe) (take part.confirmed flying) (take part.confirmed accesses) (flight_take part.confirmed flying accesses on.flight) does.made.clear in
        let all : entries ≡ (made ++ take part.confirmed flying) ++ (drop part.confirmed flying ++ rest) =
        on.are
        ∙ ap (λ (l : List Entry). made ++ (l ++ rest)) (sym (take-append-drop part.confirmed flying))
        ∙ ap (λ (l : List Entry). made ++ l) (append_assoc (take part.confirmed flying) (drop part.confirmed flying) rest)
        ∙ sym (append_assoc made (take part.confirmed flying) (drop part.confirmed flying ++ rest)) in
        let few : part.performed ≤ part.confirmed + 1 = (let n = does.made.near in let o = one_most does.made.doubt in omega (arith, n, o)) in
        let enough : part.confirmed ≤ part.performed = (let n = does.made.near in omega (arith, n)) in
        let long : length made + part.performed - 1 ≤ length (made ++ take part.confirmed flying) =
        (let a = length-append made (take part.confirmed flying) in let l = length-take part.confirmed flying in let h = most in grind (arith, a, l, h, few, enough)) in
        passes_but_last t0 (length made + part.performed) entries (made ++ take part.confirmed flying) (drop part.confirmed flying ++ rest) all
        (passes_both t0 made (take part.confirmed flying) on.passes (subst (λ (s : TargetState). Passes s (take part.confirmed flying)) on.target clear)) long

    -- ---- a fault

    module _ (bad : part.response ≡ Fault) (short : part.confirmed < length accesses) where
      pub one_more : part.performed ≡ part.confirmed + 1
      one_more = does.made.near ∙ ap (λ (b : Bool). part.confirmed + one_if b) (does.made.fault bad).0

      abbrev pub cut : Cutting part.confirmed flying
      cut = cut_list part.confirmed flying (let l = flight_length flying accesses on.flight in omega (arith, short, l))

      before_is : take part.confirmed flying ≡ cut.front
      before_is = take_front part.confirmed flying cut.front (cut.entry ∷ cut.back) cut.is cut.at

      with_is : take part.performed flying ≡ cut.front ++ cut.entry ∷ []
      with_is = take_front part.performed flying (cut.front ++ cut.entry ∷ []) cut.back (cut.is ∙ sym (append_assoc cut.front (cut.entry ∷ []) cut.back)) (length-append cut.front (cut.entry ∷ []) ∙ (let a = cut.at in let p = one_more in omega (arith, a, p)))

      abbrev pub before : TargetState
      before = after t0 (actions_in (made ++ cut.front))

      before_clear : before.sticky ≡ false
      before_clear =
          ap (λ (s : TargetState). s.sticky)
          (after_split t0 made cut.front ∙ ap (λ (s : TargetState). after s (actions_in cut.front)) (sym on.target) ∙ ap (λ (l : List Entry). after (target_of m.probe) (actions_in l)) (sym before_is)
          ∙ ap (after (target_of m.probe)) (flight_take part.confirmed flying accesses on.flight) ∙ makes_after (target_of m.probe) (take part.confirmed accesses))
          ∙ clear_end (target_of m.probe) (take part.confirmed accesses) does.made.clear

      after_is : target_of o.probe ≡ (action_attempt before cut.entry.action).next
      after_is =
          front_target
          ∙ ap (λ (l : List Entry). after t0 (actions_in (made ++ l))) with_is
          ∙ ap (λ (l : List Entry). after t0 (actions_in l)) (sym (append_assoc made cut.front (cut.entry ∷ [])))
          ∙ after_split t0 (made ++ cut.front) (cut.entry ∷ [])

      pub faults : is_fault (action_attempt before cut.entry.action).outcome ≡ true
      faults =
          let a : IsMakes cut.entry = is_makes cut.front cut.entry cut.back accesses (ap actions_in (sym cut.is) ∙ on.flight) in
          let set : (action_attempt before cut.entry.action).next.sticky ≡ true = ap (λ (s : TargetState). s.sticky) (sym after_is) ∙ (does.made.fault bad).1 in
          ap (λ (x : Action). is_fault (action_attempt before x).outcome) a.is
          ∙ sym (attempt_sets before a.access before_clear) ∙ subst (λ (x : Action). (action_attempt before x).next.sticky ≡ true) a.is set

      fault_at : AreStrict flying → IsStrictFaultAt entries (length made + part.confirmed) t0
      unfolding cut_at
      fault_at strict = record { cut = cut_at short; bad = faults; strict = strict_at cut.front cut.entry cut.back (subst AreStrict cut.is strict) }

-- ---- the laws

first_fault_at : (entries : List Entry) (t : TargetState) (k : ℕ) → IsStrictFaultAt entries k t → first_fault t entries ≡ Some (k + 1)
first_fault_at entries t k f =
    ap (λ (l : List Entry). first_fault t l) f.cut.is
    ∙ fault_first t f.cut.front f.cut.entry f.cut.more f.cut.passes (ap (λ (b : Bool). b && not f.cut.entry.forgiving) f.bad ∙ ap not f.strict)
    ∙ (let at = f.cut.at in let same : suc (length f.cut.front) ≡ k + 1 = omega (arith, at) in ap Some same)

pub fault_flies : FaultFlies
fault_flies entries made flying rest accesses n m0 m o part r b on flies bad strict accesses_is confirmed_is numbers =
    let short : part.confirmed < length accesses = flies.does.made.short (λ good. absurd (let x : ◌≡◌ {A = Response} Good Fault = sym good ∙ bad in cc)) in
    let one : part.performed ≡ part.confirmed + 1 = one_more entries made flying rest accesses n m0 m o part on flies.does bad short in
    let at : IsStrictFaultAt entries (length made + part.confirmed) (target_of m0.probe) = fault_at entries made flying rest accesses n m0 m o part on flies.does bad short strict in (
      record {
        performed = subst (λ (k : ℕ). HasPerformed entries k (began m0 n) o) (sym accesses_is) (has_part entries made flying rest accesses n m0 m o part on flies.does);
        first = first_fault_at entries (target_of m0.probe) (length made + part.confirmed) at ∙ (let same : (length made + part.confirmed) + 1 ≡ r.accesses = omega (arith, one, accesses_is) in ap Some same);
        confirmed = omega (arith, one, accesses_is, confirmed_is);
        up_to = work_up_to entries made flying rest accesses n m0 m o part on flies.does (r.confirmed + 1) (omega (arith, one, confirmed_is));
        numbers = numbers;
        retries = flies.does.retries ∙ ap (λ (x : Response). cond (is_wait x) (min (ended_retries_of m.probe + 1) (2 ^ 32 - 1)) (ended_retries_of m.probe)) bad ∙ on.retries;
        idle_cycles = flies.idle_cycles ∙ on.idle_cycles;
      },
      subst (λ (k : ℕ). IsStrictFaultAt entries k (target_of m0.probe)) (sym confirmed_is) at,
    )

pub wait_flies : WaitFlies
wait_flies entries made flying rest accesses n m0 m o part r b on flies wait accesses_is confirmed_is numbers =
    let short : part.confirmed < length accesses = flies.does.made.short (λ good. absurd (let x : ◌≡◌ {A = Response} Good Wait = sym good ∙ wait in cc)) in
    let first_are : take r.accesses entries ≡ (made ++ take part.performed flying) =
    (λ j. take (accesses_is j) (split entries made flying rest accesses n m0 m o part on j))
    ∙ ap (λ (k : ℕ). take k ((made ++ take part.performed flying) ++ (drop part.performed flying ++ rest))) (sym (front_length entries made flying rest accesses n m0 m o part on flies.does))
    ∙ take-append_seam (made ++ take part.performed flying) (drop part.performed flying ++ rest) in
    let commands : commands_in (take r.accesses entries) ≡ commands_in made = ap commands_in first_are ∙ commands_both made (take part.performed flying) (take part.performed accesses) (part_flight entries made flying rest accesses n m0 m o part on) in (
      record {
        performed = subst (λ (k : ℕ). HasPerformed entries k (began m0 n) o) (sym accesses_is) (has_part entries made flying rest accesses n m0 m o part on flies.does);
        confirmed = (let p = flies.does.pending wait in let c = count_missing (pending_of o) in omega (arith, p, c, accesses_is, confirmed_is));
        up_to = work_up_to entries made flying rest accesses n m0 m o part on flies.does (r.confirmed + 1)
            (let near = flies.does.made.near in let few = one_most flies.does.made.doubt in omega (arith, near, few, confirmed_is));
        numbers = numbers;
        retries =
            flies.does.retries ∙ ap (λ (x : Response). cond (is_wait x) (min (ended_retries_of m.probe + 1) (2 ^ 32 - 1)) (ended_retries_of m.probe)) wait
            ∙ (let f = on.few in let r = on.retries in omega (arith, f, r));
        idle_cycles = flies.idle_cycles ∙ on.idle_cycles;
        over = subst (λ (s : Setting). RetryIsOver s (transfer_number_of o)) on.setting (flies.does.over wait);
        number =
            (let w : one_if (is_wait part.response) ≡ 1 = ap (λ (x : Response). one_if (is_wait x)) wait in
            let a = flies.does.number in let x = on.number in let y = work_is entries made flying rest accesses n m0 m o part on flies.does in let z = on.work in
            omega (arith, w, a, x, y, z, commands));
      },
      subst (λ (k : ℕ). IsCutAt entries k (target_of m0.probe)) (sym confirmed_is) (cut_at entries made flying rest accesses n m0 m o part on flies.does short),
    )

-- the accesses of one flight
all_made : (es : List Entry) (accesses : List RegAccess) → actions_in es ≡ making accesses → AllByRecursion (λ e. IsMade e.action) es
all_made [] accesses e = tt
all_made (x ∷ es) [] e = absurd (cc)
all_made (x ∷ es) (a ∷ accesses) e =
    let p = head_makes x.action (Makes a) (actions_in es) (making accesses) e in
    (subst IsMade (sym p.0) tt, all_made es accesses p.1)

one_flight : (limits : Limits) (entries made flying rest : List Entry) (accesses : List RegAccess) → entries ≡ made ++ (flying ++ rest) → actions_in flying ≡ making accesses → length accesses ≤ flight_accesses limits
    → AreTogether limits (drop (length made) (take (length made + length flying) entries))
one_flight limits entries made flying rest accesses are flight held =
    subst (AreTogether limits)
    (sym (ap (λ (l : List Entry). drop (length made) (take (length made + length flying) l)) are
    ∙ ap (drop (length made)) (take-append-add made (flying ++ rest) (length flying))
    ∙ drop-append_seam made (take (length flying) (flying ++ rest))
    ∙ take-append_seam flying rest))
    (inl (all_made flying accesses flight, (let l = flight_length flying accesses flight in omega (arith, l, held))))

pub bench_flies : BenchFlies
bench_flies limits entries made flying rest accesses n m0 m o part on (inl same) idle never held =
    let is : entries ≡ made ++ (flying ++ rest) = on.are in
    record {
      count = length made;
      begun = length made;
      count_is = has_none.count_is;
      no_more = has_none.no_more;
      up_to = (let w = ap (λ (x : TransferState). x.work) same ∙ on.work in let f = ap (weight_in (target_of m0.probe)) (take_front (length made) entries made (flying ++ rest) is refl) in omega (arith, w, f));
      low = omega arith;
      high = omega arith;
      within = entries_within;
      together = one_flight limits entries made flying rest accesses on.are on.flight held;
      good = passes_but_last (target_of m0.probe) (length made) entries made (flying ++ rest) is on.passes (omega arith);
      idle_cycles = idle ∙ on.idle_cycles;
      target = inl (refl, has_none.target);
    }
  where
    has_none : HasPerformed entries (length made) (began m0 n) o
    has_none = has_at entries made (flying ++ rest) (length made) n m0 o on.are on.weighty refl (ap (λ (x : TransferState). x.work) same ∙ on.work) (ap (λ (x : TransferState). x.line.target) same ∙ on.target)

    entries_within : length made + length flying ≤ length entries
    entries_within = (let l = ap length on.are ∙ length-append made (flying ++ rest) in let k = length-append flying rest in omega (arith, l, k))
bench_flies limits entries made flying rest accesses n m0 m o part on (inr does) idle never held =
    record {
      count = length made + part.performed;
      begun = length made + part.performed;
      count_is = has.count_is;
      no_more = has.no_more;
      up_to = work_up_to entries made flying rest accesses n m0 m o part on does (length made + part.performed) (omega arith);
      low = omega arith;
      high = (let h = most entries made flying rest accesses n m0 m o part on does in omega (arith, h));
      within = entries_within;
      together = one_flight limits entries made flying rest accesses on.are on.flight held;
      good = begun_pass entries made flying rest accesses n m0 m o part on does;
      idle_cycles = idle ∙ on.idle_cycles;
      target = inl (refl, has.target);
    }
  where
    has : HasPerformed entries (length made + part.performed) (began m0 n) o
    has = has_part entries made flying rest accesses n m0 m o part on does

    entries_within : length made + length flying ≤ length entries
    entries_within = (let l = ap length on.are ∙ length-append made (flying ++ rest) in let k = length-append flying rest in omega (arith, l, k))
