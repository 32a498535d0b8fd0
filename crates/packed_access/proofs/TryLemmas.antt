-- A flight of a unit that forgives a fault: it came whole, or its last access faulted and the fault was cleared.
use Rattle.std.proofs.Common.{◌≡◌, ◌∙◌, ℕ, ◌+◌, ◌-◌, ◌^◌, ◌<◌, ◌≤◌, Bool, true, false, if◌then◌else◌, not, ◌&&◌, List, [], ◌∷◌, ◌++◌, length, map, take, Option, None, refl, sym, ap, subst, arith, append-nil, append_assoc, length-append}
use Rattle.std.proofs.Math.Seq.{take-append_seam, take-append-add}
use Rattle.std.proofs.lemmas.List.{length-map, map-append, take_all}
use Rattle.std.specs.Option.{unwrap_or}
use Rattle.std.proofs.lemmas.Bool.{both_ways}
use Rattle.target_machine.specs.Lists.{after}
use Rattle.target_machine.specs.Plain.{Action, Commands, Makes, action_attempt, forgives, given_number, is_fault}
use Rattle.target_machine.specs.State.{TargetState}
use Rattle.target_machine.specs.declared.access.RegAccess.{RegAccess}
use Rattle.target_machine.specs.declared.unit.Unit.{Unit as AccessUnit}
use Rattle.dap_messages.specs.declared.request.Response.{Response}
use Rattle.dap_messages.specs.declared.request.Response.TheVariants.{Fault, Good}
use Rattle.dap_transfer.specs.Laws.{one_at_a_time}
use Rattle.flight_forms.specs.Flights.{AreClear, Part}
use Rattle.probe_core.specs.Bench.{BenchState}
use Rattle.probe_core.specs.Probe.{target_of, work_of}
use Rattle.target_calls.specs.Journal.{Entry, actions_in, settles, target_after}
use Rattle.target_calls.specs.declared.journal.Part.{Part as EntryPart}
use Rattle.target_calls.specs.declared.journal.Part.TheVariants.{Ends, Leads, Skips}
use Rattle.access_regs.specs.Entries.{NoneFault}
use Rattle.access_regs.specs.Journal.{Step, is_early, issued_entries, is_last, making, numbered_entries}
use Rattle.access_regs.specs.Kept.{Kept}
use Rattle.access_regs.proofs.Seams.{after_split}
use Rattle.access_regs.proofs.Select.{making_append}
use Rattle.access_calls.specs.Issued.{AreKeptOf, kept_of}
use Rattle.batch_packer.specs.Flying.{CanFly}
use Rattle.batch_packer.specs.SlotList.{slot_at}
use Rattle.batch_packer.specs.Flying.{Flies}
use Rattle.flight_laws.specs.Forgiving.{abort_after, steps_of_unit}
use Rattle.flight_laws.specs.Sending.{IsSending}
use Rattle.flight_laws.proofs.CutLemmas.{Cutting, cut, faults, work_is}
use Rattle.flight_laws.proofs.FlightLemmas.{flight_length, makes_after}
use Rattle.flight_laws.proofs.SendLemmas.{forgiven_sends, whole_sends}
use Rattle.packed_access.specs.Begun.{IsIssuing}
use Rattle.bench_flights.specs.Flown.{HasCome, HasDoneWhole}
use Rattle.packed_access.specs.Forgiving.{AreNextAccesses, IsForgiven, IsTrying}
use Rattle.packed_access.specs.Logs.{LogState, all_confirmed}
use Rattle.packed_access.proofs.ActionLemmas.{at_rest, at_rest_count}
use Rattle.packed_access.proofs.SlotLemmas.{slot_gives}
use Rattle.packed_access.proofs.TryStepLemmas.{IsSplit, after_making, none_at, none_both, none_clear, none_last, none_with, split_steps, steps_both, unit_actions_in, unit_forgiving}
use Rattle.access_regs.specs.declared.planner.Planner.{Planner}
use Rattle.access_regs.proofs.Lists.{numbered_append}
use Rattle.flight_laws.specs.Actions.{AreForgiving}
use Rattle.flight_laws.specs.Forgiving.{after_fault}

-- ---- entries that are issued where nothing lies in the flight

-- those that come next, as what is kept of them
pub entries_more : (p : Planner) (log : LogState) (ys zs : List Entry) (m0 m : BenchState) → IsIssuing p log [] (ys ++ zs) m0 m → AreKeptOf (take (length (log.entries ++ map kept_of ys)) (issued_entries p (target_of m0.probe) log.calls)) (log.entries ++ map kept_of ys)
entries_more p log ys zs m0 m h =
    let s = at_rest p log (ys ++ zs) m0 m h in
    let at : length s.made ≡ length log.entries = s.confirmed_is ∙ at_rest_count p log (ys ++ zs) m0 m h in
    let front : take (length log.entries) (issued_entries p (target_of m0.probe) log.calls) ≡ s.made = (λ j. take (sym at j) (s.on.are j)) ∙ take-append_seam s.made (ys ++ zs) in
    let count : length (log.entries ++ map kept_of ys) ≡ length s.made + length ys = (let a = length-append log.entries (map kept_of ys) in let b : length (map kept_of ys) ≡ length ys = length-map ys kept_of in omega (arith, a, b, at)) in
    let all : take (length (log.entries ++ map kept_of ys)) (issued_entries p (target_of m0.probe) log.calls) ≡ s.made ++ ys =
    (λ j. take (count j) (s.on.are j)) ∙ take-append-add s.made (ys ++ zs) (length ys) ∙ ap (λ (l : List Entry). s.made ++ l) (take-append_seam ys zs) in
    (λ j. (h.entries_are ∙ ap (map kept_of) front) j ++ map kept_of ys) ∙ sym (map-append kept_of s.made ys) ∙ ap (map kept_of) (sym all)

-- they lie in the flight
pub flying_is : (p : Planner) (forgive : Bool) (log : LogState) (accesses : List RegAccess) (flying more : List Entry) (m0 m : BenchState) → IsIssuing p log [] (flying ++ more) m0 m → actions_in flying ≡ making accesses → length accesses ≤ 4 → length log.entries < 2 ^ 32 →
    IsSending p log.calls log.confirmed log.came flying more accesses (take log.known log.results) m0 m
flying_is p forgive log accesses flying more m0 m h flight few bounded =
    let s = at_rest p log (flying ++ more) m0 m h in
    record {
      fresh = s.fresh;
      askable = s.askable;
      made = s.made;
      on = record {
        are = s.on.are;
        weighty = s.on.weighty;
        flight = flight;
        passes = s.on.passes;
        target = s.on.target;
        clear = s.on.clear;
        work = s.on.work;
        room = (let f = h.few in let l = flight_length flying accesses flight in omega (arith, f, l, few, bounded));
        retries = s.on.retries;
        few = s.on.few;
        setting = s.on.setting;
        idle_cycles = s.on.idle_cycles;
        number = s.on.number;
      };
      confirmed_is = s.confirmed_is;
      length_is = s.length_is;
      results_are = s.results_are;
      lines = s.lines;
    }

-- all of them were made, where all calls that were issued whole have come
pub all_made : (p : Planner) (forgive : Bool) (log : LogState) (ys zs : List Entry) (m0 m o : BenchState) → IsIssuing p log [] (ys ++ zs) m0 m → IsSending p log.calls (log.confirmed + length ys) log.came [] zs [] (take log.known log.results) m0 o → log.came ≡ log.whole → CanFly o →
    work_of o.probe ≤ work_of m.probe + length ys → IsIssuing p (all_confirmed (record log { entries = log.entries ++ map kept_of ys })) [] zs m0 o
all_made p forgive log ys zs m0 m o h sent came flies work =
    subst (λ (l : LogState). IsIssuing p l [] zs m0 o) (λ j. record log { entries = log.entries ++ map kept_of ys; confirmed = length (log.entries ++ map kept_of ys); came = came j; known = (h.known_is ∙ came) j }) so
  where
    here : log.confirmed ≡ length log.entries
    here = at_rest_count p log (ys ++ zs) m0 m h

    count : length (log.entries ++ map kept_of ys) ≡ length log.entries + length ys
    count = (let a = length-append log.entries (map kept_of ys) in let b : length (map kept_of ys) ≡ length ys = length-map ys kept_of in omega (arith, a, b))

    so : IsIssuing p (record log { entries = log.entries ++ map kept_of ys; confirmed = length (log.entries ++ map kept_of ys) }) [] zs m0 o
    so = record {
      flying = [];
      sending = record {
        fresh = sent.fresh;
        askable = sent.askable;
        made = sent.made;
        on = sent.on;
        confirmed_is = (let c = sent.confirmed_is in let k = here in let n = count in omega (arith, c, k, n));
        length_is = sent.length_is;
        results_are = sent.results_are;
        lines = λ k low cut. sent.lines k (let c = here in let n = count in omega (arith, low, c, n)) cut;
      };
      known_is = h.known_is;
      count = omega arith;
      entries_are = entries_more p log ys zs m0 m h;
      strict = tt;
      in_order = h.in_order;
      within = h.within;
      came_made = (let c = h.came_made in let k = here in let n = count in omega (arith, c, k, n));
      whole_issued = (let c = h.whole_issued in let n = count in omega (arith, c, n));
      came_are = h.came_are;
      skipped_is = h.skipped_is;
      given = λ index low less. absurd (omega (arith, low, less, came));
      given_in = λ index low less. absurd (omega (arith, low, less, came));
      flies = flies;
      few = (let f = h.few in let n = count in omega (arith, f, n, work));
    }

-- ---- a flight of a unit

module _ (p : Planner) (forgive : Bool) (log : LogState) (asked : AccessUnit) (k : Kept) (t : TargetState) (made leads : List RegAccess) (last : RegAccess) (ends : Bool) (rest more : List Action) (m0 m : BenchState)
    (h : IsTrying p forgive log asked k t made rest m0 m) (n : AreNextAccesses asked t made leads last ends rest more) (few : length (leads ++ last ∷ []) ≤ 4) (bounded : length log.entries < 2 ^ 32) where
  abbrev pub xs : List RegAccess
  xs = leads ++ last ∷ []

  abbrev pub units : ℕ
  units = length log.calls - 1

  abbrev pub split : IsSplit forgive asked t made leads last h.left more
  split = split_steps forgive asked k t made leads last ends h.left rest more h.actions h.steps h.good n

  abbrev pub flying : List Entry
  flying = numbered_entries units forgive (steps_of_unit asked xs)

  abbrev pub later : List Entry
  later = numbered_entries units forgive split.tail

  pub issuing : IsIssuing p log [] (flying ++ later) m0 m
  issuing = subst (λ (l : List Entry). IsIssuing p log [] l m0 m) (ap (numbered_entries units forgive) split.is ∙ numbered_append units forgive (steps_of_unit asked xs) split.tail) h.issuing

  flight : actions_in flying ≡ making xs
  flight = unit_actions_in forgive units asked xs

  count : length flying ≡ length xs
  count = flight_length flying xs flight

  pub sending : IsSending p log.calls log.confirmed log.came flying later xs (take log.known log.results) m0 m
  sending = flying_is p forgive log xs flying later m0 m issuing flight few bounded

  pub none_there : NoneFault (target_of m.probe) leads
  none_there = subst (λ (u : TargetState). NoneFault u leads) (sym h.target) n.good

  joined : making (made ++ leads) ≡ making made ++ making leads
  joined = making_append made leads

  at_last : after (target_of m.probe) (making leads) ≡ after t (making (made ++ leads))
  at_last = ap (λ (u : TargetState). after u (making leads)) h.target ∙ sym (after_making t made leads)

  -- ---- it came

  module _ (values : List (Option ℕ)) (o : BenchState) (c : HasCome xs values m o) (came : log.came ≡ log.whole) where
    confirmed_all : c.part.confirmed ≡ length xs
    confirmed_all = c.flies.does.made.whole c.good

    performed_all : c.part.performed ≡ length xs
    performed_all = (let f = confirmed_all in let near = c.flies.does.made.near in let most = c.flies.does.made.most in omega (arith, f, near, most))

    none_all : NoneFault (target_of m.probe) xs
    none_all = none_clear (target_of m.probe) xs (subst (AreClear (target_of m.probe)) (take_all c.part.confirmed xs (let f = confirmed_all in omega (arith, f))) c.flies.does.made.clear)

    fine : is_fault (action_attempt (after t (making (made ++ leads))) (Makes last)).outcome ≡ false
    fine = ap (λ (u : TargetState). is_fault (action_attempt u (Makes last)).outcome) (sym at_last) ∙ none_last (target_of m.probe) leads last none_all

    sent : IsSending p log.calls (log.confirmed + length flying) log.came [] later [] (take log.known log.results) m0 o
    sent = whole_sends p log.calls log.confirmed log.came flying later xs (take log.known log.results) m0 m o c.part sending c.flies c.good

    grown : work_of o.probe ≡ work_of m.probe + c.part.performed
    grown = work_is (issued_entries p (target_of m0.probe) log.calls) sending.made flying later xs None m0 m o c.part sending.on c.flies.does

    target_now : target_of o.probe ≡ after t (making (made ++ xs))
    target_now =
        c.flies.does.made.target ∙ ap (one_at_a_time (target_of m.probe)) (take_all c.part.performed xs (let part_is = performed_all in omega (arith, part_is))) ∙ sym (makes_after (target_of m.probe) xs)
        ∙ ap (λ (u : TargetState). after u (making xs)) h.target ∙ sym (after_making t made xs)

    pub flight_came : IsTrying p forgive (all_confirmed (record log { entries = log.entries ++ map kept_of flying })) asked k t (made ++ xs) more m0 o
    flight_came = record {
      left = split.tail;
      issuing = all_made p forgive log flying later m0 m o issuing sent came c.next (let g = grown in let part_is = performed_all in let l = count in omega (arith, g, part_is, l));
      actions = h.actions ∙ ap (λ (l : List Action). making made ++ l) n.are ∙ sym (append_assoc (making made) (making xs) more) ∙ ap (λ (l : List Action). l ++ more) (sym (making_append made xs));
      steps = h.steps ∙ ap (λ (l : List Step). steps_of_unit asked made ++ l) split.is ∙ sym (append_assoc (steps_of_unit asked made) (steps_of_unit asked xs) split.tail) ∙ ap (λ (l : List Step). l ++ split.tail) (sym (steps_both asked made xs));
      good = none_both t made xs h.good (subst (λ (u : TargetState). NoneFault u xs) h.target none_all);
      target = target_now;
      end = λ none. split.good fine none;
    }

    -- what the last access gave
    front_entries : List Entry
    front_entries = numbered_entries units forgive (steps_of_unit asked leads)

    abbrev last_part_is : EntryPart
    last_part_is = if is_last asked last then Ends else Leads

    abbrev last_entry : Entry
    last_entry = record { unit = if settles last_part_is then units else units + 1; part = last_part_is; forgiving = forgive && not (settles last_part_is); action = Makes last }

    front_flying : flying ≡ numbered_entries units forgive (steps_of_unit asked leads) ++ last_entry ∷ []
    front_flying = ap (numbered_entries units forgive) (steps_both asked leads (last ∷ [])) ∙ numbered_append units forgive (steps_of_unit asked leads) (steps_of_unit asked (last ∷ []))

    seam : issued_entries p (target_of m0.probe) log.calls ≡ (sending.made ++ numbered_entries units forgive (steps_of_unit asked leads)) ++ last_entry ∷ later
    seam =
        sending.on.are ∙ ap (λ (l : List Entry). sending.made ++ (l ++ later)) front_flying
        ∙ ap (λ (l : List Entry). sending.made ++ l) (append_assoc (numbered_entries units forgive (steps_of_unit asked leads)) (last_entry ∷ []) later)
        ∙ sym (append_assoc sending.made (numbered_entries units forgive (steps_of_unit asked leads)) (last_entry ∷ later))

    front_count : length (numbered_entries units forgive (steps_of_unit asked leads)) ≡ length leads
    front_count = flight_length (numbered_entries units forgive (steps_of_unit asked leads)) leads (unit_actions_in forgive units asked leads)

    target_there : target_after (target_of m0.probe) (sending.made ++ numbered_entries units forgive (steps_of_unit asked leads)) ≡ after t (making (made ++ leads))
    target_there =
        after_split (target_of m0.probe) sending.made (numbered_entries units forgive (steps_of_unit asked leads))
        ∙ (λ j. after (sym sending.on.target j) (unit_actions_in forgive units asked leads j)) ∙ at_last

    pub value_came : unwrap_or (slot_at values (length leads)) 0 ≡ given_number (action_attempt (after t (making (made ++ leads))) (Makes last)).outcome
    value_came =
        slot_gives (issued_entries p (target_of m0.probe) log.calls) sending.made flying later xs m0 m o c.part values (sending.made ++ numbered_entries units forgive (steps_of_unit asked leads)) last_entry later (length leads)
        sending.on c.flies c.good c.values_are seam (length-append sending.made (numbered_entries units forgive (steps_of_unit asked leads)) ∙ ap (λ (k : ℕ). length sending.made + k) front_count)
        (let l = count in let a = length-append leads (last ∷ []) in omega (arith, l, a))
        ∙ ap (λ (u : TargetState). given_number (action_attempt u (Makes last)).outcome) target_there

  -- ---- its last access faulted

  module _ (o : BenchState) (part : Part) (flies : Flies xs part m o) where
    fault_grown : work_of o.probe ≡ work_of m.probe + part.performed
    fault_grown = work_is (issued_entries p (target_of m0.probe) log.calls) sending.made flying later xs None m0 m o part sending.on flies.does

    pub work_few : work_of o.probe ≤ work_of m.probe + length xs
    work_few = (let g = fault_grown in let most = flies.does.made.most in omega (arith, g, most))

    -- there is room for the write of ABORT
    pub abort_room : work_of o.probe + 1 < 2 ^ 64
    abort_room = (let w = work_few in let f = h.issuing.few in omega (arith, w, f, few, bounded))

  module _ (o : BenchState) (part : Part) (flies : Flies xs part m o) (answer : part.response ≡ Fault) (forgives_it : forgive ≡ true) where
    short : part.confirmed < length xs
    short = flies.does.made.short (λ good. absurd (let x : ◌≡◌ {A = Response} Good Fault = sym good ∙ answer in cc))

    -- none but the last faults, and one does
    bad : is_fault (action_attempt (after t (making (made ++ leads))) (Makes last)).outcome ≡ true
    bad = by_fault (is_fault (action_attempt (after t (making (made ++ leads))) (Makes last)).outcome) refl
      where
        by_fault : (b : Bool) → is_fault (action_attempt (after t (making (made ++ leads))) (Makes last)).outcome ≡ b → is_fault (action_attempt (after t (making (made ++ leads))) (Makes last)).outcome ≡ true
        by_fault true e = e
        by_fault false e =
            let journal : List Entry = issued_entries p (target_of m0.probe) log.calls in
            let x : Cutting part.confirmed flying = cut journal sending.made flying later xs None m0 m o part sending.on flies.does answer short in
            let all : NoneFault (target_of m.probe) xs = none_with (target_of m.probe) leads last none_there (ap (λ (u : TargetState). is_fault (action_attempt u (Makes last)).outcome) at_last ∙ e) in
            let good : is_fault (action_attempt (after (target_of m.probe) (actions_in x.front)) x.entry.action).outcome ≡ false = none_at (target_of m.probe) x.front x.entry x.back xs all (ap actions_in (sym x.is) ∙ flight) in
            let there : after (target_of m0.probe) (actions_in (sending.made ++ x.front)) ≡ after (target_of m.probe) (actions_in x.front) =
            after_split (target_of m0.probe) sending.made x.front ∙ ap (λ (u : TargetState). after u (actions_in x.front)) (sym sending.on.target) in
            let faulted : is_fault (action_attempt (after (target_of m0.probe) (actions_in (sending.made ++ x.front))) x.entry.action).outcome ≡ true = faults journal sending.made flying later xs None m0 m o part sending.on flies.does answer short in
            absurd (both_ways (is_fault (action_attempt (after (target_of m.probe) (actions_in x.front)) x.entry.action).outcome) good (ap (λ (u : TargetState). is_fault (action_attempt u x.entry.action).outcome) (sym there) ∙ faulted))

    abbrev pub abort : Entry
    abort = record { unit = units + 1; part = Skips (is_early asked (making (made ++ xs))); forgiving = true; action = Commands forgives }

    tail_is : split.tail ≡ abort_after asked (made ++ xs) ∷ []
    tail_is = split.bad bad ∙ ap (λ (b : Bool). after_fault b asked (made ++ xs)) forgives_it

    pub later_is : later ≡ abort ∷ []
    later_is = (λ j. numbered_entries units (forgives_it j) (tail_is j))

    pub forgiving_all : AreForgiving flying
    forgiving_all = subst (λ (b : Bool). AreForgiving (numbered_entries units b (steps_of_unit asked xs))) (sym forgives_it) (unit_forgiving units asked xs)

    pub flying_abort : IsSending p log.calls log.confirmed log.came flying (abort ∷ []) xs (take log.known log.results) m0 m
    flying_abort = subst (λ (l : List Entry). IsSending p log.calls log.confirmed log.came flying l xs (take log.known log.results) m0 m) later_is sending

    pub issuing_abort : IsIssuing p log [] ((flying ++ abort ∷ []) ++ []) m0 m
    issuing_abort = subst (λ (l : List Entry). IsIssuing p log [] l m0 m) (ap (λ (l : List Entry). flying ++ l) later_is ∙ sym (append-nil (flying ++ abort ∷ []))) issuing

    -- ABORT was written
    module _ (q : BenchState) (word : ℕ) (d : HasDoneWhole (Commands forgives) word o q) where
      done_work : work_of q.probe ≡ work_of o.probe + 1
      done_work = (d.does (abort_room o part flies)).work

      pub cleared : IsSending p log.calls (log.confirmed + length flying + 1) log.came [] [] [] (take log.known log.results) m0 q
      cleared = forgiven_sends p log.calls log.confirmed log.came flying abort [] leads last (take log.known log.results) m0 m o q part flying_abort flies answer none_there forgiving_all refl refl (d.does (abort_room o part flies)) (let r = abort_room o part flies in let w = done_work in omega (arith, r, w))

      both_count : log.confirmed + length flying + 1 ≡ log.confirmed + length (flying ++ abort ∷ [])
      both_count = (let l = length-append flying (abort ∷ []) in omega (arith, l))

      pub flight_forgiven : log.came ≡ log.whole → IsForgiven p forgive (all_confirmed (record log { entries = log.entries ++ map kept_of (flying ++ abort ∷ []) })) asked k t (made ++ leads) last m0 q
      flight_forgiven came = record {
        forgives = forgives_it;
        issuing = all_made p forgive log (flying ++ abort ∷ []) [] m0 m q issuing_abort (subst (λ (c : ℕ). IsSending p log.calls c log.came [] [] [] (take log.known log.results) m0 q) both_count cleared) came d.next
            (let w = work_few o part flies in let g = done_work in let l = count in let a = length-append flying (abort ∷ []) in omega (arith, w, g, l, a));
        steps = h.steps ∙ ap (λ (l : List Step). steps_of_unit asked made ++ l) (split.is ∙ ap (λ (l : List Step). steps_of_unit asked xs ++ l) tail_is)
            ∙ sym (append_assoc (steps_of_unit asked made) (steps_of_unit asked xs) (abort_after asked (made ++ xs) ∷ [])) ∙ ap (λ (l : List Step). l ++ abort_after asked (made ++ xs) ∷ []) (sym (steps_both asked made xs))
            ∙ ap (λ (l : List RegAccess). steps_of_unit asked l ++ abort_after asked l ∷ []) (sym (append_assoc made leads (last ∷ [])));
        good = none_both t made leads h.good n.good;
        bad = bad;
      }
