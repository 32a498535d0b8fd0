-- How a flight of a unit that forgives a fault ends the access.
use Rattle.std.proofs.Common.{◌≡◌, ◌⊎◌, inl, inr, ◌∙◌, ℕ, ◌+◌, ◌-◌, ◌^◌, ◌<◌, ◌≤◌, Bool, true, false, eqb, List, [], ◌∷◌, ◌++◌, length, slice_get, take, drop, IfSome, Option, None, Some, refl, sym, ap, subst, arith, append_assoc, length-append}
use Rattle.target_machine.specs.Plain.{Action, Commands, forgives}
use Rattle.target_machine.specs.State.{Agree, TargetState}
use Rattle.target_machine.specs.declared.access.RegAccess.{RegAccess}
use Rattle.target_machine.specs.declared.unit.Unit.{Unit as AccessUnit}
use Rattle.dap_messages.specs.declared.request.Response.TheVariants.{Fault}
use Rattle.flight_forms.specs.Flights.{Part}
use Rattle.probe_core.specs.Bench.{BenchState}
use Rattle.probe_core.specs.Bench.{Reported as BenchReported}
use Rattle.probe_core.specs.Probe.{target_of, work_of}
use Rattle.target_calls.specs.Journal.{Entry, Passes, target_after}
use Rattle.target_calls.specs.Weights.{entries_performed, weight_in}
use Rattle.target_calls.specs.World.{results}
use Rattle.access_regs.specs.Journal.{issued_entries}
use Rattle.access_regs.proofs.Seams.{passes_both}
use Rattle.access_regs.specs.Kept.{Kept}
use Rattle.access_calls.specs.Growing.{IsAfter}
use Rattle.access_calls.specs.Issued.{AreKeptOf}
use Rattle.access_calls.specs.Numbers.{HasNumbers}
use Rattle.access_calls.specs.Reported.{AccessView, began, world_from}
use Rattle.access_calls.specs.Standing.{AreTogether, HasPerformed, IsPartOfAction, flight_accesses, idle_cycles_of}
use Rattle.access_calls.specs.declared.issued.Issued.{Issued}
use Rattle.access_calls.specs.declared.stop.Report.{Report}
use Rattle.access_calls.specs.declared.stop.Stop.{Stop}
use Rattle.access_calls.specs.declared.stop.Stop.TheVariants as stop
use Rattle.access_calls.specs.declared.stop.StopCause.{StopCause}
use Rattle.access_calls.specs.declared.stop.StopCause.TheVariants.{Faulted, NoAnswer}
use Rattle.batch_packer.specs.declared.ends.Cut.{Cut}
use Rattle.batch_packer.specs.declared.ends.FlightEnd.{FlightEnd}
use Rattle.batch_packer.specs.declared.ends.FlightEnd.TheVariants as ends
use Rattle.flight_laws.specs.Ending.{EndsCut, IsCutOff, IsEnded, IsStrictAt, response_of_cause}
use Rattle.batch_packer.specs.Flying.{Flies}
use Rattle.flight_laws.specs.Sending.{IsSending}
use Rattle.flight_laws.proofs.CutLemmas.{front_length, front_target, has_at, has_part, passes_but_last, split as cut_split, take_front, work_up_to}
use Rattle.flight_laws.proofs.ActionLemmas.{all_performed, between, forgiving_passes}
use Rattle.flight_laws.proofs.EndLemmas.{bench_fault, calls_have_come, flight_ends, flight_fails, later_at}
use Rattle.flight_laws.proofs.FlightLemmas.{flight_length}
use Rattle.bench_flights.specs.Clearing.{ClearedOff, is_fault_end}
use Rattle.bench_flights.specs.Flown.{BrokeOff, DidLess, HasDoneWhole, IsCutResponse, MayHaveDonePart, WasCut}
use Rattle.packed_access.specs.Forgiving.{AreNextAccesses, IsTrying}
use Rattle.packed_access.specs.Logs.{IsCause, LogIsStopped, LogState, reported_by}
use Rattle.packed_access.proofs.EndLemmas.{IsBrokenOff, numbers_longer}
use Rattle.packed_access.proofs.TryLemmas.{abort, abort_room, cleared, flying, flying_abort, forgiving_all, none_there}
use Rattle.access_regs.specs.declared.planner.Planner.{Planner}
use Rattle.flight_laws.specs.Flights.{AreStrict}

-- ---- a retry ended, or the bench failed

two_left : (response : ℕ) → (response ≡ 0x02) ⊎ (response ≡ 0x04) → eqb response 0x04 ≡ false → response ≡ 0x02
two_left response (inl two) not = two
two_left response (inr four) not = absurd (let x : ◌≡◌ {A = Bool} true false = sym (ap (λ (n : ℕ). eqb n 0x04) four) ∙ not in cc)

-- at a fault the flight has only entries whose faults are not forgiven: else it would go on
strict_at : (response : ℕ) (cause : StopCause) (flying : List Entry) → IsCause response cause → (response ≡ 0x02) ⊎ (response ≡ 0x04) → (eqb response 0x04 ≡ false) ⊎ AreStrict flying → IsStrictAt cause flying
strict_at response NoAnswer flying is either free = tt
strict_at response Faulted flying is either (inr strict) = strict
strict_at response Faulted flying is either (inl not) = absurd (is (two_left response either not))

response_by : (cut : Cut) (accesses : List RegAccess) (m o : BenchState) (broke : WasCut cut accesses m o) (x : StopCause) → IsCause cut.response x → broke.part.response ≡ response_of_cause x
response_by cut accesses m o broke Faulted is = broke.fault is
response_by cut accesses m o broke NoAnswer is = broke.wait is

module _ (p : Planner) (forgive : Bool) (bench : BenchReported) (state : Option BenchState) (sent got : List ℕ) (log : LogState) (entries : List Issued) (accesses : List RegAccess) (flying more : List Entry) (m0 m o : BenchState)
    (s : IsSending p log.calls log.confirmed log.came flying more accesses (take log.known log.results) m0 m) (are : AreKeptOf (take (length entries) (issued_entries p (target_of m0.probe) log.calls)) entries) (count : log.confirmed + length flying ≡ length entries) where
  abbrev log1 : LogState
  log1 = record log { entries = entries }

  module _ (cut : Cut) (r : Report) (lines skipped : ℕ) (broke : WasCut cut accesses m o) (cause : IsCause cut.response r.cause) (strict : IsStrictAt r.cause flying) (accesses_are : r.accesses ≡ log.confirmed + cut.performed) (confirmed_are : r.confirmed ≡ log.confirmed + cut.confirmed)
      (numbers : (all : List Entry) → AreKeptOf all entries → HasNumbers all log.calls skipped lines r) where
    abbrev b : AccessView
    b = reported_by bench state (record log1 { end = Some (stop.Cut r); came = lines; lines = lines; skipped = skipped }) sent got

    few : r.accesses ≤ length entries
    few = (let part_is = broke.performed in let most = broke.flies.does.made.most in let l = flight_length flying accesses s.on.flight in omega (arith, accesses_are, part_is, most, l, count))

    cut_off : IsCutOff p r b m0
    cut_off = record {
      end = refl;
      numbers = numbers_longer (issued_entries p (target_of m0.probe) log.calls) (length entries) log.calls skipped lines r (numbers (take (length entries) (issued_entries p (target_of m0.probe) log.calls)) are) few;
      came = refl;
    }

    pub wait_ends : EndsCut p r b log.came (take log.known log.results) m0 o
    wait_ends = flight_ends p log.confirmed log.came flying more accesses (take log.known log.results) m0 m o broke.part r b s broke.flies (response_by cut accesses m o broke r.cause cause) strict
        (let part_is = broke.performed in omega (arith, accesses_are, part_is)) (let part_is = broke.confirmed in omega (arith, confirmed_are, part_is)) cut_off

  pub bench_ends : length accesses ≤ flight_accesses bench.limits → MayHaveDonePart accesses m o → IsEnded p (stop.BenchFault (length entries) log.confirmed) (reported_by bench state (record log1 { end = Some (stop.BenchFault (length entries) log.confirmed) }) sent got) (take log.known log.results) m0 o
  bench_ends held broke =
      subst (λ (n : ℕ). IsEnded p (stop.BenchFault n log.confirmed) (reported_by bench state (record log1 { end = Some (stop.BenchFault n log.confirmed) }) sent got) (take log.known log.results) m0 o) count
      (flight_fails p log.confirmed log.came flying more accesses (take log.known log.results) m0 m o broke.part
      (reported_by bench state (record log1 { end = Some (stop.BenchFault (log.confirmed + length flying) log.confirmed) }) sent got)
      s broke.either broke.idle_cycles broke.never held (record { end = refl; came = refl }))

  pub not_forgiven : length accesses ≤ flight_accesses bench.limits → (end : FlightEnd) (z : Stop) (new : LogState) → BrokeOff end accesses m o → (is_fault_end end ≡ false) ⊎ AreStrict flying → IsCutResponse end → LogIsStopped end log1 new z → IsBrokenOff p z (reported_by bench state new sent got) new log.calls m0 o
  not_forgiven held (ends.Cut cut) (stop.Cut r) new broke not either is =
      let e = wait_ends cut r new.lines new.skipped broke is.cause (strict_at cut.response r.cause flying is.cause either not) is.accesses is.confirmed_is is.numbers in
      subst (λ (x : LogState). IsBrokenOff p (stop.Cut r) (reported_by bench state x sent got) x log.calls m0 o) (sym is.next)
      (record { ended = e.ended; stops = λ n left. record { so = e.stops n left } })
  not_forgiven held (ends.Cut cut) (stop.BenchFault issued confirmed) new broke not either is = absurd is
  not_forgiven held (ends.Cut cut) stop.ReplyBad new broke not either is = absurd is
  not_forgiven held (ends.Cut cut) stop.OutOfMemory new broke not either is = absurd is
  not_forgiven held ends.BenchFault z new broke not either is =
      let here : IsBrokenOff p (stop.BenchFault (length entries) log.confirmed) (reported_by bench state (record log1 { end = Some (stop.BenchFault (length entries) log.confirmed) }) sent got) (record log1 { end = Some (stop.BenchFault (length entries) log.confirmed) }) log.calls m0 o =
      record { ended = bench_ends held broke; stops = λ n left. record { so = tt } } in
      let at_z : IsBrokenOff p z (reported_by bench state (record log1 { end = Some z }) sent got) (record log1 { end = Some z }) log.calls m0 o =
      subst (λ (x : Stop). IsBrokenOff p x (reported_by bench state (record log1 { end = Some x }) sent got) (record log1 { end = Some x }) log.calls m0 o) (sym is.0) here in
      subst (λ (x : LogState). IsBrokenOff p z (reported_by bench state x sent got) x log.calls m0 o) (sym is.1) at_z
  not_forgiven held ends.ReplyBad z new broke not either is = absurd broke

-- ---- the bench failed in the write of ABORT

module _ (p : Planner) (forgive : Bool) (bench : BenchReported) (state : Option BenchState) (sent got : List ℕ) (log : LogState) (asked : AccessUnit) (k : Kept) (t : TargetState) (made leads : List RegAccess) (last : RegAccess) (for_end : Bool) (rest more : List Action) (m0 m : BenchState)
    (h : IsTrying p forgive log asked k t made rest m0 m) (n : AreNextAccesses asked t made leads last for_end rest more) (few : length (leads ++ last ∷ []) ≤ 4) (bounded : length log.entries < 2 ^ 32)
    (o : BenchState) (part : Part) (flies : Flies (leads ++ last ∷ []) part m o) (answer : part.response ≡ Fault) (forgives_it : forgive ≡ true) (q : BenchState) where
  abbrev fly : List Entry
  fly = flying p forgive log asked k t made leads last for_end rest more m0 m h n few bounded

  abbrev ab : Entry
  ab = abort p forgive log asked k t made leads last for_end rest more m0 m h n few bounded o part flies answer forgives_it

  abbrev s : IsSending p log.calls log.confirmed log.came fly (ab ∷ []) (leads ++ last ∷ []) (take log.known log.results) m0 m
  s = flying_abort p forgive log asked k t made leads last for_end rest more m0 m h n few bounded o part flies answer forgives_it

  abbrev journal : List Entry
  journal = issued_entries p (target_of m0.probe) log.calls

  long : length journal ≡ log.confirmed + length fly + 1
  long = (let a = ap length s.on.are in let b = length-append s.made (fly ++ ab ∷ []) in let c = length-append fly (ab ∷ []) in let d = s.confirmed_is in omega (arith, a, b, c, d))

  same_length : length fly ≡ length (leads ++ last ∷ [])
  same_length = flight_length fly (leads ++ last ∷ []) s.on.flight

  -- none of the entries before ABORT gives a fault that is not forgiven
  all_good : (count : ℕ) → count ≤ log.confirmed + length fly + 1 → Passes (target_of m0.probe) (take (count - 1) journal)
  all_good count high =
      let forgiven : Passes (target_after (target_of m0.probe) s.made) fly = forgiving_passes (target_after (target_of m0.probe) s.made) fly
      (forgiving_all p forgive log asked k t made leads last for_end rest more m0 m h n few bounded o part flies answer forgives_it) in
      let are : journal ≡ (s.made ++ fly) ++ (ab ∷ []) = s.on.are ∙ sym (append_assoc s.made fly (ab ∷ [])) in
      passes_but_last (target_of m0.probe) count journal (s.made ++ fly) (ab ∷ []) are (passes_both (target_of m0.probe) s.made fly s.on.passes forgiven)
      (let l = length-append s.made fly in let c = s.confirmed_is in omega (arith, l, c, high))

  -- ABORT alone was handed over after those that are confirmed
  alone : (many sure : ℕ) → many ≡ log.confirmed + length fly + 1 → sure ≡ log.confirmed + length fly → AreTogether bench.limits (drop sure (take many journal))
  alone many sure many_is sure_is =
      let made_are : length (s.made ++ fly) ≡ sure = (let l = length-append s.made fly in let c = s.confirmed_is in omega (arith, l, c, sure_is)) in
      let all : length (s.made ++ fly) + 1 ≡ many = omega (arith, made_are, many_is, sure_is) in
      inr ((λ j. length (drop (sym made_are j) (take (sym all j) journal))) ∙ ap length (between journal (s.made ++ fly) (ab ∷ []) [] (s.on.are ∙ sym (append_assoc s.made fly (ab ∷ [])))))

  -- ABORT is of a call that has not come
  later_still : (sure : ℕ) → sure ≡ log.confirmed + length fly → IfSome (slice_get journal sure) (IsAfter log.came)
  later_still sure sure_is =
      let forgiven : Passes (target_after (target_of m0.probe) s.made) fly = forgiving_passes (target_after (target_of m0.probe) s.made) fly
      (forgiving_all p forgive log asked k t made leads last for_end rest more m0 m h n few bounded o part flies answer forgives_it) in
      later_at journal (s.made ++ fly) (ab ∷ []) (target_of m0.probe) sure log.came (s.on.are ∙ sym (append_assoc s.made fly (ab ∷ [])))
      (let l = length-append s.made fly in let c = s.confirmed_is in omega (arith, l, c, sure_is))
      (passes_both (target_of m0.probe) s.made fly s.on.passes forgiven) (λ k low cut. s.lines k (omega (arith, low, sure_is)) cut)

  asked_came : log.came ≤ length log.calls
  asked_came = calls_have_come p log.calls log.confirmed log.came fly (ab ∷ []) (leads ++ last ∷ []) (take log.known log.results) m0 m s

  -- so far it was performed
  performed_ends : (many sure : ℕ) → many ≡ log.confirmed + length fly + 1 → sure ≡ log.confirmed + length fly → (count : ℕ) → log.confirmed + length fly ≤ count → count ≤ log.confirmed + length fly + 1 → ((w : Option ℕ) → HasPerformed journal count (began m0 w) q) →
      work_of q.probe - work_of m0.probe ≤ weight_in (target_of m0.probe) (take count journal) → idle_cycles_of q ≡ idle_cycles_of m0 → (entries : List Issued) →
      IsEnded p (stop.BenchFault many sure) (reported_by bench state (record log { entries = entries; confirmed = sure; end = Some (stop.BenchFault many sure) }) sent got) (take log.known log.results) m0 q
  performed_ends many sure is sure_is count low high part_is up_to idle entries = record {
    stands = λ w left. bench_fault p bench.limits log.calls log.came many sure w m0 q s.fresh s.askable asked_came (later_still sure sure_is) (record {
      count = count;
      begun = count;
      count_is = (part_is w).count_is;
      no_more = (part_is w).no_more;
      up_to = up_to;
      low = omega (arith, low, sure_is);
      high = (omega (arith, high, is));
      within = (let l = long in omega (arith, l, is));
      together = alone many sure is sure_is;
      good = all_good count high;
      idle_cycles = idle;
      target = inl (refl, (part_is w).target);
    });
    results_are = λ w left. ap (λ (k : ℕ). take k (results (world_from m0 w) log.calls)) s.length_is ∙ s.results_are w left.so;
  }

  -- all entries before ABORT were performed
  all_there : part.performed ≡ length fly
  all_there = all_performed journal s.made fly (ab ∷ []) leads last m0 m o part s.on flies answer (none_there p forgive log asked k t made leads last for_end rest more m0 m h n few bounded)

  whole_done : (word : ℕ) → HasDoneWhole (Commands forgives) word o q → (w : Option ℕ) → HasPerformed journal (log.confirmed + length fly + 1) (began m0 w) q
  whole_done word d w =
      let c = cleared p forgive log asked k t made leads last for_end rest more m0 m h n few bounded o part flies answer forgives_it q word d in
      has_at journal c.made [] (log.confirmed + length fly + 1) w m0 q c.on.are c.on.weighty c.confirmed_is c.on.work c.on.target

  whole_work : (word : ℕ) → HasDoneWhole (Commands forgives) word o q → work_of q.probe - work_of m0.probe ≤ weight_in (target_of m0.probe) (take (log.confirmed + length fly + 1) journal)
  whole_work word d =
      let c = cleared p forgive log asked k t made leads last for_end rest more m0 m h n few bounded o part flies answer forgives_it q word d in
      (let w = c.on.work in let f = ap (weight_in (target_of m0.probe)) (take_front (log.confirmed + length fly + 1) journal c.made [] c.on.are c.confirmed_is) in omega (arith, w, f))

  whole_idle : (word : ℕ) → HasDoneWhole (Commands forgives) word o q → idle_cycles_of q ≡ idle_cycles_of m0
  whole_idle word d = (cleared p forgive log asked k t made leads last for_end rest more m0 m h n few bounded o part flies answer forgives_it q word d).on.idle_cycles

  none_work : DidLess (Commands forgives) o q → work_of q.probe ≡ work_of o.probe
  none_work d = (let a = d.work_is (abort_room p forgive log asked k t made leads last for_end rest more m0 m h n few bounded o part flies) in let b : d.work < 1 = d.less in omega (arith, a, b))

  none_up_to : DidLess (Commands forgives) o q → work_of q.probe - work_of m0.probe ≤ weight_in (target_of m0.probe) (take (length s.made + part.performed) journal)
  none_up_to d =
      let u = work_up_to journal s.made fly (ab ∷ []) (leads ++ last ∷ []) None m0 m o part s.on flies.does (length s.made + part.performed) (omega arith) in
      let w = none_work d in omega (arith, u, w)

  none_done : DidLess (Commands forgives) o q → (w : Option ℕ) → HasPerformed journal (length s.made + part.performed) (began m0 w) q
  none_done d w =
      let part_is = has_part journal s.made fly (ab ∷ []) (leads ++ last ∷ []) w m0 m o part s.on flies.does in
      let work : work_of q.probe ≡ work_of o.probe = none_work d in
      record {
        count_is = part_is.count_is ∙ ap (λ (x : ℕ). entries_performed (target_of m0.probe) journal (x - work_of m0.probe)) (sym work);
        no_more = (let n = part_is.no_more in omega (arith, n, work));
        within = part_is.within;
        target = agrees d.work d.target;
      }
    where
      front : List Entry
      front = s.made ++ take part.performed fly

      front_is : take (length s.made + part.performed) journal ≡ s.made ++ take part.performed fly
      front_is = take_front (length s.made + part.performed) journal (s.made ++ take part.performed fly) (drop part.performed fly ++ ab ∷ [])
          (cut_split journal s.made fly (ab ∷ []) (leads ++ last ∷ []) w m0 m o part s.on) (front_length journal s.made fly (ab ∷ []) (leads ++ last ∷ []) w m0 m o part s.on flies.does)

      there : target_of o.probe ≡ target_after (target_of m0.probe) (take (length s.made + part.performed) journal)
      there = front_target journal s.made fly (ab ∷ []) (leads ++ last ∷ []) w m0 m o part s.on flies.does ∙ ap (target_after (target_of m0.probe)) (sym front_is)

      agrees : (work : ℕ) → ((work ≡ 0) × Agree (target_of q.probe) (target_of o.probe)) ⊎ IsPartOfAction (Commands forgives) (target_of o.probe) (target_of q.probe) → Agree (target_of q.probe) (target_after (target_of m0.probe) (take (length s.made + part.performed) journal))
      agrees work (inl (none, same)) = subst (Agree (target_of q.probe)) there same
      agrees work (inr part) = absurd part

  pub not_cleared : (entries : List Issued) → length entries ≡ log.confirmed + length fly + 1 → (sure : ℕ) → sure ≡ log.confirmed + length fly → (end : FlightEnd) (z : Stop) (new : LogState) → ClearedOff end o q → LogIsStopped end (record log { entries = entries; confirmed = sure }) new z → IsBrokenOff p z (reported_by bench state new sent got) new log.calls m0 q
  not_cleared entries count sure sure_is (ends.Cut cut) z new left is = absurd left
  not_cleared entries count sure sure_is ends.ReplyBad z new left is = absurd left
  not_cleared entries count sure sure_is ends.BenchFault z new left is =
      let low : log.confirmed + length fly ≤ length s.made + part.performed = (let c = s.confirmed_is in let all = all_there in omega (arith, c, all)) in
      let high : length s.made + part.performed ≤ log.confirmed + length fly + 1 = (let c = s.confirmed_is in let most = flies.does.made.most in let l = same_length in omega (arith, c, most, l)) in
      let here : IsEnded p (stop.BenchFault (length entries) sure) (reported_by bench state (record log { entries = entries; confirmed = sure; end = Some (stop.BenchFault (length entries) sure) }) sent got) (take log.known log.results) m0 q =
      by_left left low high in
      let at_s : IsBrokenOff p (stop.BenchFault (length entries) sure) (reported_by bench state (record log { entries = entries; confirmed = sure; end = Some (stop.BenchFault (length entries) sure) }) sent got) (record log { entries = entries; confirmed = sure; end = Some (stop.BenchFault (length entries) sure) }) log.calls m0 q =
      record { ended = here; stops = λ n left. record { so = tt } } in
      let at_z : IsBrokenOff p z (reported_by bench state (record log { entries = entries; confirmed = sure; end = Some z }) sent got) (record log { entries = entries; confirmed = sure; end = Some z }) log.calls m0 q =
      subst (λ (x : Stop). IsBrokenOff p x (reported_by bench state (record log { entries = entries; confirmed = sure; end = Some x }) sent got) (record log { entries = entries; confirmed = sure; end = Some x }) log.calls m0 q) (sym is.0) at_s in
      subst (λ (x : LogState). IsBrokenOff p z (reported_by bench state x sent got) x log.calls m0 q) (sym is.1) at_z
    where
      by_left : HasDoneWhole (Commands forgives) 0 o q ⊎ DidLess (Commands forgives) o q → log.confirmed + length fly ≤ length s.made + part.performed → length s.made + part.performed ≤ log.confirmed + length fly + 1 →
          IsEnded p (stop.BenchFault (length entries) sure) (reported_by bench state (record log { entries = entries; confirmed = sure; end = Some (stop.BenchFault (length entries) sure) }) sent got) (take log.known log.results) m0 q
      by_left (inl d) low high = performed_ends (length entries) sure count sure_is (log.confirmed + length fly + 1) (omega arith) (omega arith) (whole_done 0 d) (whole_work 0 d) (whole_idle 0 d) entries
      by_left (inr d) low high = performed_ends (length entries) sure count sure_is (length s.made + part.performed) low high (none_done d) (none_up_to d) (d.idle_cycles ∙ flies.idle_cycles ∙ s.on.idle_cycles) entries
