-- A flight of a unit that forgives a fault, where the bench is observable.
use Rattle.std.proofs.Common.{◌≡◌, ◌∙◌, ℕ, ◌+◌, ◌-◌, ◌^◌, ◌<◌, ◌≤◌, Bool, true, false, eqb, not, List, [], ◌∷◌, ◌++◌, length, map, Option, Some, None, sym, ap, subst, arith, append_assoc, length-append}
use Rattle.std.proofs.lemmas.List.{length-map, map-append}
use Rattle.std.specs.Option.{unwrap_or}
use Rattle.target_machine.specs.Lists.{after}
use Rattle.target_machine.specs.Plain.{Action, Commands, Makes, action_attempt, forgives, given_number}
use Rattle.target_machine.specs.State.{TargetState}
use Rattle.target_machine.specs.declared.access.RegAccess.{RegAccess}
use Rattle.target_machine.specs.declared.unit.Unit.{Unit as AccessUnit}
use Rattle.probe_core.specs.Bench.{BenchState, StepsTo}
use Rattle.probe_core.specs.Bench.{Reported as BenchReported}
use Rattle.probe_core.specs.Probe.{work_of}
use Rattle.target_calls.specs.Journal.{Entry}
use Rattle.target_calls.specs.declared.journal.Part.{Part}
use Rattle.target_calls.specs.declared.journal.Part.TheVariants.{Leads, Skips}
use Rattle.access_regs.specs.Journal.{is_early, making, numbered_entries, steps_of}
use Rattle.access_regs.specs.Kept.{Kept}
use Rattle.access_calls.specs.Issued.{kept_of}
use Rattle.access_calls.specs.Standing.{WhereObservable, flight_accesses}
use Rattle.access_calls.specs.declared.issued.Issued.{Issued}
use Rattle.access_calls.specs.declared.stop.Stop.{Stop}
use Rattle.batch_packer.specs.Flying.{CanFly}
use Rattle.batch_packer.specs.SlotList.{slot_at}
use Rattle.batch_packer.specs.declared.ends.FlightEnd.{FlightEnd}
use Rattle.batch_packer.specs.declared.ends.FlightEnd.TheVariants as ends
use Rattle.flight_laws.specs.Forgiving.{steps_of_unit}
use Rattle.bench_flights.specs.Clearing.{CanClear, ClearedOff, IsOneTransfer, is_fault_end}
use Rattle.bench_flights.specs.Flown.{BrokeOff, HasCome, HasDoneWhole, IsCutResponse, WasCut}
use Rattle.packed_access.specs.Forgiving.{AreNextAccesses, HasForgiven, IsForgiven, IsTrying, LogHasTried, LogIsBroken, last_part, with_accesses}
use Rattle.packed_access.specs.Logs.{LogIsStopped, LogState, all_confirmed, entries_confirmed, log_with_entry, reported_by}
use Rattle.packed_access.proofs.ActionLemmas.{at_rest_count}
use Rattle.packed_access.proofs.EndLemmas.{IsBrokenOff, ended_in, stops_in}
use Rattle.packed_access.proofs.TryEndLemmas.{not_cleared, not_forgiven}
use Rattle.packed_access.proofs.TryLemmas.{abort_room, entries_more, flight_came, flight_forgiven, issuing, sending, value_came}
use Rattle.packed_access.proofs.TryStepLemmas.{flight_kept}
use Rattle.access_regs.specs.declared.planner.Planner.{Planner}
use Rattle.std.proofs.Common.{◌⊎◌, inl, inr, refl}
use Rattle.packed_access.proofs.TryStepLemmas.{unit_strict}
use Rattle.flight_laws.specs.Flights.{AreStrict}

-- ---- what is kept of the calls

-- the entries of a flight
abbrev pub flight_entries : Bool → LogState → AccessUnit → List RegAccess → List Entry
flight_entries forgive log asked accesses = numbered_entries (length log.calls - 1) forgive (steps_of_unit asked accesses)

-- the write of ABORT after these accesses
abbrev pub abort_entry : LogState → AccessUnit → List RegAccess → Entry
abort_entry log asked accesses = record { unit = (length log.calls - 1) + 1; part = Skips (is_early asked (making accesses)); forgiving = true; action = Commands forgives }

-- these entries were issued
abbrev pub with_flight : LogState → List Entry → LogState
with_flight log entries = record log { entries = log.entries ++ map kept_of entries }

-- and ABORT after them, when they were confirmed
abbrev pub with_abort : LogState → List Entry → Entry → LogState
with_abort log entries abort = record log { entries = log.entries ++ map kept_of (entries ++ abort ∷ []); confirmed = length (log.entries ++ map kept_of entries) }

pub flight_log : (forgive : Bool) (old mid new : LogState) (asked : AccessUnit) (leads : List RegAccess) (last : RegAccess) (b : Bool) (unit : ℕ) (part : Part) → mid ≡ with_accesses old unit Leads leads → new ≡ log_with_entry mid (record { unit = unit; part = part }) → unit ≡ length old.calls → 0 < length old.calls →
    part ≡ last_part b → steps_of_unit asked (leads ++ last ∷ []) ≡ steps_of Leads leads ++ record { part = last_part b; action = Makes last } ∷ [] → new ≡ with_flight old (flight_entries forgive old asked (leads ++ last ∷ []))
flight_log forgive old mid new asked leads last b unit part mid_is new_is at some part_is parts =
    let n : unit ≡ (length old.calls - 1) + 1 = omega (arith, at, some) in
    new_is ∙ ap (λ (l : LogState). log_with_entry l (record { unit = unit; part = part })) mid_is
    ∙ (λ j. record old { entries = (old.entries ++ map (λ (a : RegAccess). record { unit = n j; part = Leads }) leads) ++ record { unit = n j; part = part_is j } ∷ [] })
    ∙ ap (λ (l : List Issued). record old { entries = l })
    (append_assoc old.entries (map (λ (a : RegAccess). record { unit = (length old.calls - 1) + 1; part = Leads }) leads) (record { unit = (length old.calls - 1) + 1; part = last_part b } ∷ [])
    ∙ ap (λ (l : List Issued). old.entries ++ l) (sym (flight_kept forgive (length old.calls - 1) asked leads last b parts)))

pub abort_log : (forgive : Bool) (old mid sure new : LogState) (asked : AccessUnit) (made accesses : List RegAccess) (b : Bool) (unit : ℕ) → mid ≡ with_flight old (flight_entries forgive old asked accesses) → sure ≡ entries_confirmed mid → new ≡ log_with_entry sure (record { unit = unit; part = Skips (not b) }) → unit ≡ length old.calls → 0 < length old.calls →
    is_early asked (making (made ++ accesses)) ≡ not b → new ≡ with_abort old (flight_entries forgive old asked accesses) (abort_entry old asked (made ++ accesses))
abort_log forgive old mid sure new asked made accesses b unit mid_is sure_is new_is at some early =
    let n : unit ≡ (length old.calls - 1) + 1 = omega (arith, at, some) in
    new_is ∙ ap (λ (l : LogState). log_with_entry l (record { unit = unit; part = Skips (not b) })) (sure_is ∙ ap entries_confirmed mid_is)
    ∙ (λ j. record old { entries = (old.entries ++ map kept_of (flight_entries forgive old asked accesses)) ++ record { unit = n j; part = Skips (sym early j) } ∷ []; confirmed = length (old.entries ++ map kept_of (flight_entries forgive old asked accesses)) })
    ∙ ap (λ (l : List Issued). record old { entries = l; confirmed = length (old.entries ++ map kept_of (flight_entries forgive old asked accesses)) })
    (append_assoc old.entries (map kept_of (flight_entries forgive old asked accesses)) (kept_of (abort_entry old asked (made ++ accesses)) ∷ [])
    ∙ ap (λ (l : List Issued). old.entries ++ l) (sym (map-append kept_of (flight_entries forgive old asked accesses) (abort_entry old asked (made ++ accesses) ∷ []))))

free_or : (A B C : Type 0) → A ⊎ B → (A → C) → B ⊎ C
free_or A B C (inl a) f = inr (f a)
free_or A B C (inr b) f = inl b

-- ---- it came

module _ (p : Planner) (forgive : Bool) (log : LogState) (asked : AccessUnit) (k : Kept) (t : TargetState) (made leads : List RegAccess) (last : RegAccess) (b : Bool) (rest more : List Action) (m0 : BenchState) (n : AreNextAccesses asked t made leads last b rest more)
    (few : length (leads ++ last ∷ []) ≤ 4) (bounded : length log.entries < 2 ^ 32) where
  abbrev xs : List RegAccess
  xs = leads ++ last ∷ []

  came_where : (x y : Option BenchState) (values : List (Option ℕ)) → WhereObservable x (λ m. IsTrying p forgive log asked k t made rest m0 m) → StepsTo (λ m o. CanFly m → HasCome xs values m o) x y → log.came ≡ log.whole →
      WhereObservable y (λ o. IsTrying p forgive (all_confirmed (with_flight log (flight_entries forgive log asked xs))) asked k t (made ++ xs) more m0 o) × (unwrap_or (slot_at values (length leads)) 0 ≡ given_number (action_attempt (after t (making (made ++ leads))) (Makes last)).outcome)
  came_where None y values h c came = absurd h
  came_where (Some m) None values h c came = absurd c
  came_where (Some m) (Some o) values h c came =
      (flight_came p forgive log asked k t made leads last b rest more m0 m h n few bounded values o (c h.issuing.flies) came, value_came p forgive log asked k t made leads last b rest more m0 m h n few bounded values o (c h.issuing.flies) came)

  not_two : (response : ℕ) → eqb response 0x04 ≡ true → response ≡ 0x02 → ⊥
  not_two response four two = (let x : ◌≡◌ {A = Bool} false true = ap (λ (n : ℕ). eqb n 0x04) (sym two) ∙ four in cc)

  -- it faulted
  forgiven_where : (x y z : Option BenchState) (end : FlightEnd) (word : ℕ) → forgive ≡ true → WhereObservable x (λ m. IsTrying p forgive log asked k t made rest m0 m) → StepsTo (λ m o. CanFly m → BrokeOff end xs m o) x y → is_fault_end end ≡ true → StepsTo (λ m o. CanFly m → CanClear o) x y →
      StepsTo (λ m o. CanClear m → work_of m.probe + 1 < 2 ^ 64 → HasDoneWhole (Commands forgives) word m o) y z → log.came ≡ log.whole →
      WhereObservable z (λ q. IsForgiven p forgive (all_confirmed (with_flight log (flight_entries forgive log asked xs ++ abort_entry log asked (made ++ xs) ∷ []))) asked k t (made ++ leads) last m0 q)
  forgiven_where None y z end word it h broke fault clear d came = absurd h
  forgiven_where (Some m) None z end word it h broke fault clear d came = absurd broke
  forgiven_where (Some m) (Some o) None end word it h broke fault clear d came = absurd d
  forgiven_where (Some m) (Some o) (Some q) (ends.Cut cut) word it h broke fault clear d came =
      let w : WasCut cut xs m o = broke h.issuing.flies in
      flight_forgiven p forgive log asked k t made leads last b rest more m0 m h n few bounded o w.part w.flies (w.fault (not_two cut.response fault)) it q word (d (clear h.issuing.flies) (abort_room p forgive log asked k t made leads last b rest more m0 m h n few bounded o w.part w.flies)) came
  forgiven_where (Some m) (Some o) (Some q) ends.BenchFault word it h broke fault clear d came = absurd (cc)
  forgiven_where (Some m) (Some o) (Some q) ends.ReplyBad word it h broke fault clear d came = absurd (cc)

  -- ---- it ended the access

  broken_where : (x y : Option BenchState) (bench : BenchReported) (sent got : List ℕ) (end : FlightEnd) (z : Stop) (new : LogState) → length xs ≤ flight_accesses bench.limits → WhereObservable x (λ m. IsTrying p forgive log asked k t made rest m0 m) → StepsTo (λ m o. CanFly m → BrokeOff end xs m o) x y → (forgive ≡ false) ⊎ (is_fault_end end ≡ false) → IsCutResponse end →
      LogIsStopped end (with_flight log (flight_entries forgive log asked xs)) new z → WhereObservable y (λ o. IsBrokenOff p z (reported_by bench y new sent got) new log.calls m0 o)
  broken_where None y bench sent got end z new held h broke fault either is = absurd h
  broken_where (Some m) None bench sent got end z new held h broke fault either is = absurd broke
  broken_where (Some m) (Some o) bench sent got end z new held h broke fault either is =
      let i = issuing p forgive log asked k t made leads last b rest more m0 m h n few bounded in
      let count : log.confirmed + length (flight_entries forgive log asked xs) ≡ length (log.entries ++ map kept_of (flight_entries forgive log asked xs)) =
      (let a = length-append log.entries (map kept_of (flight_entries forgive log asked xs)) in let b : length (map kept_of (flight_entries forgive log asked xs)) ≡ length (flight_entries forgive log asked xs) = length-map (flight_entries forgive log asked xs) kept_of in let r = at_rest_count p log _ m0 m i in omega (arith, a, b, r)) in
      not_forgiven p forgive bench (Some o) sent got log (log.entries ++ map kept_of (flight_entries forgive log asked xs)) xs (flight_entries forgive log asked xs) _ m0 m o (sending p forgive log asked k t made leads last b rest more m0 m h n few bounded)
      (entries_more p log (flight_entries forgive log asked xs) _ m0 m i) count held end z new (broke h.issuing.flies) (free_or (forgive ≡ false) (is_fault_end end ≡ false) _ fault (λ none. subst (λ (c : Bool). AreStrict (numbered_entries (length log.calls - 1) c (steps_of_unit asked xs))) (sym none) (unit_strict (length log.calls - 1) asked xs))) either is

  uncleared_where : (x y u : Option BenchState) (bench : BenchReported) (sent got : List ℕ) (end end' : FlightEnd) (z : Stop) (new : LogState) → forgive ≡ true → WhereObservable x (λ m. IsTrying p forgive log asked k t made rest m0 m) → StepsTo (λ m o. CanFly m → BrokeOff end xs m o) x y → is_fault_end end ≡ true →
      StepsTo (λ m o. CanFly m → CanClear o) x y → StepsTo (λ m o. CanClear m → work_of m.probe + 1 < 2 ^ 64 → ClearedOff end' m o) y u → LogIsStopped end' (with_abort log (flight_entries forgive log asked xs) (abort_entry log asked (made ++ xs))) new z →
      WhereObservable u (λ q. IsBrokenOff p z (reported_by bench u new sent got) new log.calls m0 q)
  uncleared_where None y u bench sent got end end' z new it h broke fault clear left is = absurd h
  uncleared_where (Some m) None u bench sent got end end' z new it h broke fault clear left is = absurd broke
  uncleared_where (Some m) (Some o) None bench sent got end end' z new it h broke fault clear left is = absurd left
  uncleared_where (Some m) (Some o) (Some q) bench sent got (ends.Cut cut) end' z new it h broke fault clear left is =
      let w : WasCut cut xs m o = broke h.issuing.flies in
      let i = issuing p forgive log asked k t made leads last b rest more m0 m h n few bounded in
      let es : List Entry = flight_entries forgive log asked xs ++ abort_entry log asked (made ++ xs) ∷ [] in
      let count : length (log.entries ++ map kept_of (flight_entries forgive log asked xs ++ abort_entry log asked (made ++ xs) ∷ [])) ≡ log.confirmed + length (flight_entries forgive log asked xs) + 1 =
      (let a = length-append log.entries (map kept_of (flight_entries forgive log asked xs ++ abort_entry log asked (made ++ xs) ∷ [])) in
      let b : length (map kept_of (flight_entries forgive log asked xs ++ abort_entry log asked (made ++ xs) ∷ [])) ≡ length (flight_entries forgive log asked xs ++ abort_entry log asked (made ++ xs) ∷ []) = length-map (flight_entries forgive log asked xs ++ abort_entry log asked (made ++ xs) ∷ []) kept_of in
      let c = length-append (flight_entries forgive log asked xs) (abort_entry log asked (made ++ xs) ∷ []) in let r = at_rest_count p log _ m0 m i in omega (arith, a, b, c, r)) in
      let sure : length (log.entries ++ map kept_of (flight_entries forgive log asked xs)) ≡ log.confirmed + length (flight_entries forgive log asked xs) =
      (let a = length-append log.entries (map kept_of (flight_entries forgive log asked xs)) in let b : length (map kept_of (flight_entries forgive log asked xs)) ≡ length (flight_entries forgive log asked xs) = length-map (flight_entries forgive log asked xs) kept_of in let r = at_rest_count p log _ m0 m i in omega (arith, a, b, r)) in
      not_cleared p forgive bench (Some q) sent got log asked k t made leads last b rest more m0 m h n few bounded o w.part w.flies (w.fault (not_two cut.response fault)) it q
      (log.entries ++ map kept_of (flight_entries forgive log asked xs ++ abort_entry log asked (made ++ xs) ∷ [])) count (length (log.entries ++ map kept_of (flight_entries forgive log asked xs))) sure end' z new (left (clear h.issuing.flies) (abort_room p forgive log asked k t made leads last b rest more m0 m h n few bounded o w.part w.flies)) is
  uncleared_where (Some m) (Some o) (Some q) bench sent got ends.BenchFault end' z new it h broke fault clear left is = absurd (cc)
  uncleared_where (Some m) (Some o) (Some q) bench sent got ends.ReplyBad end' z new it h broke fault clear left is = absurd (cc)

-- ---- as the flights say it

pub one_few : (accesses : List RegAccess) → IsOneTransfer accesses → length accesses ≤ 4
one_few [] h = absurd h
one_few (a ∷ []) h = omega arith
one_few (a ∷ b ∷ rest) h = (let l = h.0 in omega (arith, l))

steps_same : (P : List RegAccess → BenchState → BenchState → Type 0) (x x' y : Option BenchState) (accesses accesses' : List RegAccess) → x' ≡ x → accesses' ≡ accesses → StepsTo (P accesses') x' y → StepsTo (P accesses) x y
steps_same P x x' y accesses accesses' same are h = subst (λ (z : Option BenchState). StepsTo (P accesses) z y) same (subst (λ (l : List RegAccess). StepsTo (P l) x' y) are h)

module _ (p : Planner) (forgive : Bool) (x x' y : Option BenchState) (log log1 : LogState) (asked : AccessUnit) (k : Kept) (t : TargetState) (made leads : List RegAccess) (last : RegAccess) (b : Bool) (rest more : List Action) (accesses : List RegAccess) (m0 : BenchState)
    (h : LogHasTried p forgive x log asked k t made rest m0) (n : AreNextAccesses asked t made leads last b rest more) (same : x' ≡ x) (are : accesses ≡ leads ++ last ∷ []) (few : length (leads ++ last ∷ []) ≤ 4) (bounded : length log.entries < 2 ^ 32)
    (log_is : log1 ≡ with_flight log (flight_entries forgive log asked (leads ++ last ∷ []))) where
  pub flight_went : (new : LogState) (values : List (Option ℕ)) (value : ℕ) → StepsTo (λ m o. CanFly m → HasCome accesses values m o) x' y → log.came ≡ log.whole → new ≡ all_confirmed log1 → value ≡ unwrap_or (slot_at values (length leads)) 0 →
      LogHasTried p forgive y new asked k t (made ++ (leads ++ last ∷ [])) more m0 × (value ≡ given_number (action_attempt (after t (making (made ++ leads))) (Makes last)).outcome)
  flight_went new values value c came new_is value_is =
      let r = came_where p forgive log asked k t made leads last b rest more m0 n few bounded x y values h.so (steps_same (λ l m o. CanFly m → HasCome l values m o) x x' y (leads ++ last ∷ []) accesses same are c) came in
      (subst (λ (l : LogState). LogHasTried p forgive y l asked k t (made ++ (leads ++ last ∷ [])) more m0) (sym (new_is ∙ ap all_confirmed log_is)) (record { so = r.0 }), value_is ∙ r.1)

  pub flight_skipped : (z y' : Option BenchState) (log2 new : LogState) (end : FlightEnd) (word : ℕ) → forgive ≡ true → StepsTo (λ m o. CanFly m → BrokeOff end accesses m o) x' y → is_fault_end end ≡ true → StepsTo (λ m o. CanFly m → CanClear o) x' y → y' ≡ y → StepsTo (λ m o. CanClear m → work_of m.probe + 1 < 2 ^ 64 → HasDoneWhole (Commands forgives) word m o) y' z →
      log.came ≡ log.whole → log2 ≡ with_abort log (flight_entries forgive log asked (leads ++ last ∷ [])) (abort_entry log asked (made ++ (leads ++ last ∷ []))) → new ≡ all_confirmed log2 → HasForgiven p forgive z new asked k t (made ++ leads) last m0
  flight_skipped z y' log2 new end word it broke fault clear same' d came log2_is new_is =
      subst (λ (l : LogState). HasForgiven p forgive z l asked k t (made ++ leads) last m0) (sym (new_is ∙ ap all_confirmed log2_is))
      (record {
        so = forgiven_where p forgive log asked k t made leads last b rest more m0 n few bounded x y z end word it h.so (steps_same (λ l m o. CanFly m → BrokeOff end l m o) x x' y (leads ++ last ∷ []) accesses same are broke) fault
            (subst (λ (w : Option BenchState). StepsTo (λ m o. CanFly m → CanClear o) w y) same clear) (subst (λ (w : Option BenchState). StepsTo (λ m o. CanClear m → work_of m.probe + 1 < 2 ^ 64 → HasDoneWhole (Commands forgives) word m o) w z) same' d) came;
      })

  pub flight_broke : (bench : BenchReported) (sent got : List ℕ) (end : FlightEnd) (z : Stop) (new : LogState) → length accesses ≤ flight_accesses bench.limits → StepsTo (λ m o. CanFly m → BrokeOff end accesses m o) x' y → (forgive ≡ false) ⊎ (is_fault_end end ≡ false) → IsCutResponse end → LogIsStopped end log1 new z → LogIsBroken p z (reported_by bench y new sent got) new log.calls m0
  flight_broke bench sent got end z new held broke fault either is =
      let w = broken_where p forgive log asked k t made leads last b rest more m0 n few bounded x y bench sent got end z new (subst (λ (l : List RegAccess). length l ≤ flight_accesses bench.limits) are held) h.so (steps_same (λ l m o. CanFly m → BrokeOff end l m o) x x' y (leads ++ last ∷ []) accesses same are broke) fault either
      (subst (λ (l : LogState). LogIsStopped end l new z) log_is is) in
      record { ended = ended_in p y z (reported_by bench y new sent got) new log.calls m0 w; stops = λ n left. stops_in p y z (reported_by bench y new sent got) new log.calls m0 n w left }

  pub abort_broke : (u y' : Option BenchState) (bench : BenchReported) (sent got : List ℕ) (log2 : LogState) (end end' : FlightEnd) (z : Stop) (new : LogState) → forgive ≡ true → StepsTo (λ m o. CanFly m → BrokeOff end accesses m o) x' y → is_fault_end end ≡ true → StepsTo (λ m o. CanFly m → CanClear o) x' y → y' ≡ y →
      StepsTo (λ m o. CanClear m → work_of m.probe + 1 < 2 ^ 64 → ClearedOff end' m o) y' u → log2 ≡ with_abort log (flight_entries forgive log asked (leads ++ last ∷ [])) (abort_entry log asked (made ++ (leads ++ last ∷ []))) → LogIsStopped end' log2 new z → LogIsBroken p z (reported_by bench u new sent got) new log.calls m0
  abort_broke u y' bench sent got log2 end end' z new it broke fault clear same' left log2_is is =
      let w = uncleared_where p forgive log asked k t made leads last b rest more m0 n few bounded x y u bench sent got end end' z new it h.so (steps_same (λ l m o. CanFly m → BrokeOff end l m o) x x' y (leads ++ last ∷ []) accesses same are broke) fault
      (subst (λ (w : Option BenchState). StepsTo (λ m o. CanFly m → CanClear o) w y) same clear) (subst (λ (w : Option BenchState). StepsTo (λ m o. CanClear m → work_of m.probe + 1 < 2 ^ 64 → ClearedOff end' m o) w u) same' left)
      (subst (λ (l : LogState). LogIsStopped end' l new z) log2_is is) in
      record { ended = ended_in p u z (reported_by bench u new sent got) new log.calls m0 w; stops = λ n left. stops_in p u z (reported_by bench u new sent got) new log.calls m0 n w left }
