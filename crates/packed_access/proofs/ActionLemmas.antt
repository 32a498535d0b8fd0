-- A poll or a command of the probe, which is the only entry of the last call.
use Rattle.std.proofs.Common.{◌≡◌, inl, ◌∙◌, ℕ, zero, suc, ◌+◌, ◌-◌, ◌*◌, ◌^◌, ◌<◌, ◌≤◌, Bool, true, false, ◌&&◌, List, [], ◌∷◌, ◌++◌, length, take, map, get_or, set, Option, Some, None, refl, sym, ap, subst, arith, append-nil, length-append}
use Rattle.std.proofs.Math.Seq.{take-append_seam, take-length}
use Rattle.std.proofs.lemmas.List.{length-map, map-append, take_more_set}
use Rattle.std.specs.Prelude.{slice_index}
use Rattle.target_machine.specs.Plain.{Action, action_attempt, given_number, is_fault, result_of}
use Rattle.target_machine.specs.State.{TargetState}
use Rattle.target_machine.specs.declared.unit.ProbeCall.{ProbeCall}
use Rattle.probe_core.specs.Bench.{BenchState, StepsTo}
use Rattle.probe_core.specs.Probe.{target_of, work_of}
use Rattle.target_calls.specs.Asks.{AreAskable, is_forgiving}
use Rattle.target_calls.specs.Journal.{Entry, is_unforgiven}
use Rattle.target_calls.specs.Weights.{weight}
use Rattle.target_calls.specs.World.{World, results, skips, small_now, start_world, stop, world_after}
use Rattle.target_calls.specs.declared.calls.Ask.{Ask}
use Rattle.target_calls.proofs.CallLists.{append_skips}
use Rattle.target_calls.proofs.EndLemmas.{none_skipped}
use Rattle.access_regs.specs.Entries.{kept_by, target_by}
use Rattle.access_regs.specs.Journal.{issue_of, issued_entries, numbered_entries}
use Rattle.access_regs.proofs.EntryLemmas.{journal_grows}
use Rattle.access_calls.specs.Issued.{kept_of}
use Rattle.access_calls.specs.declared.issued.Issued.{Issued}
use Rattle.flight_laws.specs.Sending.{IsSending}
use Rattle.flight_laws.proofs.ComeLemmas.{result_given}
use Rattle.flight_laws.proofs.SendLemmas.{action_sends}
use Rattle.access_calls.specs.Standing.{WhereObservable}
use Rattle.batch_packer.specs.Flying.{CanFly}
use Rattle.packed_access.specs.Begun.{HasIssued, IsIssuing, most_weight}
use Rattle.bench_flights.specs.Flown.{CanCommand, CanCount, HasDoneWhole}
use Rattle.packed_access.specs.Actions.{entry_of_call, log_done}
use Rattle.packed_access.specs.Logs.{LogState}
use Rattle.packed_access.specs.Marks.{unmarked_append, unmarked_last}
use Rattle.packed_access.proofs.CameLemmas.{HaveCome, have_come}
use Rattle.packed_access.proofs.PushLemmas.{take_more}
use Rattle.packed_access.specs.Stands.{none_flying}
use Rattle.access_regs.specs.declared.planner.Planner.{Planner}

-- ---- where nothing lies in the flight

pub at_rest : (p : Planner) (log : LogState) (rest : List Entry) (m0 m : BenchState) → (h : IsIssuing p log [] rest m0 m) → IsSending p log.calls log.confirmed log.came [] rest [] (take log.known log.results) m0 m
at_rest p log rest m0 m h =
    subst (λ (flying : List Entry). IsSending p log.calls log.confirmed log.came flying rest [] (take log.known log.results) m0 m) (none_flying h.flying h.sending.on.flight) h.sending

pub at_rest_count : (p : Planner) (log : LogState) (rest : List Entry) (m0 m : BenchState) → (h : IsIssuing p log [] rest m0 m) → log.confirmed ≡ length log.entries
at_rest_count p log rest m0 m h = (let c = h.count in let n : length h.flying ≡ 0 = ap length (none_flying h.flying h.sending.on.flight) in omega (arith, c, n))

-- a number more in a list
last_taken : (xs : List ℕ) (k : ℕ) → length xs ≡ k + 1 → xs ≡ take k xs ++ get_or xs k 0 ∷ []
last_taken [] k long = absurd (omega (arith, long))
last_taken (x ∷ []) zero long = refl
last_taken (x ∷ y ∷ xs) zero long = absurd (omega (arith, long))
last_taken (x ∷ xs) (suc k) long = ap (λ (l : List ℕ). x ∷ l) (last_taken xs k (omega (arith, long)))

and_false : (b : Bool) → b ≡ false → (b && true) ≡ false
and_false true h = cc
and_false false h = refl

module _ (p : Planner) (log : LogState) (calls : List Ask) (ask : Ask) (x : Action) (word : ℕ) (m0 m o : BenchState) (h : IsIssuing p log [] (entry_of_call calls x ∷ []) m0 m) (d : HasDoneWhole x word m o) (are : log.calls ≡ calls ++ ask ∷ []) (came : log.came ≡ length calls)
    (steps : length (issue_of p (target_by p (target_of m0.probe) calls) (kept_by p (target_of m0.probe) calls) ask).steps ≡ 1) (unmarked : ask.settled ≡ false) (mild : is_forgiving ask ≡ false)
    (large : small_now (start_world (target_of m0.probe) None) calls ask ≡ false) (light : weight (target_of m.probe) x ≤ most_weight) (long : length log.results ≡ length log.calls) (bounded : length log.entries < 2 ^ 32) where
  abbrev t0 : TargetState
  t0 = target_of m0.probe

  abbrev e : Entry
  e = entry_of_call calls x

  rest_is : IsSending p log.calls log.confirmed log.came [] (entry_of_call calls x ∷ []) [] (take log.known log.results) m0 m
  rest_is = at_rest p log (entry_of_call calls x ∷ []) m0 m h

  here : log.confirmed ≡ length log.entries
  here = at_rest_count p log (entry_of_call calls x ∷ []) m0 m h

  unforgiven : is_unforgiven (target_of m.probe) (entry_of_call calls x) ≡ false
  unforgiven = and_false (is_fault (action_attempt (target_of m.probe) x).outcome) d.good

  counts : CanCount x m
  counts = (let f = h.few in omega (arith, f, light, bounded))

  work_there : work_of o.probe ≤ 2 ^ 63 + most_weight * (length log.entries + 1)
  work_there = (let f = h.few in let w = (d.does counts).work in omega (arith, f, w, light))

  sent : IsSending p log.calls (log.confirmed + 1) log.came [] [] [] (take log.known log.results) m0 o
  sent = action_sends p log.calls log.confirmed log.came (entry_of_call calls x) [] (take log.known log.results) m0 m o rest_is (d.does counts) unforgiven (let w = work_there in omega (arith, w, bounded))

  all_there : issued_entries p t0 log.calls ≡ sent.made
  all_there = sent.on.are ∙ append-nil sent.made

  count_is : length log.calls ≡ length calls + 1
  count_is = ap length are ∙ length-append calls (ask ∷ [])

  first_all : take (length log.calls) log.calls ≡ log.calls
  first_all = take-length log.calls

  first_before : take (length calls) log.calls ≡ calls
  first_before = ap (take (length calls)) are ∙ take-append_seam calls (ask ∷ [])

  made_count : length (issued_entries p t0 log.calls) ≡ length log.entries + 1
  made_count = (let a = ap length all_there in let c = sent.confirmed_is in let k = here in omega (arith, a, c, k))

  own_count : (n : ℕ) → length (issued_entries p t0 (take n (unmarked_last log.calls))) ≡ length (issued_entries p t0 (take n log.calls))
  own_count n = ap (λ (l : List Ask). length (issued_entries p t0 (take n l))) (ap unmarked_last are ∙ unmarked_append calls ask unmarked ∙ sym are)

  come : HaveCome p log.calls (length log.entries + 1) (length log.calls) m0
  come = have_come p log.calls sent.made [] (length log.entries + 1) (length log.calls) m0 h.sending.fresh h.sending.askable (omega arith) sent.on.are sent.on.passes (let c = sent.confirmed_is in let k = here in omega (arith, c, k))
      (let f = ap (λ (l : List Ask). length (issued_entries p t0 l)) first_all in let n = made_count in omega (arith, f, n))

  come_before : HaveCome p log.calls (length log.entries + 1) (length calls) m0
  come_before = have_come p log.calls sent.made [] (length log.entries + 1) (length calls) m0 h.sending.fresh h.sending.askable (let c = count_is in omega (arith, c)) sent.on.are sent.on.passes (let c = sent.confirmed_is in let k = here in omega (arith, c, k))
      (let f = ap (λ (k : ℕ). length (issued_entries p t0 (take k log.calls))) came in let n = h.came_made in let s = own_count log.came in let k = here in omega (arith, f, n, s, k))

  abbrev all : List ℕ
  all = results (start_world t0 None) log.calls

  all_count : length (results (start_world t0 None) log.calls) ≡ length calls + 1
  all_count = ap (λ (l : List Ask). length (results (start_world t0 None) l)) (sym first_all) ∙ come.length_is ∙ count_is

  front_is : take (length calls) (results (start_world t0 None) log.calls) ≡ take (length calls) log.results
  front_is =
      come_before.results_are None tt ∙ ap (λ (k : ℕ). results (start_world t0 None) (take k log.calls)) (sym came) ∙ sym h.came_are
      ∙ ap (λ (k : ℕ). take k log.results) (h.known_is ∙ came)

  stop_there : stop (start_world t0 None) (calls ++ ask ∷ []) ≡ None
  stop_there = subst (λ (l : List Ask). stop (start_world t0 None) l ≡ None) (first_all ∙ are) (come.none_stops.stops None tt)

  seam : issued_entries p t0 log.calls ≡ h.sending.made ++ entry_of_call calls x ∷ []
  seam = h.sending.on.are ∙ ap (λ (l : List Entry). h.sending.made ++ (l ++ entry_of_call calls x ∷ [])) (none_flying h.flying h.sending.on.flight)

  made_before : length h.sending.made ≡ length log.entries
  made_before = h.sending.confirmed_is ∙ here

  grown : length (issued_entries p t0 calls) + length (issue_of p (target_by p t0 calls) (kept_by p t0 calls) ask).steps ≡ length log.entries + 1
  grown =
      let l = ap length (ap (issued_entries p t0) are ∙ (journal_grows p t0 calls ask unmarked).0) in
      let k = length-append (issued_entries p t0 calls) (numbered_entries (length calls) (is_forgiving ask) (issue_of p (target_by p t0 calls) (kept_by p t0 calls) ask).steps) in
      let n : length (numbered_entries (length calls) (is_forgiving ask) (issue_of p (target_by p t0 calls) (kept_by p t0 calls) ask).steps) ≡ length (issue_of p (target_by p t0 calls) (kept_by p t0 calls) ask).steps = length-map (issue_of p (target_by p t0 calls) (kept_by p t0 calls) ask).steps _ in
      let m = made_count in
      omega (arith, l, k, n, m)

  last_is : get_or (results (start_world t0 None) log.calls) (length calls) 0 ≡ result_of ask.call word
  last_is =
      ap (λ (l : List Ask). slice_index (results (start_world t0 None) l) (length calls)) are
      ∙ result_given p t0 calls ask [] h.sending.made (entry_of_call calls x) [] h.sending.fresh (subst AreAskable are h.sending.askable) stop_there mild large (ap (issued_entries p t0) (sym are) ∙ seam) (let g = grown in let b = made_before in omega (arith, g, b))
      ∙ ap (λ (t : TargetState). result_of ask.call (given_number (action_attempt t x).outcome)) (sym h.sending.on.target)
      ∙ ap (result_of ask.call) (sym d.word_is)

  came_now : take (length log.calls) (set log.results (length calls) (result_of ask.call word)) ≡ results (start_world t0 None) log.calls
  came_now =
      ap (λ (k : ℕ). take k (set log.results (length calls) (result_of ask.call word))) count_is
      ∙ take_more_set log.results (length calls) (result_of ask.call word) (let c = count_is in omega (arith, c, long))
      ∙ (λ j. sym front_is j ++ sym last_is j ∷ [])
      ∙ sym (last_taken (results (start_world t0 None) log.calls) (length calls) all_count)

  skipped_now : log.skipped ≡ skips (start_world t0 None) (take (length log.calls) log.calls)
  skipped_now =
      let w : World = start_world t0 None in
      let whole : stop w calls ≡ None = subst (λ (l : List Ask). stop w l ≡ None) first_before (come_before.none_stops.stops None tt) in
      let e = append_skips w calls (ask ∷ []) whole in
      let z = none_skipped (world_after w calls) (ask ∷ []) (mild, tt) in
      let k = h.skipped_is in
      let b = ap (λ (k : ℕ). skips w (take k log.calls)) came ∙ ap (skips w) first_before in
      let a = ap (skips w) (first_all ∙ are) in
      omega (arith, e, z, k, b, a)

  entry_is : Issued
  entry_is = kept_of (entry_of_call calls x)

  entries_now : log.entries ++ kept_of (entry_of_call calls x) ∷ [] ≡ map kept_of (take (length (log.entries ++ kept_of (entry_of_call calls x) ∷ [])) (issued_entries p t0 log.calls))
  entries_now =
      let t = take_more h.sending.made (entry_of_call calls x) [] (issued_entries p t0 log.calls) (length log.entries) seam made_before in
      (λ j. (h.entries_are ∙ ap (map kept_of) t.0) j ++ kept_of (entry_of_call calls x) ∷ [])
      ∙ sym (map-append kept_of h.sending.made (entry_of_call calls x ∷ []))
      ∙ ap (map kept_of) (sym t.1)
      ∙ ap (λ n. map kept_of (take n (issued_entries p t0 log.calls))) (sym (length-append log.entries (kept_of (entry_of_call calls x) ∷ [])))

  more_entries : length (log.entries ++ kept_of (entry_of_call calls x) ∷ []) ≡ length log.entries + 1
  more_entries = length-append log.entries (kept_of (entry_of_call calls x) ∷ [])

  pub action_came : IsIssuing p (log_done log (kept_of (entry_of_call calls x)) (length calls) (result_of ask.call word)) [] [] m0 o
  action_came = record {
    flying = [];
    sending = record {
      fresh = h.sending.fresh;
      askable = h.sending.askable;
      made = sent.made;
      on = sent.on;
      confirmed_is = (let c = sent.confirmed_is in let k = here in let n = more_entries in omega (arith, c, k, n));
      length_is = ap length came_now ∙ ap (λ (l : List Ask). length (results (start_world t0 None) l)) (sym first_all) ∙ come.length_is;
      results_are = λ n least. come.results_are n least ∙ ap (results (start_world t0 None)) first_all ∙ sym came_now;
      lines = λ k low cut. come.lines k (let n = more_entries in omega (arith, n, low)) cut;
    };
    known_is = refl;
    count = omega arith;
    entries_are = entries_now;
    strict = tt;
    in_order = omega arith;
    within = omega arith;
    came_made = (let f = ap (λ (l : List Ask). length (issued_entries p t0 l)) first_all in let s = own_count (length log.calls) in let n = made_count in let k = more_entries in omega (arith, f, s, n, k));
    whole_issued = (let f = ap (λ (l : List Ask). length (issued_entries p t0 l)) first_all in let s = own_count (length log.calls) in let n = made_count in let k = more_entries in omega (arith, f, s, n, k));
    came_are = came_now ∙ ap (results (start_world t0 None)) (sym first_all);
    skipped_is = skipped_now;
    given = λ index low less. absurd (omega (arith, low, less));
    given_in = λ index low less. absurd (omega (arith, low, less));
    flies = d.next;
    few = (let w = work_there in let n = more_entries in omega (arith, w, n));
  }

-- a command that does something where STICKYERR is clear, or the command clears it
pub where_flies : (x y : Option BenchState) (call : ProbeCall) (Q : BenchState → BenchState → Type 0) → StepsTo (λ m o. CanCommand call m → Q m o) x y → StepsTo (λ m o. CanFly m → Q m o) x y
where_flies None None call Q h = h
where_flies None (Some o) call Q h = h
where_flies (Some m) None call Q h = h
where_flies (Some m) (Some o) call Q h = λ flies. h (inl flies)

came_where : (p : Planner) (x y : Option BenchState) (log new : LogState) (calls : List Ask) (ask : Ask) (action : Action) (word : ℕ) (m0 : BenchState) → WhereObservable x (λ m. IsIssuing p log [] (entry_of_call calls action ∷ []) m0 m) → StepsTo (λ m o. CanFly m → HasDoneWhole action word m o) x y →
    log.calls ≡ calls ++ ask ∷ [] → log.came ≡ length calls → length (issue_of p (target_by p (target_of m0.probe) calls) (kept_by p (target_of m0.probe) calls) ask).steps ≡ 1 → ask.settled ≡ false → is_forgiving ask ≡ false →
    small_now (start_world (target_of m0.probe) None) calls ask ≡ false → ((m : BenchState) → weight (target_of m.probe) action ≤ most_weight) → length log.results ≡ length log.calls → length log.entries < 2 ^ 32 →
    WhereObservable y (λ o. IsIssuing p (log_done log (kept_of (entry_of_call calls action)) (length calls) (result_of ask.call word)) [] [] m0 o)
came_where p None y log new calls ask action word m0 h d are came steps unmarked mild large light long bounded = absurd h
came_where p (Some m) None log new calls ask action word m0 h d are came steps unmarked mild large light long bounded = absurd d
came_where p (Some m) (Some o) log new calls ask action word m0 h d are came steps unmarked mild large light long bounded = action_came p log calls ask action word m0 m o h (d h.flies) are came steps unmarked mild large (light m) long bounded

-- where the bench is observable
pub action_has_come : (p : Planner) (x y : Option BenchState) (log new : LogState) (calls : List Ask) (ask : Ask) (action : Action) (word : ℕ) (m0 : BenchState) → HasIssued p x log [] (entry_of_call calls action ∷ []) m0 → StepsTo (λ m o. CanFly m → HasDoneWhole action word m o) x y →
    log.calls ≡ calls ++ ask ∷ [] → log.came ≡ length calls → length (issue_of p (target_by p (target_of m0.probe) calls) (kept_by p (target_of m0.probe) calls) ask).steps ≡ 1 → ask.settled ≡ false → is_forgiving ask ≡ false →
    small_now (start_world (target_of m0.probe) None) calls ask ≡ false → ((m : BenchState) → weight (target_of m.probe) action ≤ most_weight) → length log.results ≡ length log.calls → length log.entries < 2 ^ 32 →
    new ≡ log_done log (kept_of (entry_of_call calls action)) (length calls) (result_of ask.call word) → HasIssued p y new [] [] m0
action_has_come p x y log new calls ask action word m0 h d are came steps unmarked mild large light long bounded is =
    subst (λ (l : LogState). HasIssued p y l [] [] m0) (sym is) (record { so = came_where p x y log new calls ask action word m0 h.so d are came steps unmarked mild large light long bounded })
