-- A flight that came whole.
use Rattle.std.proofs.Common.{◌≡◌, ◌∙◌, ℕ, zero, suc, ◌+◌, ◌-◌, ◌*◌, ◌^◌, ◌<◌, ◌≤◌, List, [], ◌∷◌, ◌++◌, length, take, drop, get_or, Option, Some, None, refl, sym, ap, subst, arith, append_assoc, append-nil, length-append}
use Rattle.access_regs.proofs.StopLists.{passing_stops}
use Rattle.access_regs.specs.Entries.{kept_by, target_by}
use Rattle.std.proofs.Math.Seq.{take-length, take-append_seam}
use Rattle.std.proofs.lemmas.List.{take-append-drop, length-take-le}
use Rattle.std.specs.Option.{unwrap_or}
use Rattle.std.specs.Prelude.{slice_get, slice_index}
use Rattle.target_machine.specs.Plain.{action_attempt, given_number, result_of}
use Rattle.target_machine.specs.State.{TargetState}
use Rattle.target_machine.specs.declared.access.RegAccess.{RegAccess}
use Rattle.probe_core.specs.Bench.{BenchState, StepsTo}
use Rattle.probe_core.specs.Probe.{target_of, work_of}
use Rattle.target_calls.specs.Asks.{AreAskable, ForgiveNothing}
use Rattle.target_calls.specs.Journal.{Entry, target_after}
use Rattle.target_calls.specs.World.{World, results, skips, start_world, stop, world_after}
use Rattle.target_calls.specs.declared.calls.Ask.{Ask}
use Rattle.target_calls.proofs.CallLists.{append_skips}
use Rattle.target_calls.proofs.EndLemmas.{none_skipped}
use Rattle.access_regs.specs.Journal.{issued_entries, issued_from, kept_from, issue_of}
use Rattle.access_regs.specs.Kept.{nothing_kept, Kept}
use Rattle.access_regs.proofs.Joins.{journal_joins}
use Rattle.access_calls.specs.Standing.{WhereObservable}
use Rattle.batch_packer.specs.SlotList.{slot_at}
use Rattle.batch_packer.specs.Flying.{CanFly}
use Rattle.flight_laws.specs.Sending.{IsSending}
use Rattle.flight_laws.proofs.ComeLemmas.{result_given}
use Rattle.flight_laws.proofs.CutLemmas.{Cutting, cut_list}
use Rattle.flight_laws.proofs.FlightLemmas.{room_grown}
use Rattle.flight_laws.proofs.SendLemmas.{whole_sends}
use Rattle.packed_access.specs.Begun.{HasIssued, IsGivenAt, IsIssuing, most_weight}
use Rattle.bench_flights.specs.Flown.{HasCome}
use Rattle.packed_access.specs.Logs.{LogState, all_confirmed, all_taken, flight_results, pending_place, result_by, result_for}
use Rattle.packed_access.specs.Stands.{IsMildAt, mild_from}
use Rattle.packed_access.proofs.CameLemmas.{HaveCome, have_come_own, place_within, take_through}
use Rattle.packed_access.proofs.FillLemmas.{filled_is, filled_length}
use Rattle.packed_access.proofs.SlotLemmas.{slot_gives}
use Rattle.access_regs.specs.declared.planner.Planner.{Planner}
use Rattle.access_regs.proofs.EntryLemmas.{askable_first}

-- the first of the first ones
pub take_first : {A : Type 0} → (m n : ℕ) (xs : List A) → m ≤ n → take m (take n xs) ≡ take m xs
take_first zero n xs le = refl
take_first (suc m) zero xs le = absurd (omega (arith, le))
take_first (suc m) (suc n) [] le = refl
take_first (suc m) (suc n) (x ∷ xs) le = ap (λ l. x ∷ l) (take_first m n xs (omega (arith, le)))

pub get_there : (asks : List Ask) (ask : Ask) (more : List Ask) → slice_get (asks ++ ask ∷ more) (length asks) ≡ Some ask
get_there [] ask more = refl
get_there (x ∷ asks) ask more = get_there asks ask more

module _ (p : Planner) (log : LogState) (accesses : List RegAccess) (rest : List Entry) (values : List (Option ℕ)) (m0 m o : BenchState) (h : IsIssuing p log accesses rest m0 m) (c : HasCome accesses values m o)
    (long : length log.results ≡ length log.calls) (bounded : length log.entries < 2 ^ 32) where
  abbrev t0 : TargetState
  t0 = target_of m0.probe

  abbrev first : List Ask
  first = take log.whole log.calls

  -- ---- the calls that were issued whole have come

  sent : IsSending p log.calls (log.confirmed + length h.flying) log.came [] rest [] (take log.known log.results) m0 o
  sent = whole_sends p log.calls log.confirmed log.came h.flying rest accesses (take log.known log.results) m0 m o c.part h.sending c.flies c.good

  come : HaveCome p log.calls (length log.entries) log.whole m0
  come = have_come_own p log.calls sent.made rest (length log.entries) log.whole m0 h.sending.fresh h.sending.askable h.within sent.on.are sent.on.passes (sent.confirmed_is ∙ h.count) h.whole_issued

  come_before : HaveCome p log.calls (length log.entries) log.came m0
  come_before = have_come_own p log.calls sent.made rest (length log.entries) log.came m0 h.sending.fresh h.sending.askable (let a = h.in_order in let b = h.within in omega (arith, a, b)) sent.on.are sent.on.passes (sent.confirmed_is ∙ h.count)
      (let a = h.came_made in let b = h.count in omega (arith, a, b))

  -- ---- each result

  module _ (index : ℕ) (low : log.came ≤ index) (high : index < log.whole) where
    abbrev g : IsGivenAt p (target_of m0.probe) log.calls index (slice_index log.places index)
    g = h.given index low high

    abbrev place : ℕ
    place = slice_index log.places index

    abbrev others : List Ask
    others = take (log.whole - suc (length g.asks)) g.more

    first_is : first ≡ g.asks ++ g.ask ∷ others
    first_is = ap (take log.whole) g.are ∙ take_through log.whole g.asks g.ask g.more (let a = g.at in omega (arith, a, high))

    pub mild_there : IsMildAt first index
    mild_there = record { asks = g.asks; ask = g.ask; more = others; are = first_is; at = g.at; mild = g.mild }

    askable_there : AreAskable (g.asks ++ g.ask ∷ others)
    askable_there = subst AreAskable first_is (askable_first first (drop log.whole log.calls) (subst AreAskable (sym (take-append-drop log.whole log.calls)) h.sending.askable))

    stop_there : stop (start_world t0 None) (g.asks ++ g.ask ∷ others) ≡ None
    stop_there = subst (λ (l : List Ask). stop (start_world t0 None) l ≡ None) first_is (come.none_stops.stops None tt)

    cut : Cutting (slice_index log.places index) (issued_entries p t0 (g.asks ++ g.ask ∷ others))
    cut = cut_list (slice_index log.places index) (issued_entries p t0 (g.asks ++ g.ask ∷ others)) (let w = place_within p t0 g.asks g.ask others in let part_is = g.place_is in omega (arith, w, part_is))

    abbrev word : ℕ
    word = given_number (action_attempt (target_after t0 cut.front) cut.entry.action).outcome

    given_there : slice_index (results (start_world t0 None) first) index ≡ result_of g.ask.call word
    given_there =
        (λ j. slice_index (results (start_world t0 None) (first_is j)) (sym g.at j))
        ∙ result_given p t0 g.asks g.ask others cut.front cut.entry cut.back h.sending.fresh askable_there stop_there g.mild g.large cut.is (let a = cut.at in let part_is = g.place_is in omega (arith, a, part_is))

    journal_is : issued_entries p t0 log.calls ≡ cut.front ++ cut.entry ∷ (cut.back ++ issued_from p (0 + length first) (kept_from p nothing_kept t0 first) (target_after t0 (issued_entries p t0 first)) (drop log.whole log.calls))
    journal_is =
        ap (issued_entries p t0) (sym (take-append-drop log.whole log.calls)) ∙ journal_joins p 0 nothing_kept t0 first (drop log.whole log.calls)
        ∙ ap (λ (l : List Entry). l ++ issued_from p (0 + length first) (kept_from p nothing_kept t0 first) (target_after t0 (issued_entries p t0 first)) (drop log.whole log.calls)) (ap (issued_entries p t0) first_is ∙ cut.is)
        ∙ append_assoc cut.front (cut.entry ∷ cut.back) (issued_from p (0 + length first) (kept_from p nothing_kept t0 first) (target_after t0 (issued_entries p t0 first)) (drop log.whole log.calls))

    slot_there : unwrap_or (slot_at values (pending_place log index)) 0 ≡ word
    slot_there =
        slot_gives (issued_entries p t0 log.calls) h.sending.made h.flying rest accesses m0 m o c.part values cut.front cut.entry (cut.back ++ issued_from p (0 + length first) (kept_from p nothing_kept t0 first) (target_after t0 (issued_entries p t0 first)) (drop log.whole log.calls)) (pending_place log index)
        h.sending.on c.flies c.good c.values_are journal_is
        (let a = cut.at in let k = h.sending.confirmed_is in let i = h.given_in index low high in let i0 = i.0 in omega (arith, a, k, i0))
        (let n = h.count in let i = h.given_in index low high in let i0 = i.0 in let i1 = i.1 in omega (arith, n, i0, i1))

    pub result_there : get_or (results (start_world t0 None) first) index 0 ≡ result_by values log index
    result_there =
        given_there
        ∙ sym (ap (result_of g.ask.call) slot_there)
        ∙ ap (λ (x : Option Ask). result_for x (unwrap_or (slot_at values (pending_place log index)) 0)) (sym ((λ j. slice_get (g.are j) (sym g.at j)) ∙ get_there g.asks g.ask g.more))

  -- ---- all results

  enough : log.came + (log.whole - log.came) ≡ log.whole
  enough = (let a = h.in_order in omega (arith, a))

  abbrev all : List ℕ
  all = results (start_world t0 None) first

  front_same : take log.came log.results ≡ take log.came (results (start_world t0 None) first)
  front_same =
      ap (λ (k : ℕ). take k log.results) (sym h.known_is) ∙ h.came_are ∙ sym (come_before.results_are None tt)
      ∙ sym (take_first log.came log.whole (results (start_world t0 None) log.calls) h.in_order)
      ∙ ap (take log.came) (come.results_are None tt)

  pub came_now : take log.whole (flight_results values log log.came (log.whole - log.came) log.results) ≡ results (start_world t0 None) first
  came_now =
      ap (λ (k : ℕ). take k (flight_results values log log.came (log.whole - log.came) log.results)) (sym enough)
      ∙ filled_is values log log.came (log.whole - log.came) log.results all front_same (let w = h.within in omega (arith, enough, long, w)) (let l = come.length_is in omega (arith, enough, l))
      (λ i low less. result_there i low (omega (arith, less, enough)))
      ∙ ap (λ (k : ℕ). take k all) (enough ∙ sym come.length_is)
      ∙ take-length all

  -- ---- how many were skipped

  split_first : first ≡ take log.came log.calls ++ drop log.came first
  split_first = sym (take-append-drop log.came first) ∙ ap (λ (l : List Ask). l ++ drop log.came first) (take_first log.came log.whole log.calls h.in_order)

  mild_rest : ForgiveNothing (drop log.came first)
  mild_rest = mild_from first log.came (λ i low less. mild_there i low (let l = length-take-le log.whole log.calls h.within in omega (arith, l, less)))

  skipped_now : log.skipped ≡ skips (start_world t0 None) first
  skipped_now =
      let w : World = start_world t0 None in
      let e = append_skips w (take log.came log.calls) (drop log.came first) (come_before.none_stops.stops None tt) in
      let z = none_skipped (world_after w (take log.came log.calls)) (drop log.came first) mild_rest in
      let k = h.skipped_is in
      let s = ap (skips w) split_first in
      omega (arith, e, z, k, s)

  -- ---- the work

  work_few : work_of o.probe + 0 ≤ 2 ^ 63 + most_weight * length log.entries
  work_few =
      let f = h.few in
      let most = c.flies.does.made.most in
      let w = c.flies.does.work in
      let r = room_grown (work_of m.probe) c.part.performed (omega (arith, f, most, bounded)) in
      omega (arith, f, most, w, r)

  pub flight_came : IsIssuing p (all_confirmed (all_taken values log)) [] rest m0 o
  flight_came = record {
    flying = [];
    sending = record {
      fresh = h.sending.fresh;
      askable = h.sending.askable;
      made = sent.made;
      on = sent.on;
      confirmed_is = sent.confirmed_is ∙ h.count;
      length_is = ap length came_now ∙ come.length_is;
      results_are = λ n least. come.results_are n least ∙ sym came_now;
      lines = come.lines;
    };
    known_is = refl;
    count = omega arith;
    entries_are = h.entries_are;
    strict = tt;
    in_order = omega arith;
    within = h.within;
    came_made = h.whole_issued;
    whole_issued = h.whole_issued;
    came_are = came_now;
    skipped_is = skipped_now;
    given = λ index low less. absurd (omega (arith, low, less));
    given_in = λ index low less. absurd (omega (arith, low, less));
    flies = c.next;
    few = work_few;
  }

came_where : (p : Planner) (x y : Option BenchState) (log : LogState) (accesses : List RegAccess) (rest : List Entry) (values : List (Option ℕ)) (m0 : BenchState) → WhereObservable x (λ m. IsIssuing p log accesses rest m0 m) →
    StepsTo (λ m o. CanFly m → HasCome accesses values m o) x y → length log.results ≡ length log.calls → length log.entries < 2 ^ 32 → WhereObservable y (λ o. IsIssuing p (all_confirmed (all_taken values log)) [] rest m0 o)
came_where p None y log accesses rest values m0 h c long bounded = absurd h
came_where p (Some m) None log accesses rest values m0 h c long bounded = absurd c
came_where p (Some m) (Some o) log accesses rest values m0 h c long bounded = flight_came p log accesses rest values m0 m o h (c h.flies) long bounded

-- where the bench is observable
pub has_come : (p : Planner) (x y : Option BenchState) (log : LogState) (accesses : List RegAccess) (rest : List Entry) (values : List (Option ℕ)) (m0 : BenchState) → HasIssued p x log accesses rest m0 →
    StepsTo (λ m o. CanFly m → HasCome accesses values m o) x y → length log.results ≡ length log.calls → length log.entries < 2 ^ 32 → HasIssued p y (all_confirmed (all_taken values log)) [] rest m0
has_come p x y log accesses rest values m0 h c long bounded = record { so = came_where p x y log accesses rest values m0 h.so c long bounded }
