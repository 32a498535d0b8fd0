-- How far an access has come that has no end.
use Rattle.std.proofs.Common.{◌≡◌, ◌∙◌, ℕ, ◌≤◌, true, false, List, [], ◌∷◌, ◌++◌, length, take, Option, Some, None, refl, sym, ap, subst, arith, append-nil, length-append}
use Rattle.std.proofs.Math.Seq.{take-append_seam}
use Rattle.std.proofs.lemmas.List.{take_all}
use Rattle.target_machine.specs.State.{Agree, TargetState}
use Rattle.target_machine.specs.declared.access.RegAccess.{RegAccess}
use Rattle.probe_core.specs.Bench.{BenchState}
use Rattle.probe_core.specs.Probe.{target_of}
use Rattle.target_calls.specs.Asks.{AreAskable, is_settled}
use Rattle.target_calls.specs.Journal.{Entry, Passes, first_fault, target_after}
use Rattle.target_calls.specs.Weights.{weight_in}
use Rattle.target_calls.specs.World.{AtLeast, World, is_faulted, one_fewer, results, results_within, skips, start_world, stop, unlimited_world, world_after}
use Rattle.target_calls.specs.declared.calls.Ask.{Ask}
use Rattle.target_calls.proofs.CallLists.{append_results, append_skips, count_of}
use Rattle.target_calls.proofs.EndLemmas.{none_skipped}
use Rattle.target_calls.proofs.EntryLemmas.{pass_front, pass_none}
use Rattle.target_calls.proofs.WorldLemmas.{results_first, whole_least, whole_skips, whole_unlimited}
use Rattle.access_regs.specs.Alone.{NoneFaults, call_alone, alone_after, large_of_all}
use Rattle.access_regs.specs.Journal.{issued_entries}
use Rattle.access_regs.specs.Kept.{Kept}
use Rattle.access_regs.specs.Stops.{NoneStops, world_at}
use Rattle.access_regs.proofs.AllCalls.{journal_agrees}
use Rattle.access_regs.proofs.StopLists.{good_end, live_more, passing_stops}
use Rattle.access_calls.specs.Reported.{AccessView, began}
use Rattle.access_calls.specs.Standing.{HasPerformed, StandsOpen, StayWithin, grown_since}
use Rattle.flight_laws.specs.Flying.{IsFlying}
use Rattle.flight_laws.proofs.CutLemmas.{has_at}
use Rattle.flight_laws.proofs.OwnLemmas.{stay_passing}
use Rattle.access_regs.specs.declared.planner.Planner.{Planner}
use Rattle.access_regs.proofs.EntryLemmas.{askable_first}

agree_sym : (t u : TargetState) → Agree t u → Agree u t
agree_sym t u h = record { same = sym h.same }

-- calls that do not stop have the results that they have where all are answered
pub whole_results : (w : World) (calls : List Ask) → stop w calls ≡ None → results w calls ≡ results (unlimited_world w) calls
whole_results w calls whole = by_answered w.answered refl
  where
    by_answered : (n : Option ℕ) → w.answered ≡ n → results w calls ≡ results (unlimited_world w) calls
    by_answered None is = ap (λ (n : Option ℕ). results (record w { answered = n }) calls) is
    by_answered (Some n) is =
        let count : length (results (unlimited_world w) calls) ≡ length calls = count_of (unlimited_world w) calls (whole_unlimited w calls whole) in
        let enough : length calls ≤ n = subst (AtLeast (length calls)) is (whole_least w calls whole) in
        results_first w calls ∙ ap (λ (x : Option ℕ). results_within x (results (unlimited_world w) calls)) is ∙ take_all n (results (unlimited_world w) calls) (omega (arith, count, enough))

-- where no call ends at a fault, and all are answered, the target after the calls is the one after each alone
pub after_alone : (t : TargetState) (large : List ℕ) (n : Option ℕ) (calls : List Ask) → NoneFaults t large calls → AtLeast (length calls) n → (world_after (world_at t large n) calls).target ≡ alone_after t large calls
after_alone t large n [] none enough = refl
after_alone t large n (c ∷ calls) none enough =
    let live = live_more n (length calls) enough in
    let good : is_faulted (call_alone t large c).end ≡ false = good_end (call_alone t large c).end none.0 in
    rw (live.0, good) (after_alone (call_alone t large c).next (call_alone t large c).large (one_fewer n) calls none.1 live.1)

-- and so are the APs that are known to have large addresses
pub large_alone : (t : TargetState) (large : List ℕ) (n : Option ℕ) (calls : List Ask) → NoneFaults t large calls → AtLeast (length calls) n → (world_after (world_at t large n) calls).large ≡ large_of_all t large calls
large_alone t large n [] none enough = refl
large_alone t large n (c ∷ calls) none enough =
    let live = live_more n (length calls) enough in
    let good : is_faulted (call_alone t large c).end ≡ false = good_end (call_alone t large c).end none.0 in
    rw (live.0, good) (large_alone (call_alone t large c).next (call_alone t large c).large (one_fewer n) calls none.1 live.1)

module _ (p : Planner) (a : AccessView) (kept : Kept) (accesses : List RegAccess) (came : List ℕ) (n : Option ℕ) (m0 m : BenchState) (f : IsFlying p a kept accesses came m0 m) (enough : AtLeast a.came n) where
  abbrev t0 : TargetState
  t0 = target_of m0.probe

  abbrev w : World
  w = start_world t0 n

  pub front_none : NoneStops t0 [] f.front
  front_none = passing_stops p t0 f.front f.fresh (askable_first f.front f.back (subst AreAskable f.calls f.askable)) (pass_front t0 (issued_entries p t0 f.front) f.part (subst (Passes t0) f.made_is f.on.passes))

  front_enough : AtLeast (length f.front) n
  front_enough = subst (λ (k : ℕ). AtLeast k n) f.came_is enough

  front_whole : stop w f.front ≡ None
  front_whole = front_none.stops n front_enough

  is_performed : HasPerformed (issued_entries p t0 a.asks.calls) a.confirmed (began m0 n) m
  is_performed = has_at (issued_entries p t0 a.asks.calls) f.made (f.flying ++ []) a.confirmed n m0 m f.on.are f.on.weighty f.confirmed f.on.work f.on.target

  is_good : first_fault t0 (take a.confirmed (issued_entries p t0 a.asks.calls)) ≡ None
  is_good =
      (λ j. first_fault t0 (take (sym f.confirmed j) (f.on.are j)))
      ∙ ap (first_fault t0) (take-append_seam f.made (f.flying ++ []))
      ∙ pass_none t0 f.made f.on.passes

  made_first : take a.confirmed (issued_entries p t0 a.asks.calls) ≡ f.made
  made_first = (λ j. take (sym f.confirmed j) (f.on.are j)) ∙ take-append_seam f.made (f.flying ++ [])

  is_work : grown_since (began m0 n) m ≡ weight_in t0 (take a.confirmed (issued_entries p t0 a.asks.calls))
  is_work = (let w = f.on.work in let s = ap (weight_in t0) made_first in omega (arith, w, s))

  is_own : StayWithin t0 a.asks.calls (take a.confirmed (issued_entries p t0 a.asks.calls))
  is_own =
      subst (StayWithin t0 a.asks.calls) (sym made_first) (stay_passing p t0 a.asks.calls f.made (f.flying ++ []) f.fresh f.askable f.on.are f.on.passes)

  is_issued : a.issued ≡ length (issued_entries p t0 a.asks.calls)
  is_issued =
      let all = ap length f.on.are in
      let split = length-append f.made (f.flying ++ []) in
      let rest = ap length (append-nil f.flying) in
      let sum = f.issued_is in
      omega (arith, all, split, rest, sum)

  pub is_skipped : a.skipped ≡ skips w a.asks.calls
  is_skipped =
      let e = append_skips w f.front f.back front_whole in
      let z = none_skipped (world_after w f.front) f.back f.mild in
      let u = whole_skips w f.front front_whole in
      let k = f.skipped_is in
      let c : skips w a.asks.calls ≡ skips w (f.front ++ f.back) = ap (skips w) f.calls in
      omega (arith, e, z, u, k, c)

  is_calm : is_settled a.asks.calls ≡ true → Agree (target_of m.probe) (world_after w a.asks.calls).target
  is_calm settled =
      let c = f.calm settled in
      let all : a.asks.calls ≡ f.front = f.calls ∙ ap (λ (l : List Ask). f.front ++ l) c.0 ∙ append-nil f.front in
      let made : issued_entries p t0 a.asks.calls ≡ f.made = f.on.are ∙ ap (λ (l : List Entry). f.made ++ (l ++ [])) c.1 ∙ append-nil f.made in
      let none : NoneFaults t0 [] a.asks.calls = subst (NoneFaults t0 []) (sym all) front_none.none in
      let here : Agree (alone_after t0 [] a.asks.calls) (target_after t0 (issued_entries p t0 a.asks.calls)) = journal_agrees p t0 a.asks.calls f.fresh f.askable none settled in
      let target : target_after t0 (issued_entries p t0 a.asks.calls) ≡ target_of m.probe = ap (target_after t0) made ∙ sym f.on.target in
      let alone_is : (world_after w a.asks.calls).target ≡ alone_after t0 [] a.asks.calls = after_alone t0 [] n a.asks.calls none (subst (λ (l : List Ask). AtLeast (length l) n) (sym all) front_enough) in
      agree_sym _ _ (subst (λ (t : TargetState). Agree t (target_of m.probe)) (sym alone_is) (subst (Agree (alone_after t0 [] a.asks.calls)) target here))

  pub open_stands : StandsOpen (issued_entries p t0 a.asks.calls) a (began m0 n) m
  open_stands = record { issued = is_issued; performed = is_performed; work = is_work; good = is_good; own = is_own; retries = f.on.retries; idle_cycles = f.on.idle_cycles; skipped = is_skipped; settled = is_calm }

  came_length : length came ≡ a.came
  came_length = ap length f.came_are ∙ count_of (start_world t0 None) f.front (front_none.stops None tt) ∙ sym f.came_is

  pub came_stands : (length came ≡ a.came) × (take a.came (results w a.asks.calls) ≡ came)
  came_stands =
      let first : results w f.front ≡ came = whole_results w f.front front_whole ∙ sym f.came_are in
      let split : results w a.asks.calls ≡ came ++ results (world_after w f.front) f.back = ap (results w) f.calls ∙ append_results w f.front f.back front_whole ∙ ap (λ (l : List ℕ). l ++ results (world_after w f.front) f.back) first in
      (came_length, (λ j. take (sym came_length j) (split j)) ∙ take-append_seam came (results (world_after w f.front) f.back))
