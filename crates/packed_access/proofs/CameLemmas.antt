-- Calls all of whose entries were made have come.
use Rattle.std.proofs.Common.{◌≡◌, ◌⊎◌, inl, inr, ◌∙◌, ℕ, suc, ◌+◌, ◌-◌, ◌<◌, ◌≤◌, Bool, true, false, List, [], ◌∷◌, ◌++◌, length, take, drop, Option, None, refl, sym, ap, subst, arith, length-append}
use Rattle.std.proofs.Math.Seq.{take-append-add, take-length}
use Rattle.std.proofs.lemmas.Bool.{cases_lt}
use Rattle.std.proofs.lemmas.List.{take-append-drop, length-take-le, length-map}
use Rattle.target_machine.specs.Fresh.{IsFresh}
use Rattle.target_machine.specs.State.{TargetState}
use Rattle.probe_core.specs.Bench.{BenchState}
use Rattle.probe_core.specs.Probe.{target_of}
use Rattle.target_calls.specs.Asks.{AreAskable, is_forgiving, is_settled, settled_last}
use Rattle.target_calls.specs.Journal.{Entry, Passes, lines_before, target_after}
use Rattle.target_calls.specs.World.{AtLeast, World, results, start_world}
use Rattle.target_calls.specs.declared.calls.Ask.{Ask}
use Rattle.target_calls.specs.declared.journal.Part.TheVariants.{Settles}
use Rattle.target_calls.proofs.CallLists.{count_of}
use Rattle.target_calls.proofs.EntryLemmas.{pass_front}
use Rattle.target_calls.proofs.MarkLemmas.{length_marked, marked_same, results_marked, stop_marked}
use Rattle.access_regs.specs.Alone.{NoneFaults, call_alone}
use Rattle.access_regs.specs.Entries.{kept_by, target_by}
use Rattle.access_regs.specs.Journal.{finish_of, issue_of, issued_entries, issued_from, kept_at, kept_from, numbered_entries, steps_of, target_at}
use Rattle.access_regs.specs.Kept.{nothing_kept}
use Rattle.access_regs.specs.Plan.{settle}
use Rattle.access_regs.specs.Stops.{NoneStops, world_at}
use Rattle.access_regs.proofs.EntryLemmas.{journal_marks, askable_first}
use Rattle.access_regs.proofs.Joins.{journal_joins}
use Rattle.access_regs.proofs.Seams.{InFirst, InSecond, seam_in}
use Rattle.access_regs.proofs.StopLists.{passing_stops}
use Rattle.access_calls.specs.Reported.{world_from}
use Rattle.flight_laws.specs.Flights.{IsCutAt}
use Rattle.flight_laws.proofs.OpenLemmas.{whole_results}
use Rattle.flight_laws.proofs.SendLemmas.{HaveCome as CallsHaveCome, first_come, settling_lines}
use Rattle.packed_access.specs.Marks.{length_unmarked, marked_unmarked, take_unmarked, unmarked_last, unmarked_same}
use Rattle.packed_access.specs.Stands.{begins_with}
use Rattle.access_regs.specs.declared.planner.Planner.{Planner}

-- what is known of the first calls, where all their entries were made: how many results they have, that these are theirs in each world
-- that answers them, and that each later entry has their lines before it
pub record HaveCome (p : Planner) (calls : List Ask) (confirmed count : ℕ) (m0 : BenchState) : Type 0 where
  pub none_stops : NoneStops (target_of m0.probe) [] (take count calls)
  pub length_is : length (results (start_world (target_of m0.probe) None) (take count calls)) ≡ count
  pub results_are : (n : Option ℕ) → AtLeast count n → take count (results (world_from m0 n) calls) ≡ results (start_world (target_of m0.probe) None) (take count calls)
  pub lines : (k : ℕ) → confirmed ≤ k → (cut : IsCutAt (issued_entries p (target_of m0.probe) calls) k (target_of m0.probe)) → count ≤ lines_before cut.entry

module _ (p : Planner) (calls : List Ask) (made more : List Entry) (confirmed count : ℕ) (m0 : BenchState) (fresh : IsFresh (target_of m0.probe)) (askable : AreAskable calls) (within : count ≤ length calls)
    (are : issued_entries p (target_of m0.probe) calls ≡ made ++ more) (passes : Passes (target_of m0.probe) made) (confirmed_is : length made ≡ confirmed) (enough : length (issued_entries p (target_of m0.probe) (take count calls)) ≤ confirmed) where
  abbrev t0 : TargetState
  t0 = target_of m0.probe

  abbrev front : List Ask
  front = take count calls

  abbrev back : List Ask
  back = drop count calls

  split : calls ≡ front ++ back
  split = sym (take-append-drop count calls)

  joined : issued_entries p t0 calls ≡ issued_entries p t0 front ++ issued_from p (0 + length front) (kept_from p nothing_kept t0 front) (target_after t0 (issued_entries p t0 front)) back
  joined = ap (issued_entries p t0) split ∙ journal_joins p 0 nothing_kept t0 front back

  made_is : made ≡ issued_entries p t0 front ++ take (length made - length (issued_entries p t0 front)) (issued_from p (0 + length front) (kept_from p nothing_kept t0 front) (target_after t0 (issued_entries p t0 front)) back)
  made_is = begins_with (issued_entries p t0 front) _ made more (sym joined ∙ are) (let a = enough in let b = confirmed_is in omega (arith, a, b))

  none : NoneStops t0 [] front
  none = passing_stops p t0 front fresh (askable_first front back (subst AreAskable split askable)) (pass_front t0 (issued_entries p t0 front) _ (subst (Passes t0) made_is passes))

  count_is : length front ≡ count
  count_is = length-take-le count calls within

  came : CallsHaveCome p calls confirmed count (results (start_world t0 None) front) m0
  came =
      first_come p calls front back _ made confirmed count (results (start_world t0 None) front) m0 fresh askable split made_is passes confirmed_is (sym count_is) refl

  pub have_come : HaveCome p calls confirmed count m0
  have_come = record { none_stops = none; length_is = came.length_is; results_are = came.results_are; lines = came.lines }

-- ---- calls with a settling after the last one, which need not be made

askable_unmarked : (calls : List Ask) → AreAskable (settled_last calls) → AreAskable calls
askable_unmarked [] h = tt
askable_unmarked (x ∷ []) h = (record { sound = h.0.sound; range = h.0.range }, tt)
askable_unmarked (x ∷ y ∷ calls) h = (h.0, askable_unmarked (y ∷ calls) h.1)

faults_marked : (t : TargetState) (large : List ℕ) (calls : List Ask) → NoneFaults t large calls → NoneFaults t large (settled_last calls)
faults_marked t large [] h = h
faults_marked t large (x ∷ []) h = h
faults_marked t large (x ∷ y ∷ calls) h = (h.0, faults_marked (call_alone t large x).next (call_alone t large x).large (y ∷ calls) h.1)

pub none_marked : (t : TargetState) (large : List ℕ) (calls : List Ask) → NoneStops t large calls → NoneStops t large (settled_last calls)
none_marked t large calls h = record {
  none = faults_marked t large calls h.none;
  stops = λ n least. stop_marked (world_at t large n) calls ∙ h.stops n (subst (λ (k : ℕ). AtLeast k n) (length_marked calls) least);
}

module _ (p : Planner) (calls : List Ask) (made more : List Entry) (confirmed : ℕ) (m0 : BenchState) (fresh : IsFresh (target_of m0.probe)) (askable : AreAskable (settled_last calls))
    (are : issued_entries p (target_of m0.probe) (settled_last calls) ≡ made ++ more) (passes : Passes (target_of m0.probe) made) (confirmed_is : length made ≡ confirmed) (enough : length (issued_entries p (target_of m0.probe) calls) ≤ confirmed) where
  abbrev u0 : TargetState
  u0 = target_of m0.probe

  settling : List Entry
  settling = numbered_entries (length calls) false (steps_of Settles (settle (kept_by p u0 calls)))

  grown : issued_entries p u0 (settled_last calls) ≡ issued_entries p u0 calls ++ numbered_entries (length calls) false (steps_of Settles (settle (kept_by p u0 calls)))
  grown = (journal_marks p u0 calls).0

  made_all : made ≡ issued_entries p u0 calls ++ take (length made - length (issued_entries p u0 calls)) (numbered_entries (length calls) false (steps_of Settles (settle (kept_by p u0 calls))))
  made_all = begins_with (issued_entries p u0 calls) _ made more (sym grown ∙ are) (omega (arith, enough, confirmed_is))

  none_there : NoneStops u0 [] calls
  none_there = passing_stops p u0 calls fresh (askable_unmarked calls askable) (pass_front u0 (issued_entries p u0 calls) _ (subst (Passes u0) made_all passes))

  all_first : take (length calls) (settled_last calls) ≡ settled_last calls
  all_first = ap (λ (n : ℕ). take n (settled_last calls)) (sym (length_marked calls)) ∙ take-length (settled_last calls)

  all_results : length (results (start_world u0 None) calls) ≡ length calls
  all_results = count_of (start_world u0 None) calls (none_there.stops None tt)

  same_results : (n : Option ℕ) → AtLeast (length calls) n → take (length calls) (results (world_from m0 n) (settled_last calls)) ≡ results (start_world u0 None) (settled_last calls)
  same_results n least =
      let w : World = world_from m0 n in
      ap (take (length calls)) (results_marked w calls ∙ whole_results w calls (none_there.stops n least))
      ∙ ap (λ (k : ℕ). take k (results (start_world u0 None) calls)) (sym all_results) ∙ take-length (results (start_world u0 None) calls)
      ∙ sym (results_marked (start_world u0 None) calls)

  later_lines : (k : ℕ) → confirmed ≤ k → (cut : IsCutAt (issued_entries p u0 (settled_last calls)) k u0) → length calls ≤ lines_before cut.entry
  later_lines k low cut = by_seam (seam_in (issued_entries p u0 calls) _ cut.front cut.entry cut.more (sym grown ∙ cut.is))
    where
      by_seam : InFirst (issued_entries p u0 calls) cut.front cut.entry ⊎ InSecond (issued_entries p u0 calls) (numbered_entries (length calls) false (steps_of Settles (settle (kept_by p u0 calls)))) cut.front cut.entry cut.more → length calls ≤ lines_before cut.entry
      by_seam (inl s) = absurd (let a = ap length s.is ∙ length-append cut.front (cut.entry ∷ s.more) in let b = cut.at in omega (arith, a, b, low, enough))
      by_seam (inr s) = (let a = settling_lines (length calls) (kept_by p u0 calls) s.back cut.entry cut.more s.is in omega (arith, a))

  come_marked : HaveCome p (settled_last calls) confirmed (length calls) m0
  come_marked = record {
    none_stops = subst (NoneStops u0 []) (sym all_first) (none_marked u0 [] calls none_there);
    length_is = ap (λ (l : List Ask). length (results (start_world u0 None) l)) all_first ∙ ap length (results_marked (start_world u0 None) calls) ∙ all_results;
    results_are = λ n least. same_results n least ∙ ap (results (start_world u0 None)) (sym all_first);
    lines = later_lines;
  }

-- all their own entries were made
pub have_come_own : (p : Planner) (calls : List Ask) (made more : List Entry) (confirmed count : ℕ) (m0 : BenchState) → IsFresh (target_of m0.probe) → AreAskable calls → count ≤ length calls →
    issued_entries p (target_of m0.probe) calls ≡ made ++ more → Passes (target_of m0.probe) made → length made ≡ confirmed → length (issued_entries p (target_of m0.probe) (take count (unmarked_last calls))) ≤ confirmed → HaveCome p calls confirmed count m0
have_come_own p calls made more confirmed count m0 fresh askable within are passes confirmed_is enough = by_mark (is_settled calls) refl
  where
    plain : take count (unmarked_last calls) ≡ take count calls → HaveCome p calls confirmed count m0
    plain same = have_come p calls made more confirmed count m0 fresh askable within are passes confirmed_is (let e = ap (λ (l : List Ask). length (issued_entries p (target_of m0.probe) l)) same in omega (arith, enough, e))

    marked : is_settled calls ≡ true → length calls ≤ count → HaveCome p calls confirmed count m0
    marked settled ge =
        let same : settled_last (unmarked_last calls) ≡ calls = marked_unmarked calls ∙ marked_same calls settled in
        let number : length (unmarked_last calls) ≡ count = (let l = length_unmarked calls in omega (arith, l, ge, within)) in
        let first : take count (unmarked_last calls) ≡ unmarked_last calls = ap (λ (n : ℕ). take n (unmarked_last calls)) (sym number) ∙ take-length (unmarked_last calls) in
        let own : length (issued_entries p (target_of m0.probe) (unmarked_last calls)) ≤ confirmed = (let e = ap (λ (l : List Ask). length (issued_entries p (target_of m0.probe) l)) first in omega (arith, enough, e)) in
        subst (λ (l : List Ask). HaveCome p l confirmed count m0) same
        (subst (λ (n : ℕ). HaveCome p (settled_last (unmarked_last calls)) confirmed n m0) number
        (come_marked p (unmarked_last calls) made more confirmed m0 fresh (subst AreAskable (sym same) askable) (ap (issued_entries p (target_of m0.probe)) same ∙ are) passes confirmed_is own))

    by_place : is_settled calls ≡ true → (count < length calls) ⊎ (length calls ≤ count) → HaveCome p calls confirmed count m0
    by_place settled (inl less) = plain (take_unmarked count calls less)
    by_place settled (inr ge) = marked settled ge

    by_mark : (b : Bool) → is_settled calls ≡ b → HaveCome p calls confirmed count m0
    by_mark true settled = by_place settled (cases_lt count (length calls))
    by_mark false unsettled = plain (ap (take count) (unmarked_same calls unsettled))

-- ---- where the result of a call is

-- the calls up to one are among so many first ones
pub take_through : (count : ℕ) (asks : List Ask) (ask : Ask) (more : List Ask) → length asks < count → take count (asks ++ ask ∷ more) ≡ asks ++ ask ∷ take (count - suc (length asks)) more
take_through count asks ask more less =
    (let sum : count ≡ length asks + suc (count - suc (length asks)) = omega (arith, less) in ap (λ (n : ℕ). take n (asks ++ ask ∷ more)) sum)
    ∙ take-append-add asks (ask ∷ more) (suc (count - suc (length asks)))

-- the last own entry of a call is among the entries of calls that begin with it
pub place_within : (p : Planner) (t : TargetState) (asks : List Ask) (ask : Ask) (more : List Ask) → length (issued_entries p t asks) + length (issue_of p (target_by p t asks) (kept_by p t asks) ask).steps ≤ length (issued_entries p t (asks ++ ask ∷ more))
place_within p t asks ask more =
    let j = ap length (journal_joins p 0 nothing_kept t asks (ask ∷ more)) in
    let own : List Entry = numbered_entries (0 + length asks) (is_forgiving ask) (issue_of p (target_by p t asks) (kept_by p t asks) ask).steps in
    let settling : List Entry = numbered_entries ((0 + length asks) + 1) false (finish_of p (target_by p t asks) (kept_by p t asks) ask).steps in
    let others : List Entry = issued_from p ((0 + length asks) + 1) (kept_at p (target_by p t asks) (kept_by p t asks) ask) (target_at p (target_by p t asks) (kept_by p t asks) ask) more in
    let a = length-append (issued_entries p t asks) ((own ++ settling) ++ others) in
    let b = length-append (own ++ settling) others in
    let c = length-append own settling in
    let d : length own ≡ length (issue_of p (target_by p t asks) (kept_by p t asks) ask).steps = length-map (issue_of p (target_by p t asks) (kept_by p t asks) ask).steps _ in
    omega (arith, j, a, b, c, d)
