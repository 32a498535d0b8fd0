-- Where the calls of an access stop whose flight was cut.
use Rattle.std.proofs.Common.{◌≡◌, ◌⊎◌, inl, inr, ◌∙◌, ℕ, zero, suc, ◌+◌, ◌-◌, ◌<◌, ◌≤◌, Bool, true, false, cond, List, [], ◌∷◌, ◌++◌, length, slice_get, IfSome, Option, Some, None, refl, sym, ap, subst, arith, append_assoc, length-append}
use Rattle.std.proofs.lemmas.Bool.{cases_lt}
use Rattle.target_machine.specs.Lists.{after}
use Rattle.target_machine.specs.State.{TargetState}
use Rattle.target_calls.specs.Asks.{is_forgiving, is_settled}
use Rattle.target_calls.specs.Journal.{Entry, lines_before, target_after}
use Rattle.target_calls.specs.World.{AtLeast, start_world, stop}
use Rattle.target_calls.specs.declared.calls.Ask.{Ask}
use Rattle.target_calls.proofs.CallLists.{results_take}
use Rattle.target_calls.proofs.WorldLemmas.{front_first}
use Rattle.access_regs.specs.Journal.{actions_of, entries_at, finish, finish_of, issue_of, issued_entries, issued_from, kept_from, numbered_entries, steps_at}
use Rattle.access_regs.specs.Kept.{Kept, nothing_kept}
use Rattle.access_regs.specs.Stops.{StaysThere, StopsThere, world_at}
use Rattle.access_regs.proofs.Joins.{journal_joins}
use Rattle.access_regs.proofs.Seams.{InFirst, InSecond, seam_in}
use Rattle.access_regs.proofs.StopLists.{fault_stops, lines_own, numbered_unit, wait_stops}
use Rattle.access_calls.specs.Growing.{IsAfter}
use Rattle.access_calls.specs.Numbers.{HasNumbers, lines_at}
use Rattle.access_calls.specs.declared.stop.Report.{Report}
use Rattle.flight_laws.specs.Flights.{IsCutAt}
use Rattle.flight_laws.specs.Stopping.{CameBefore, CameConfirmed, ResultsStay, StopsAtFault, StopsAtWait}
use Rattle.access_regs.specs.declared.planner.Planner.{Planner}
use Rattle.access_regs.proofs.Lists.{not_settling}

-- the entry after the first ones
pub entry_at : (front : List Entry) (e : Entry) (more : List Entry) → slice_get (front ++ e ∷ more) (length front) ≡ Some e
entry_at [] e more = refl
entry_at (x ∷ front) e more = entry_at front e more

-- the lines before a cut are those before its entry
pub lines_cut : (entries : List Entry) (t : TargetState) (asks : List Ask) (skipped lines : ℕ) (r : Report) (cut : IsCutAt entries r.confirmed t) → HasNumbers entries asks skipped lines r → lines ≡ lines_before cut.entry
lines_cut entries t asks skipped lines r cut numbers =
    ap (λ x. x.lines) numbers.numbers
    ∙ (λ j. lines_at (slice_get (cut.is j) (sym cut.at j)))
    ∙ ap lines_at (entry_at cut.front cut.entry cut.more)

pub stops_at_fault : StopsAtFault
stops_at_fault p t asks r skipped lines n fresh ok at numbers enough =
    let cut = at.cut in
    let s : StopsThere 0 t [] asks cut.entry = fault_stops p t asks cut.front cut.entry cut.more fresh ok cut.is cut.passes at.bad at.strict in
    let same : lines ≡ s.at =
    lines_cut (issued_entries p t asks) t asks skipped lines r cut numbers
    ∙ ap (λ (x : Bool). cond x cut.entry.unit (cut.entry.unit - 1)) (not_settling cut.entry.part s.own)
    ∙ (let u = s.unit in omega (arith, u)) in
    s.stops n (subst (λ (k : ℕ). AtLeast k n) same enough) ∙ (let next : suc s.at ≡ lines + 1 = omega (arith, same) in ap Some next)

pub stops_at_wait : StopsAtWait
stops_at_wait p t asks r skipped lines fresh ok cut numbers =
    let s : StaysThere 0 t [] asks cut.entry = wait_stops p t asks cut.front cut.entry cut.more fresh ok cut.is cut.passes in
    let same : lines ≡ s.at = lines_cut (issued_entries p t asks) t asks skipped lines r cut numbers ∙ s.lines ∙ omega arith in
    by_stop s.at s.stops same
  where
    by_stop : (k : ℕ) → (stop (world_at t [] (Some k)) asks ≡ Some (suc k)) ⊎ ((stop (world_at t [] (Some k)) asks ≡ None) × ((k ≡ length asks) × (is_settled asks ≡ true))) → lines ≡ k
        → (stop (start_world t (Some lines)) asks ≡ Some (lines + 1)) ⊎ ((stop (start_world t (Some lines)) asks ≡ None) × ((lines ≡ length asks) × (is_settled asks ≡ true)))
    by_stop k (inl h) same = inl (ap (λ (i : ℕ). stop (start_world t (Some i)) asks) same ∙ h ∙ (let next : suc k ≡ lines + 1 = omega (arith, same) in ap Some next))
    by_stop k (inr h) same = inr (ap (λ (i : ℕ). stop (start_world t (Some i)) asks) same ∙ h.0, (same ∙ h.1.0, h.1.1))

-- ---- lines of entries after others

-- all lines of so many units come before each entry of later ones
pub lines_from : (p : Planner) (n : ℕ) (k : Kept) (u : TargetState) (asks : List Ask) (front : List Entry) (e : Entry) (more : List Entry) → issued_from p n k u asks ≡ front ++ e ∷ more → n ≤ lines_before e
lines_from p n k u [] [] e more is = absurd (cc)
lines_from p n k u [] (x ∷ front) e more is = absurd (cc)
lines_from p n k u (ask ∷ asks) front e more is =
    by_seam (seam_in (entries_at p n u k c) rest front e more is)
    (λ back h. (let low = lines_from p (n + 1) (finish_of p u k c).kept (after u (actions_of (steps_at p u k c))) asks back e more h in omega (arith, low)))
  where
    c : Ask
    c = ask

    rest : List Entry
    rest = issued_from p (n + 1) (finish_of p u k ask).kept (after u (actions_of (steps_at p u k ask))) asks

    by_half : (more' : List Entry) → InFirst (numbered_entries n (is_forgiving ask) (issue_of p u k ask).steps) front e ⊎ InSecond (numbered_entries n (is_forgiving ask) (issue_of p u k ask).steps) (numbered_entries (n + 1) false (finish_of p u k ask).steps) front e more' → n ≤ lines_before e
    by_half more' (inl i) = (let x = lines_own n e (numbered_unit n (is_forgiving ask) (issue_of p u k ask).steps front e i.more i.is) in omega (arith, x))
    by_half more' (inr i) = (let x = lines_own (n + 1) e (numbered_unit (n + 1) false (finish_of p u k ask).steps i.back e more' i.is) in omega (arith, x))

    by_seam : InFirst (entries_at p n u k ask) front e ⊎ InSecond (entries_at p n u k ask) (issued_from p (n + 1) (finish_of p u k ask).kept (after u (actions_of (steps_at p u k ask))) asks) front e more
        → ((back : List Entry) → issued_from p (n + 1) (finish_of p u k ask).kept (after u (actions_of (steps_at p u k ask))) asks ≡ back ++ e ∷ more → n ≤ lines_before e) → n ≤ lines_before e
    by_seam (inl i) again = by_half i.more (seam_in (numbered_entries n (is_forgiving ask) (issue_of p u k ask).steps) (numbered_entries (n + 1) false (finish_of p u k ask).steps) front e i.more i.is)
    by_seam (inr i) again = again i.back i.is

pub came_before : CameBefore
came_before p t front back c low cut = by_seam (seam_in (issued_entries p t front) rest cut.front cut.entry cut.more (sym split ∙ cut.is))
  where
    rest : List Entry
    rest = issued_from p (0 + length front) (kept_from p nothing_kept t front) (target_after t (issued_entries p t front)) back

    split : issued_entries p t (front ++ back) ≡ issued_entries p t front ++ issued_from p (0 + length front) (kept_from p nothing_kept t front) (target_after t (issued_entries p t front)) back
    split = journal_joins p 0 nothing_kept t front back

    by_seam : InFirst (issued_entries p t front) cut.front cut.entry ⊎ InSecond (issued_entries p t front) (issued_from p (0 + length front) (kept_from p nothing_kept t front) (target_after t (issued_entries p t front)) back) cut.front cut.entry cut.more
        → length front ≤ lines_before cut.entry
    by_seam (inl i) = absurd (let a = ap length i.is ∙ length-append cut.front (cut.entry ∷ i.more) in let b = cut.at in omega (arith, a, b, low))
    by_seam (inr i) = (let a = lines_from p (0 + length front) (kept_from p nothing_kept t front) (target_after t (issued_entries p t front)) back i.back cut.entry cut.more i.is in omega (arith, a))

-- ---- lines of entries of the first calls

no_steps : (b : Bool) (n : ℕ) (k : Kept) (back : List Entry) (e : Entry) (more : List Entry) → b ≡ false → numbered_entries n false (finish b k).steps ≡ back ++ e ∷ more → ⊥
no_steps true n k back e more not is = cc
no_steps false n k [] e more not is = cc
no_steps false n k (x ∷ back) e more not is = cc

-- fewer lines than there are units come before each of their entries, where no settling follows the last
lines_to : (p : Planner) (n : ℕ) (k : Kept) (u : TargetState) (asks : List Ask) (front : List Entry) (e : Entry) (more : List Entry) → is_settled asks ≡ false → issued_from p n k u asks ≡ front ++ e ∷ more → lines_before e < n + length asks
lines_to p n k u [] front e more not is = absurd (cc)
lines_to p n k u (ask ∷ []) front e more not is =
    by_seam (seam_in (entries_at p n u k ask) [] front e more is)
  where
    by_half : (more' : List Entry) → InFirst (numbered_entries n (is_forgiving ask) (issue_of p u k ask).steps) front e ⊎ InSecond (numbered_entries n (is_forgiving ask) (issue_of p u k ask).steps) (numbered_entries (n + 1) false (finish_of p u k ask).steps) front e more' → lines_before e < n + length (ask ∷ [])
    by_half more' (inl i) = (let x = lines_own n e (numbered_unit n (is_forgiving ask) (issue_of p u k ask).steps front e i.more i.is) in omega (arith, x))
    by_half more' (inr i) = absurd (no_steps ask.settled (n + 1) (issue_of p u k ask).kept i.back e more' not i.is)

    by_seam : InFirst (entries_at p n u k ask) front e ⊎ InSecond (entries_at p n u k ask) [] front e more → lines_before e < n + length (ask ∷ [])
    by_seam (inl i) = by_half i.more (seam_in (numbered_entries n (is_forgiving ask) (issue_of p u k ask).steps) (numbered_entries (n + 1) false (finish_of p u k ask).steps) front e i.more i.is)
    by_seam (inr i) = absurd (none_there i.back i.is)
      where
        none_there : (back : List Entry) → [] ≡ back ++ e ∷ more → ⊥
        none_there [] h = cc
        none_there (x ∷ back) h = cc
lines_to p n k u (ask ∷ next ∷ asks) front e more not is =
    by_seam (seam_in (entries_at p n u k ask) rest front e more is)
    (λ back h. (let low = lines_to p (n + 1) (finish_of p u k ask).kept (after u (actions_of (steps_at p u k ask))) (next ∷ asks) back e more not h in omega (arith, low)))
  where
    rest : List Entry
    rest = issued_from p (n + 1) (finish_of p u k ask).kept (after u (actions_of (steps_at p u k ask))) (next ∷ asks)

    by_half : (more' : List Entry) → InFirst (numbered_entries n (is_forgiving ask) (issue_of p u k ask).steps) front e ⊎ InSecond (numbered_entries n (is_forgiving ask) (issue_of p u k ask).steps) (numbered_entries (n + 1) false (finish_of p u k ask).steps) front e more' → lines_before e < n + length (ask ∷ next ∷ asks)
    by_half more' (inl i) = (let x = lines_own n e (numbered_unit n (is_forgiving ask) (issue_of p u k ask).steps front e i.more i.is) in omega (arith, x))
    by_half more' (inr i) = (let x = lines_own (n + 1) e (numbered_unit (n + 1) false (finish_of p u k ask).steps i.back e more' i.is) in omega (arith, x))

    by_seam : InFirst (entries_at p n u k ask) front e ⊎ InSecond (entries_at p n u k ask) (issued_from p (n + 1) (finish_of p u k ask).kept (after u (actions_of (steps_at p u k ask))) (next ∷ asks)) front e more
        → ((back : List Entry) → issued_from p (n + 1) (finish_of p u k ask).kept (after u (actions_of (steps_at p u k ask))) (next ∷ asks) ≡ back ++ e ∷ more → lines_before e < n + length (ask ∷ next ∷ asks)) → lines_before e < n + length (ask ∷ next ∷ asks)
    by_seam (inl i) again = by_half i.more (seam_in (numbered_entries n (is_forgiving ask) (issue_of p u k ask).steps) (numbered_entries (n + 1) false (finish_of p u k ask).steps) front e i.more i.is)
    by_seam (inr i) again = again i.back i.is

-- the entry at a place of a list, and those around it
record At (xs : List Entry) (i : ℕ) : Type 0 where
  front : List Entry
  entry : Entry
  more : List Entry
  is : xs ≡ front ++ entry ∷ more
  at : length front ≡ i

at_place : (xs : List Entry) (i : ℕ) → i < length xs → At xs i
at_place [] i less = absurd (omega (arith, less))
at_place (x ∷ xs) zero less = record { front = []; entry = x; more = xs; is = refl; at = refl }
at_place (x ∷ xs) (suc i) less =
    let a = at_place xs i (omega (arith, less)) in
    record { front = x ∷ a.front; entry = a.entry; more = a.more; is = ap (λ (l : List Entry). x ∷ l) a.is; at = (let n = a.at in omega (arith, n)) }

pub came_confirmed : CameConfirmed
came_confirmed p t front back confirmed not later = by_place (cases_lt confirmed (length (issued_entries p t front)))
  where
    split : issued_entries p t (front ++ back) ≡ issued_entries p t front ++ issued_from p (0 + length front) (kept_from p nothing_kept t front) (target_after t (issued_entries p t front)) back
    split = journal_joins p 0 nothing_kept t front back

    by_place : (confirmed < length (issued_entries p t front)) ⊎ (length (issued_entries p t front) ≤ confirmed) → length (issued_entries p t front) ≤ confirmed
    by_place (inr high) = high
    by_place (inl less) =
        let a = at_place (issued_entries p t front) confirmed less in
        let others : List Entry = issued_from p (0 + length front) (kept_from p nothing_kept t front) (target_after t (issued_entries p t front)) back in
        let there : issued_entries p t (front ++ back) ≡ a.front ++ a.entry ∷ (a.more ++ others) = split ∙ ap (λ (l : List Entry). l ++ others) a.is ∙ append_assoc a.front (a.entry ∷ a.more) others in
        let after_it : length front ≤ lines_before a.entry =
        subst (λ (x : Option Entry). IfSome x (IsAfter (length front))) ((λ j. slice_get (there j) (sym a.at j)) ∙ entry_at a.front a.entry (a.more ++ others)) later in
        let before_it : lines_before a.entry < 0 + length front = lines_to p 0 nothing_kept t front a.front a.entry a.more not a.is in
        absurd (omega (arith, after_it, before_it))

pub results_stay : ResultsStay
results_stay p t asks r skipped lines n fresh ok cut numbers enough =
    let s : StaysThere 0 t [] asks cut.entry = wait_stops p t asks cut.front cut.entry cut.more fresh ok cut.is cut.passes in
    let same : s.at ≡ lines = sym (lines_cut (issued_entries p t asks) t asks skipped lines r cut numbers ∙ s.lines ∙ omega arith) in
    let le : lines ≤ length asks = (let w = s.within in omega (arith, w, same)) in
    (le, front_first (start_world t n) asks lines enough ∙ sym (results_take (start_world t None) asks lines))
