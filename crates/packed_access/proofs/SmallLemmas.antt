-- Which calls end because their AP has no large addresses, in each world that is left.
use Rattle.std.proofs.Common.{◌≡◌, ◌∙◌, ◌⊎◌, inl, inr, ℕ, ◌+◌, ◌<◌, ◌≤◌, Bool, true, false, ◌&&◌, List, [], ◌∷◌, ◌++◌, length, Option, Some, None, refl, sym, ap, arith, length-append}
use Rattle.std.proofs.lemmas.Bool.{cases_lt, both_ways, false_from_ne_true}
use Rattle.target_machine.specs.Plain.{call_done}
use Rattle.target_machine.specs.State.{TargetState}
use Rattle.target_machine.specs.declared.access.RegAccess.{RegAccess}
use Rattle.target_machine.specs.declared.unit.Unit.{Unit as AccessUnit}
use Rattle.probe_core.specs.Bench.{BenchState}
use Rattle.probe_core.specs.Bench.{Reported as BenchReported}
use Rattle.probe_core.specs.Probe.{target_of}
use Rattle.target_calls.specs.Asks.{is_wide, unit_ask}
use Rattle.target_calls.specs.World.{AtLeast, is_faulted, is_small_end, later_by, one_fewer, small_after, small_now, start_world, stop, world_after}
use Rattle.target_calls.specs.declared.calls.Ask.{Ask}
use Rattle.target_calls.proofs.OneCall.{one_small}
use Rattle.access_regs.specs.Alone.{NoneFaults, call_alone, alone_after, large_of_all}
use Rattle.access_regs.specs.Kept.{Kept}
use Rattle.access_regs.specs.Stops.{world_at}
use Rattle.access_regs.proofs.StopLists.{good_end, live_more}
use Rattle.access_calls.specs.Left.{IsLeft}
use Rattle.access_calls.specs.Reported.{world_from}
use Rattle.flight_laws.proofs.OpenLemmas.{after_alone, large_alone}
use Rattle.flight_laws.proofs.SmallLemmas.{NeverStops, never_narrow, never_stops}
use Rattle.packed_access.specs.Begun.{HasBegun, IsOpenAt}
use Rattle.packed_access.specs.Logs.{LogState, reported_by}
use Rattle.packed_access.proofs.BegunLemmas.{enough_left, fact_of, open_where}
use Rattle.packed_access.proofs.GoesLemmas.{least_less}
use Rattle.access_regs.specs.declared.planner.Planner.{Planner}

-- ---- from world to world

-- calls of which none ends at a fault do not stop, where all are answered
none_stop : (t : TargetState) (large : List ℕ) (n : Option ℕ) (calls : List Ask) → NoneFaults t large calls → AtLeast (length calls) n → stop (world_at t large n) calls ≡ None
none_stop t large n [] none enough = refl
none_stop t large n (c ∷ calls) none enough =
    let live = live_more n (length calls) enough in
    let good : is_faulted (call_alone t large c).end ≡ false = good_end (call_alone t large c).end none.0 in
    rw (live.0, good) (ap (later_by 1) (none_stop (call_alone t large c).next (call_alone t large c).large (one_fewer n) calls none.1 live.1))

-- a call after them ends the same in each of these worlds
small_here : (t : TargetState) (n : Option ℕ) (calls : List Ask) (ask : Ask) → NoneFaults t [] calls → AtLeast (length calls) n → small_now (start_world t n) calls ask ≡ is_small_end (call_done (alone_after t [] calls) (large_of_all t [] calls) ask.forgive ask.call).end
small_here t n calls ask none enough =
    let target = after_alone t [] n calls none enough in
    let large = large_alone t [] n calls none enough in
    one_small (start_world t n) calls ask (none_stop t [] n calls none enough) ∙ (λ j. is_small_end (call_done (target j) (large j) ask.forgive ask.call).end)

small_in : (t : TargetState) (n : Option ℕ) (calls : List Ask) (ask : Ask) → (small_now (start_world t None) calls ask ≡ true → AtLeast (length calls) n) → small_now (start_world t n) calls ask ≡ small_now (start_world t None) calls ask
small_in t n calls ask enough = by_stop (stop (start_world t n) calls) refl
  where
    whole_there : (x : Option ℕ) → stop (start_world t None) calls ≡ x → small_after x (world_after (start_world t None) calls) ask ≡ true → stop (start_world t None) calls ≡ None
    whole_there None e small = e
    whole_there (Some k) e small = absurd (cc)

    stopped : (k : ℕ) → stop (start_world t n) calls ≡ Some k → small_now (start_world t None) calls ask ≡ true → ⊥
    stopped k e small =
        let s : NeverStops t [] None calls = never_stops t [] None calls (whole_there (stop (start_world t None) calls) refl small) in
        let none : stop (start_world t n) calls ≡ None = none_stop t [] n calls s.none (enough small) in
        (let both : ◌≡◌ {A = Option ℕ} None (Some k) = sym none ∙ e in cc)

    by_stop : (x : Option ℕ) → stop (start_world t n) calls ≡ x → small_now (start_world t n) calls ask ≡ small_now (start_world t None) calls ask
    by_stop (Some k) e = ap (λ (x : Option ℕ). small_after x (world_after (start_world t n) calls) ask) e ∙ sym (false_from_ne_true (small_now (start_world t None) calls ask) (stopped k e))
    by_stop None e =
        let s : NeverStops t [] n calls = never_stops t [] n calls e in
        small_here t n calls ask s.none s.enough ∙ sym (small_here t None calls ask s.none tt)

-- ---- the call that was asked

same_seam : (xs ys : List Ask) (a b : Ask) (more more' : List Ask) → xs ++ a ∷ more ≡ ys ++ b ∷ more' → length xs ≡ length ys → (xs ≡ ys) × (a ≡ b)
same_seam [] [] a b more more' is at = (refl, (let head : a ≡ b = cc in head))
same_seam [] (y ∷ ys) a b more more' is at = absurd (omega (arith, at))
same_seam (x ∷ xs) [] a b more more' is at = absurd (omega (arith, at))
same_seam (x ∷ xs) (y ∷ ys) a b more more' is at =
    let head : x ≡ y = cc in
    let tail : xs ++ a ∷ more ≡ ys ++ b ∷ more' = cc in
    let r = same_seam xs ys a b more more' tail (omega (arith, at)) in
    ((λ j. head j ∷ r.0 j), r.1)

-- it has come where it ended so
small_came : (p : Planner) (log : LogState) (kept : Kept) (accesses : List RegAccess) (calls : List Ask) (ask : Ask) (m0 m : BenchState) → IsOpenAt p log kept accesses m0 m → log.calls ≡ calls ++ ask ∷ [] → small_now (start_world (target_of m0.probe) None) calls ask ≡ true → length calls ≤ log.came
small_came p log kept accesses calls ask m0 m h are small = by_place (cases_lt (length calls) log.came)
  where
    count : length log.calls ≡ length calls + 1
    count = ap length are ∙ length-append calls (ask ∷ [])

    by_place : (length calls < log.came) ⊎ (log.came ≤ length calls) → length calls ≤ log.came
    by_place (inl less) = omega (arith, less)
    by_place (inr le) =
        let g = h.issuing.given (length calls) le (let w = h.whole_is in let c = count in omega (arith, w, c)) in
        let same = same_seam calls g.asks ask g.ask [] g.more (sym are ∙ g.are) (sym g.at) in
        absurd (both_ways (small_now (start_world (target_of m0.probe) None) calls ask) ((λ j. small_now (start_world (target_of m0.probe) None) (same.0 j) (same.1 j)) ∙ g.large) small)

-- so it is answered in each world that is left
pub small_left : (p : Planner) (bench : BenchReported) (state : Option BenchState) (log : LogState) (sent got : List ℕ) (kept : Kept) (accesses : List RegAccess) (calls : List Ask) (ask : Ask) (m0 : BenchState) (n : Option ℕ) → HasBegun p bench state log sent got kept accesses m0 → log.end ≡ None → log.calls ≡ calls ++ ask ∷ [] →
    IsLeft (reported_by bench state log sent got) n → small_now (world_from m0 n) calls ask ≡ small_now (start_world (target_of m0.probe) None) calls ask
small_left p bench state log sent got kept accesses calls ask m0 n h none are left =
    small_in (target_of m0.probe) n calls ask
    (λ small. least_less n (length calls) log.came (fact_of state (λ m. IsOpenAt p log kept accesses m0 m) (length calls ≤ log.came) (λ m k. small_came p log kept accesses calls ask m0 m k are small) (open_where p bench state log sent got kept accesses m0 h none)) (enough_left bench state log sent got n none left))

-- only accesses of wide addresses end so
pub small_wide : (t : TargetState) (calls : List Ask) (asked : AccessUnit) (forgive : Bool) → (small_now (start_world t None) calls (unit_ask asked forgive) && is_wide asked) ≡ small_now (start_world t None) calls (unit_ask asked forgive)
small_wide t calls asked forgive = by_wide (is_wide asked) refl
  where
    and_true : (b : Bool) → (b && true) ≡ b
    and_true true = refl
    and_true false = refl

    by_wide : (b : Bool) → is_wide asked ≡ b → (small_now (start_world t None) calls (unit_ask asked forgive) && is_wide asked) ≡ small_now (start_world t None) calls (unit_ask asked forgive)
    by_wide true e = ap (λ (b : Bool). small_now (start_world t None) calls (unit_ask asked forgive) && b) e ∙ and_true _
    by_wide false e = (let none = never_narrow t calls None asked forgive e in ap (λ (b : Bool). b && is_wide asked) none ∙ sym none)
