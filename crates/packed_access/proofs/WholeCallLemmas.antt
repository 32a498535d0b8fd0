-- The call that was asked is issued whole.
use Rattle.std.proofs.Common.{◌≡◌, ◌∙◌, ◌⊎◌, inl, inr, ℕ, ◌+◌, ◌-◌, ◌*◌, ◌/◌, ◌%◌, ◌^◌, ◌<◌, ◌≤◌, true, false, List, [], ◌∷◌, ◌++◌, length, Option, Some, None, refl, sym, ap, subst, arith, length-append}
use Rattle.packed_access.specs.Marks.{unmarked_append, unmarked_last}
use Rattle.std.proofs.Math.Nat.{zero-div, zero-mod}
use Rattle.std.proofs.lemmas.Bool.{cases_lt}
use Rattle.std.specs.Prelude.{slice_get}
use Rattle.target_machine.specs.Plain.{result_of}
use Rattle.target_machine.specs.declared.access.RegAccess.{RegAccess}
use Rattle.target_machine.specs.declared.unit.Call.{Call}
use Rattle.target_machine.specs.declared.unit.Call.TheVariants.{Access, Probe}
use Rattle.target_machine.specs.declared.unit.Unit.TheVariants as unit
use Rattle.probe_core.specs.Bench.{BenchState}
use Rattle.probe_core.specs.Bench.{Reported as BenchReported}
use Rattle.probe_core.specs.Probe.{target_of}
use Rattle.target_calls.specs.Asks.{is_forgiving, is_settled}
use Rattle.target_calls.specs.World.{results, skips, small_now, start_world}
use Rattle.target_calls.specs.declared.calls.Ask.{Ask}
use Rattle.access_regs.specs.Entries.{kept_by, target_by}
use Rattle.access_regs.specs.Journal.{issue_of}
use Rattle.access_regs.specs.Kept.{Kept}
use Rattle.access_regs.proofs.EntryLemmas.{journal_grows}
use Rattle.access_calls.specs.Standing.{WhereObservable}
use Rattle.access_calls.specs.declared.stop.Stop.{Stop}
use Rattle.flight_laws.proofs.ComeLemmas.{small_given}
use Rattle.packed_access.specs.Begun.{HasBegun, HasIssued, IsIssuing, IsOpenAt, IsSince, LogHasAsked}
use Rattle.packed_access.specs.Logs.{LogState, all_confirmed, all_issued, reported_by, result_for, with_result}
use Rattle.packed_access.proofs.ActionLemmas.{at_rest_count}
use Rattle.packed_access.proofs.AskLemmas.{asked_calm, call_whole}
use Rattle.packed_access.proofs.BegunLemmas.{where_same}
use Rattle.packed_access.proofs.CfgLemmas.{whole_before}
use Rattle.packed_access.proofs.TryCloseLemmas.{closed_at}
use Rattle.packed_access.proofs.WholeLemmas.{get_there}
use Rattle.access_regs.specs.declared.planner.Planner.{Planner}

-- ---- its AP has no large addresses: it has come with the result 0

-- where nothing lies in the flight, the calls before it have come
came_before : (p : Planner) (log : LogState) (calls : List Ask) (m0 m : BenchState) → IsIssuing p log [] [] m0 m → log.whole ≡ length calls → log.came ≡ length calls
came_before p log calls m0 m h before = by_place (cases_lt log.came log.whole)
  where
    by_place : (log.came < log.whole) ⊎ (log.whole ≤ log.came) → log.came ≡ length calls
    by_place (inl less) = absurd (let g = h.given_in log.came (omega arith) less in let a = g.0 in let b = g.1 in let k = at_rest_count p log [] m0 m h in omega (arith, a, b, k))
    by_place (inr ge) = (let o = h.in_order in omega (arith, o, ge, before))

small_came : (p : Planner) (log : LogState) (calls : List Ask) (ask : Ask) (kept : Kept) (m0 m : BenchState) → IsIssuing p log [] [] m0 m → log.calls ≡ calls ++ ask ∷ [] → log.whole + 1 ≡ length log.calls → kept_by p (target_of m0.probe) log.calls ≡ kept → ask.settled ≡ false →
    small_now (start_world (target_of m0.probe) None) calls ask ≡ true → length log.results ≡ length log.calls → IsOpenAt p (all_confirmed (with_result (all_issued log) (length calls) 0)) kept [] m0 m
small_came p log calls ask kept m0 m h are whole kept_is unmarked small long =
    let count : length log.calls ≡ length calls + 1 = ap length are ∙ length-append calls (ask ∷ []) in
    let index : length log.calls - 1 ≡ length calls = omega (arith, count) in
    let came = came_before p log calls m0 m h (omega (arith, count, whole)) in
    let added = small_given (target_of m0.probe) calls ask (whole_before p log [] calls ask m0 m h are whole) small in
    let skips_are : skips (start_world (target_of m0.probe) None) (calls ++ ask ∷ []) ≡ skips (start_world (target_of m0.probe) None) calls + 0 = (let e = added.0 in omega (arith, e)) in
    let none : log.skipped + 0 ≡ log.skipped = omega arith in
    record {
      issuing = subst (λ (l : LogState). IsIssuing p l [] [] m0 m) (λ j. record (all_confirmed (with_result (all_issued log) (index j) 0)) { skipped = none j })
          (closed_at p log calls ask 0 0 m0 m h are unmarked came added.1 skips_are long);
      whole_is = refl;
      kept_is = kept_is;
      calm = λ settled. absurd (asked_calm calls ask unmarked (subst (λ (l : List Ask). is_settled l ≡ true) are settled));
    }

-- ---- between two calls

-- an access that is open began
pub open_begun : (p : Planner) (x : Option BenchState) (P : BenchState → Type 0) (bench : BenchReported) (new : LogState) (sent got : List ℕ) (kept : Kept) (accesses : List RegAccess) (m0 : BenchState) → ((m : BenchState) → P m → IsOpenAt p new kept accesses m0 m) → WhereObservable x P → new.end ≡ None →
    HasBegun p bench x new sent got kept accesses m0
open_begun p x P bench new sent got kept accesses m0 f h none =
    record { so = subst (λ (e : Option Stop). WhereObservable x (λ m. IsSince p e (reported_by bench x new sent got) new kept accesses m0 m)) (sym none) (where_same x P (λ m. IsOpenAt p new kept accesses m0 m) f h) }

asked_known : (p : Planner) (calls : List Ask) (ask : Ask) (log : LogState) (kept k : Kept) (m0 : BenchState) → log.calls ≡ calls ++ ask ∷ [] → ask.settled ≡ false → kept_by p (target_of m0.probe) calls ≡ k → kept ≡ (issue_of p (target_by p (target_of m0.probe) calls) k ask).kept →
    kept_by p (target_of m0.probe) log.calls ≡ kept
asked_known p calls ask log kept k m0 are unmarked is here =
    ap (kept_by p (target_of m0.probe)) are ∙ (journal_grows p (target_of m0.probe) calls ask unmarked).1
    ∙ ap (λ (q : Kept). (issue_of p (target_by p (target_of m0.probe) calls) q ask).kept) is ∙ sym here

-- the call has all its entries, and comes with the flight
pub whole_begun : (p : Planner) (x y : Option BenchState) (bench : BenchReported) (old log new : LogState) (sent got : List ℕ) (k kept : Kept) (accesses accesses' : List RegAccess) (calls : List Ask) (ask : Ask) (m0 : BenchState) → LogHasAsked p x old accesses k calls ask m0 → HasIssued p y log accesses' [] m0 →
    log.calls ≡ old.calls → log.whole + 1 ≡ length log.calls → kept ≡ (issue_of p (target_by p (target_of m0.probe) calls) k ask).kept → is_forgiving ask ≡ false → false ≡ small_now (start_world (target_of m0.probe) None) calls ask →
    log.confirmed < length log.entries → length log.places ≡ length log.calls → log.end ≡ None → new ≡ all_issued log → HasBegun p bench y new sent got kept accesses' m0
whole_begun p x y bench old log new sent got k kept accesses accesses' calls ask m0 a h same whole here mild large some places none is =
    let are : log.calls ≡ calls ++ ask ∷ [] = same ∙ a.are in
    let before : log.whole ≡ length calls = (let l = ap length are ∙ length-append calls (ask ∷ []) in omega (arith, l, whole)) in
    subst (λ (l : LogState). HasBegun p bench y l sent got kept accesses' m0) (sym is)
    (subst (λ (q : Kept). HasBegun p bench y (all_issued log) sent got q accesses' m0) (sym here)
    (open_begun p y (λ m. IsIssuing p log accesses' [] m0 m) bench (all_issued log) sent got _ accesses' m0
    (λ m i. call_whole p log accesses' calls ask k m0 m i are before a.kept_is a.unmarked mild (sym large) some places) h.so none))

-- nothing gives 0
zero_lanes : (size address : ℕ) → 0 / 2 ^ (8 * (address % 4)) % 2 ^ (8 * size) ≡ 0
zero_lanes size address = ap (λ (n : ℕ). n % 2 ^ (8 * size)) (zero-div (2 ^ (8 * (address % 4)))) ∙ zero-mod (2 ^ (8 * size))

zero_result : (call : Call) → result_of call 0 ≡ 0
zero_result (Access (unit.Memory size true n address value)) = zero_lanes size address
zero_result (Access (unit.Memory size false n address value)) = refl
zero_result (Access (unit.Ap read n addr value)) = refl
zero_result (Access (unit.Dp read addr value)) = refl
zero_result (Access (unit.Poll mask value turns)) = refl
zero_result (Probe command) = refl

-- the call ended because its AP has no large addresses
pub small_begun : (p : Planner) (x y : Option BenchState) (bench : BenchReported) (old log new : LogState) (sent got : List ℕ) (k kept : Kept) (accesses accesses' : List RegAccess) (calls : List Ask) (ask : Ask) (index : ℕ) (m0 : BenchState) → LogHasAsked p x old accesses k calls ask m0 → HasIssued p y log accesses' [] m0 →
    log.calls ≡ old.calls → log.whole + 1 ≡ length log.calls → kept ≡ (issue_of p (target_by p (target_of m0.probe) calls) k ask).kept → true ≡ small_now (start_world (target_of m0.probe) None) calls ask →
    accesses' ≡ [] → length log.results ≡ length log.calls → log.end ≡ None → index + 1 ≡ length log.calls → new ≡ all_confirmed (with_result (all_issued log) index (result_for (slice_get log.calls index) 0)) → HasBegun p bench y new sent got kept accesses' m0
small_begun p x y bench old log new sent got k kept accesses accesses' calls ask index m0 a h same whole here small empty long none last is =
    let are : log.calls ≡ calls ++ ask ∷ [] = same ∙ a.are in
    let count : length log.calls ≡ length calls + 1 = ap length are ∙ length-append calls (ask ∷ []) in
    let at : index ≡ length calls = omega (arith, count, last) in
    let there : slice_get log.calls index ≡ Some ask = (λ j. slice_get (are j) (at j)) ∙ get_there calls ask [] in
    let is' : new ≡ all_confirmed (with_result (all_issued log) (length calls) 0) = is ∙ (λ j. all_confirmed (with_result (all_issued log) (at j) (result_for (there j) 0))) ∙ ap (λ (n : ℕ). all_confirmed (with_result (all_issued log) (length calls) n)) (zero_result ask.call) in
    let known : kept_by p (target_of m0.probe) log.calls ≡ kept = asked_known p calls ask log kept k m0 are a.unmarked a.kept_is here in
    subst (λ (l : LogState). HasBegun p bench y l sent got kept accesses' m0) (sym is')
    (subst (λ (xs : List RegAccess). HasBegun p bench y (all_confirmed (with_result (all_issued log) (length calls) 0)) sent got kept xs m0) (sym empty)
    (open_begun p y (λ m. IsIssuing p log [] [] m0 m) bench (all_confirmed (with_result (all_issued log) (length calls) 0)) sent got kept [] m0
    (λ m i. small_came p log calls ask kept m0 m i are whole known a.unmarked (sym small) long)
    (subst (λ (xs : List RegAccess). HasIssued p y log xs [] m0) empty h).so none))
