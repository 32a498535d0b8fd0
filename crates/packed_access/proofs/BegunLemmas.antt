-- What is so between two calls, and in the middle of one.
use Rattle.std.proofs.Common.{◌≡◌, ◌⊎◌, inl, inr, ◌∙◌, ℕ, ◌+◌, ◌<◌, ◌≤◌, Bool, true, false, cond, List, [], ◌∷◌, ◌++◌, length, take, get_or, Option, Some, None, refl, sym, ap, subst, arith, append-nil}
use Rattle.std.proofs.Math.Seq.{take-length}
use Rattle.std.proofs.lemmas.Bool.{cases_lt}
use Rattle.std.proofs.lemmas.List.{get_or-take, get_or_past, length-take-le}
use Rattle.std.specs.Prelude.{nat_lt, slice_index}
use Rattle.target_machine.specs.declared.access.RegAccess.{RegAccess}
use Rattle.probe_core.specs.Bench.{BenchState}
use Rattle.probe_core.specs.Bench.{Reported as BenchReported}
use Rattle.probe_core.specs.Probe.{target_of}
use Rattle.target_calls.specs.Asks.{is_settled}
use Rattle.target_calls.specs.Journal.{Entry, Passes}
use Rattle.target_calls.specs.World.{AtLeast, results, stop}
use Rattle.target_calls.specs.declared.calls.Ask.{Ask}
use Rattle.access_regs.specs.Entries.{kept_by}
use Rattle.access_regs.specs.Journal.{issued_entries, making}
use Rattle.access_regs.specs.Kept.{Kept}
use Rattle.access_regs.proofs.StopLists.{passing_stops}
use Rattle.access_calls.specs.Answers.{AtCut, StopsCalls, StopsOrSettles, StopsSettling}
use Rattle.access_calls.specs.Left.{IsLeft, IsLeftAt}
use Rattle.access_calls.specs.Reported.{AccessView, began, world_from}
use Rattle.access_calls.specs.Standing.{IsCutBy, StandsAt, WhereObservable}
use Rattle.access_calls.specs.declared.stop.Report.{Report}
use Rattle.access_calls.specs.declared.stop.Stop.{Stop}
use Rattle.access_calls.specs.declared.stop.Stop.TheVariants as stops
use Rattle.access_calls.specs.declared.stop.StopCause.{StopCause}
use Rattle.access_calls.specs.declared.stop.StopCause.TheVariants.{Faulted, NoAnswer}
use Rattle.flight_laws.specs.Ending.{IsEnded, StopsBy}
use Rattle.flight_laws.proofs.EndLemmas.{begun_came, results_few}
use Rattle.packed_access.specs.Begun.{HasBegun, HasIssued, IsIssuing, IsOpenAt, IsSince, LogHasEnded, StopsAfterLines}
use Rattle.packed_access.specs.Logs.{LogState, all_confirmed, all_taken, reported_by, result_at}
use Rattle.packed_access.specs.Stands.{is_begun, none_flying}
use Rattle.access_regs.specs.declared.planner.Planner.{Planner}

-- ---- from a state where the bench is observable

pub where_same : (x : Option BenchState) (P Q : BenchState → Type 0) → ((m : BenchState) → P m → Q m) → WhereObservable x P → WhereObservable x Q
where_same None P Q f h = h
where_same (Some m) P Q f h = f m h

pub fact_of : (x : Option BenchState) (P : BenchState → Type 0) (A : Type 0) → ((m : BenchState) → P m → A) → WhereObservable x P → A
fact_of None P A f h = absurd h
fact_of (Some m) P A f h = f m h

-- there is no end: all is open
pub open_where : (p : Planner) (bench : BenchReported) (state : Option BenchState) (log : LogState) (sent got : List ℕ) (kept : Kept) (accesses : List RegAccess) (m0 : BenchState) → HasBegun p bench state log sent got kept accesses m0 → log.end ≡ None →
    WhereObservable state (λ m. IsOpenAt p log kept accesses m0 m)
open_where p bench state log sent got kept accesses m0 h none = subst (λ (e : Option Stop). WhereObservable state (λ m. IsSince p e (reported_by bench state log sent got) log kept accesses m0 m)) none h.so

pub begun_issued : (p : Planner) (bench : BenchReported) (state : Option BenchState) (log : LogState) (sent got : List ℕ) (kept : Kept) (accesses : List RegAccess) (m0 : BenchState) → HasBegun p bench state log sent got kept accesses m0 → log.end ≡ None →
    HasIssued p state log accesses [] m0
begun_issued p bench state log sent got kept accesses m0 h none =
    record { so = where_same state (λ m. IsOpenAt p log kept accesses m0 m) (λ m. IsIssuing p log accesses [] m0 m) (λ m k. k.issuing) (open_where p bench state log sent got kept accesses m0 h none) }

-- all that was asked is issued, and this is known of the registers
pub open_facts : (p : Planner) (bench : BenchReported) (state : Option BenchState) (log : LogState) (sent got : List ℕ) (kept : Kept) (accesses : List RegAccess) (m0 : BenchState) → HasBegun p bench state log sent got kept accesses m0 → log.end ≡ None →
    kept_by p (target_of m0.probe) log.calls ≡ kept
open_facts p bench state log sent got kept accesses m0 h none = fact_of state (λ m. IsOpenAt p log kept accesses m0 m) _ (λ m k. k.kept_is) (open_where p bench state log sent got kept accesses m0 h none)

pub open_calm : (p : Planner) (bench : BenchReported) (state : Option BenchState) (log : LogState) (sent got : List ℕ) (kept : Kept) (accesses : List RegAccess) (m0 : BenchState) → HasBegun p bench state log sent got kept accesses m0 → log.end ≡ None →
    is_settled log.calls ≡ true → accesses ≡ []
open_calm p bench state log sent got kept accesses m0 h none settled = fact_of state (λ m. IsOpenAt p log kept accesses m0 m) _ (λ m k. (k.calm settled).1) (open_where p bench state log sent got kept accesses m0 h none)

-- what is issued whole is so between two calls
pub issued_begun : (p : Planner) (bench : BenchReported) (state : Option BenchState) (log : LogState) (sent got : List ℕ) (kept : Kept) (accesses : List RegAccess) (m0 : BenchState) → HasIssued p state log accesses [] m0 → log.end ≡ None →
    log.whole ≡ length log.calls → kept_by p (target_of m0.probe) log.calls ≡ kept → (is_settled log.calls ≡ true → (log.came ≡ length log.calls) × (accesses ≡ [])) → HasBegun p bench state log sent got kept accesses m0
issued_begun p bench state log sent got kept accesses m0 h none whole kept_is calm =
    record {
      so = subst (λ (e : Option Stop). WhereObservable state (λ m. IsSince p e (reported_by bench state log sent got) log kept accesses m0 m)) (sym none)
          (where_same state (λ m. IsIssuing p log accesses [] m0 m) (λ m. IsOpenAt p log kept accesses m0 m) (λ m k. record { issuing = k; whole_is = whole; kept_is = kept_is; calm = calm }) h.so);
    }

-- an access that has ended
pub ended_begun : (p : Planner) (bench : BenchReported) (state : Option BenchState) (log : LogState) (sent got : List ℕ) (kept : Kept) (accesses : List RegAccess) (m0 : BenchState) (s : Stop) → LogHasEnded p s (reported_by bench state log sent got) log m0 → log.end ≡ Some s →
    HasBegun p bench state log sent got kept accesses m0
ended_begun p bench state log sent got kept accesses m0 s h is =
    record { so = subst (λ (e : Option Stop). WhereObservable state (λ m. IsSince p e (reported_by bench state log sent got) log kept accesses m0 m)) (sym is) h.so }

-- ---- no call stops

whole_stops : (p : Planner) (log : LogState) (accesses : List RegAccess) (m0 m : BenchState) (n : Option ℕ) → IsIssuing p log accesses [] m0 m → accesses ≡ [] → AtLeast (length log.calls) n → stop (world_from m0 n) log.calls ≡ None
whole_stops p log accesses m0 m n h empty enough =
    let none : h.flying ≡ [] = none_flying h.flying (h.sending.on.flight ∙ ap making empty) in
    let all : issued_entries p (target_of m0.probe) log.calls ≡ h.sending.made = h.sending.on.are ∙ ap (λ (l : List Entry). h.sending.made ++ (l ++ [])) none ∙ append-nil h.sending.made in
    (passing_stops p (target_of m0.probe) log.calls h.sending.fresh h.sending.askable (subst (Passes (target_of m0.probe)) (sym all) h.sending.on.passes)).stops n enough

pub enough_left : (bench : BenchReported) (state : Option BenchState) (log : LogState) (sent got : List ℕ) (n : Option ℕ) → log.end ≡ None → IsLeft (reported_by bench state log sent got) n → AtLeast log.came n
enough_left bench state log sent got n none left = subst (λ (e : Option Stop). IsLeftAt e log.lines log.came n) none left.so

pub none_stopped : (p : Planner) (bench : BenchReported) (state : Option BenchState) (log : LogState) (sent got : List ℕ) (accesses : List RegAccess) (m0 : BenchState) (n : Option ℕ) → HasIssued p state log accesses [] m0 → accesses ≡ [] → log.end ≡ None →
    log.came ≡ length log.calls → IsLeft (reported_by bench state log sent got) n → stop (world_from m0 n) log.calls ≡ None
none_stopped p bench state log sent got accesses m0 n h empty none came left =
    fact_of state (λ m. IsIssuing p log accesses [] m0 m) _ (λ m k. whole_stops p log accesses m0 m n k empty (subst (λ (k : ℕ). AtLeast k n) came (enough_left bench state log sent got n none left))) h.so

-- ---- where the calls stop

clash_settled : (xs : List RegAccess) → xs ≡ [] → 0 < length xs → ⊥
clash_settled [] is less = omega (arith, less)
clash_settled (x ∷ xs) is less = cc

-- where nothing settles they stop right after those that have their lines before it
pub stops_calls : (m0 : BenchState) (n : Option ℕ) (calls : List Ask) (lines : ℕ) (s : Stop) → AtCut s (λ r. is_settled calls ≡ true → ⊥) → StopsAfterLines m0 n calls lines s → StopsCalls (world_from m0 n) calls lines s
stops_calls m0 n calls lines (stops.Cut r) not h = record { so = by_cause r.cause h.so }
  where
    by_cause : (x : StopCause) → StopsBy x (world_from m0 n) calls lines → stop (world_from m0 n) calls ≡ Some (lines + 1)
    by_cause Faulted at = at
    by_cause NoAnswer (inl at) = at
    by_cause NoAnswer (inr all) = absurd (not all.1.1)
stops_calls m0 n calls lines (stops.BenchFault issued confirmed) not h = record { so = tt }
stops_calls m0 n calls lines stops.ReplyBad not h = record { so = tt }
stops_calls m0 n calls lines stops.OutOfMemory not h = record { so = tt }

-- a flight that is cut has accesses
pub stops_flushed : (p : Planner) (bench : BenchReported) (state : Option BenchState) (log : LogState) (sent got : List ℕ) (kept : Kept) (accesses : List RegAccess) (m0 : BenchState) (n : Option ℕ) (lines : ℕ) (s : Stop) → HasBegun p bench state log sent got kept accesses m0 →
    log.end ≡ None → AtCut s (λ r. 0 < length accesses) → StopsAfterLines m0 n log.calls lines s → StopsCalls (world_from m0 n) log.calls lines s
stops_flushed p bench state log sent got kept accesses m0 n lines s h none some there = stops_calls m0 n log.calls lines s (not_settled s some) there
  where
    not_settled : (s : Stop) → AtCut s (λ r. 0 < length accesses) → AtCut s (λ r. is_settled log.calls ≡ true → ⊥)
    not_settled (stops.Cut r) some = λ settled. clash_settled accesses (open_calm p bench state log sent got kept accesses m0 h none settled) some
    not_settled (stops.BenchFault issued confirmed) some = tt
    not_settled stops.ReplyBad some = tt
    not_settled stops.OutOfMemory some = tt

-- ---- results

-- a result that is known is that of its call, in each world that is left; and there is none past the calls
pub known_result : (p : Planner) (bench : BenchReported) (state : Option BenchState) (log : LogState) (sent got : List ℕ) (kept : Kept) (accesses : List RegAccess) (m0 : BenchState) (n : Option ℕ) (index : ℕ) → HasBegun p bench state log sent got kept accesses m0 →
    IsLeft (reported_by bench state log sent got) n → log.known ≤ length log.results → (index < log.known) ⊎ (length log.calls ≤ log.known) → result_at log index ≡ slice_index (results (world_from m0 n) log.calls) index
known_result p bench state log sent got kept accesses m0 n index h left le may = by_place (cases_lt index log.known)
  where
    all : List ℕ
    all = results (world_from m0 n) log.calls

    size : length (take log.known log.results) ≡ log.known
    size = length-take-le log.known log.results le

    front : take log.known (results (world_from m0 n) log.calls) ≡ take log.known log.results
    front = ap (λ (k : ℕ). take k (results (world_from m0 n) log.calls)) (sym size) ∙ begun_came p (reported_by bench state log sent got) kept accesses (take log.known log.results) m0 n (is_begun p bench state log sent got kept accesses m0 h) left

    past : log.known ≤ index → length log.calls ≤ log.known → get_or (results (world_from m0 n) log.calls) index 0 ≡ 0
    past ge few = get_or_past (results (world_from m0 n) log.calls) index 0 (let f = results_few (world_from m0 n) log.calls in omega (arith, f, ge, few))

    by_may : log.known ≤ index → (index < log.known) ⊎ (length log.calls ≤ log.known) → get_or (results (world_from m0 n) log.calls) index 0 ≡ 0
    by_may ge (inl less) = absurd (omega (arith, ge, less))
    by_may ge (inr few) = past ge few

    by_place : (index < log.known) ⊎ (log.known ≤ index) → result_at log index ≡ slice_index (results (world_from m0 n) log.calls) index
    by_place (inl less) =
        ap (λ (b : Bool). cond b (get_or log.results index 0) 0) (let e : nat_lt index log.known ≡ true = grind (arith, less) in e)
        ∙ sym (get_or-take log.known log.results index 0 less) ∙ ap (λ (xs : List ℕ). get_or xs index 0) (sym front) ∙ get_or-take log.known (results (world_from m0 n) log.calls) index 0 less
    by_place (inr ge) = ap (λ (b : Bool). cond b (get_or log.results index 0) 0) (let e : nat_lt index log.known ≡ false = grind (arith, ge) in e) ∙ sym (by_may ge may)

-- ---- a flight that came between two calls

-- the access goes on
pub begun_flushed : (p : Planner) (bench bench' : BenchReported) (state state' : Option BenchState) (log new : LogState) (sent got sent' got' : List ℕ) (kept kept' : Kept) (accesses accesses' : List RegAccess) (values : List (Option ℕ)) (m0 : BenchState) → HasBegun p bench state log sent got kept accesses m0 →
    log.end ≡ None → log.whole ≡ length log.calls → HasIssued p state' new [] [] m0 → new ≡ all_confirmed (all_taken values log) → accesses' ≡ [] → kept' ≡ kept → HasBegun p bench' state' new sent' got' kept' accesses' m0
begun_flushed p bench bench' state state' log new sent got sent' got' kept kept' accesses accesses' values m0 h none whole there is empty same =
    subst (λ (k : Kept). HasBegun p bench' state' new sent' got' k accesses' m0) (sym same)
    (subst (λ (xs : List RegAccess). HasBegun p bench' state' new sent' got' kept xs m0) (sym empty)
    (issued_begun p bench' state' new sent' got' kept [] m0 there (ap (λ (l : LogState). l.end) is ∙ none) (ap (λ (l : LogState). l.whole) is ∙ whole ∙ ap (λ (l : LogState). length l.calls) (sym is))
    (ap (λ (l : LogState). kept_by p (target_of m0.probe) l.calls) is ∙ open_facts p bench state log sent got kept accesses m0 h none)
    (λ settled. (ap (λ (l : LogState). l.came) is ∙ whole ∙ ap (λ (l : LogState). length l.calls) (sym is), refl))))

-- and no call stops
pub flushed_whole : (p : Planner) (bench' : BenchReported) (state' : Option BenchState) (log new : LogState) (sent' got' : List ℕ) (values : List (Option ℕ)) (m0 : BenchState) (n : Option ℕ) → log.end ≡ None → log.whole ≡ length log.calls → HasIssued p state' new [] [] m0 →
    new ≡ all_confirmed (all_taken values log) → IsLeft (reported_by bench' state' new sent' got') n → stop (world_from m0 n) log.calls ≡ None
flushed_whole p bench' state' log new sent' got' values m0 n none whole there is left =
    subst (λ (calls : List Ask). stop (world_from m0 n) calls ≡ None) (ap (λ (l : LogState). l.calls) is)
    (none_stopped p bench' state' new sent' got' [] m0 n there refl (ap (λ (l : LogState). l.end) is ∙ none) (ap (λ (l : LogState). l.came) is ∙ whole ∙ ap (λ (l : LogState). length l.calls) (sym is)) left)
