-- The proof of the law `stands`: an access has come so far as the contract of accesses says.
-- These are lemmas, which a reader of definitions may skip.
use Rattle.std.specs.Prelude.{◌≡◌, ℕ, zero, suc, ◌+◌, ◌-◌, ◌<◌, ◌≤◌, Bool, true, false, List, [], ◌∷◌, ◌++◌, length, take, drop, slice_index, Option, Some, None, refl}
use Rattle.std.specs.List.{AllByRecursion}
use Rattle.std.proofs.Common.{◌∙◌, sym, ap, subst, arith, append-nil, append_assoc, length-append}
use Rattle.std.proofs.Math.Seq.{take-length, take-append_seam, take-append-add}
use Rattle.std.proofs.lemmas.List.{take-append-drop, take-append-le, length-take-le, length-map}
use Rattle.target_machine.specs.Plain.{Action, Makes}
use Rattle.target_machine.specs.State.{TargetState}
use Rattle.target_machine.specs.declared.access.RegAccess.{RegAccess}
use Rattle.probe_core.specs.Bench.{BenchState}
use Rattle.probe_core.specs.Bench.{Reported as BenchReported}
use Rattle.probe_core.specs.Probe.{target_of}
use Rattle.target_calls.specs.Asks.{ForgiveNothing, is_forgiving, is_settled}
use Rattle.target_calls.specs.Journal.{Entry, actions_in, target_after}
use Rattle.target_calls.specs.declared.calls.Ask.{Ask}
use Rattle.access_regs.specs.Entries.{kept_by}
use Rattle.access_regs.specs.Journal.{issued_entries, issued_from, kept_from, making}
use Rattle.access_regs.specs.Kept.{Kept, nothing_kept}
use Rattle.access_regs.proofs.Joins.{journal_joins}
use Rattle.access_calls.specs.Issued.{kept_of}
use Rattle.access_calls.specs.Left.{IsLeft}
use Rattle.access_calls.specs.Reported.{AccessView, began}
use Rattle.access_calls.specs.Standing.{AccessStands, WhereObservable}
use Rattle.access_calls.specs.declared.issued.Issued.{Issued}
use Rattle.access_calls.specs.declared.stop.Stop.{Stop}
use Rattle.flight_laws.specs.Ending.{BegunAt, IsBegun}
use Rattle.flight_laws.specs.Flying.{IsFlying}
use Rattle.flight_laws.proofs.EndLemmas.{begun_stands}
use Rattle.packed_access.specs.Begun.{HasBegun, IsGivenAt, IsIssuing, IsOpenAt, IsSince}
use Rattle.packed_access.specs.Logs.{LogState, reported_by}
use Rattle.packed_access.specs.Marks.{unmarked_same}
use Rattle.access_regs.specs.declared.planner.Planner.{Planner}

-- a call of this number that forgives nothing
pub record IsMildAt (calls : List Ask) (index : ℕ) : Type 0 where
  pub asks : List Ask
  pub ask : Ask
  pub more : List Ask
  pub are : calls ≡ asks ++ ask ∷ more
  pub at : length asks ≡ index
  pub mild : is_forgiving ask ≡ false

-- without the first call
mild_tail : (c : Ask) (cs : List Ask) (i : ℕ) → IsMildAt (c ∷ cs) (suc i) → IsMildAt cs i
mild_tail c cs i h = by_asks h.asks h.are h.at
  where
    by_asks : (xs : List Ask) → c ∷ cs ≡ xs ++ h.ask ∷ h.more → length xs ≡ suc i → IsMildAt cs i
    by_asks [] are at = absurd (omega (arith, at))
    by_asks (x ∷ xs) are at = record { asks = xs; ask = h.ask; more = h.more; are = (cc); at = omega (arith, at); mild = h.mild }

-- the first call forgives nothing, where the call of number 0 does not
mild_head : (c : Ask) (cs : List Ask) → IsMildAt (c ∷ cs) 0 → is_forgiving c ≡ false
mild_head c cs h = by_asks h.asks h.are h.at
  where
    by_asks : (xs : List Ask) → c ∷ cs ≡ xs ++ h.ask ∷ h.more → length xs ≡ 0 → is_forgiving c ≡ false
    by_asks [] are at = (let same : c ≡ h.ask = cc in ap is_forgiving same ∙ h.mild)
    by_asks (x ∷ xs) are at = absurd (omega (arith, at))

-- calls from a number on forgive nothing, where none of them does
pub mild_from : (calls : List Ask) (n : ℕ) → ((i : ℕ) → n ≤ i → i < length calls → IsMildAt calls i) → ForgiveNothing (drop n calls)
mild_from [] zero h = tt
mild_from [] (suc n) h = tt
mild_from (c ∷ cs) zero h = (
  mild_head c cs (h 0 (omega arith) (omega arith)),
  mild_from cs 0 (λ i low less. mild_tail c cs i (h (suc i) (omega arith) (omega (arith, less)))),
)
mild_from (c ∷ cs) (suc n) h = mild_from cs n (λ i low less. mild_tail c cs i (h (suc i) (omega (arith, low)) (omega (arith, less))))

-- a list whose first entries are these, and that is so long, begins with them
pub begins_with : {A : Type 0} → (xs ys made more : List A) → xs ++ ys ≡ made ++ more → length xs ≤ length made → made ≡ xs ++ take (length made - length xs) ys
begins_with xs ys made more same le =
    sym (take-append_seam made more) ∙ ap (take (length made)) (sym same)
    ∙ (let sum : length made ≡ length xs + (length made - length xs) = omega (arith, le) in ap (λ n. take n (xs ++ ys)) sum)
    ∙ take-append-add xs ys (length made - length xs)

-- no accesses are made by no entries
pub none_flying : (flying : List Entry) → actions_in flying ≡ [] → flying ≡ []
none_flying [] h = refl
none_flying (e ∷ es) h = absurd (cc)

module _ (p : Planner) (bench : BenchReported) (state : Option BenchState) (log : LogState) (sent got : List ℕ) (kept : Kept) (accesses : List RegAccess)
    (m0 m : BenchState) (h : IsOpenAt p log kept accesses m0 m) where
  -- the target when the access began
  abbrev t0 : TargetState
  t0 = target_of m0.probe

  -- how far the journal of the calls is issued
  abbrev i : IsIssuing p log accesses [] m0 m
  i = h.issuing

  -- no more calls came than were asked
  within : log.came ≤ length log.calls
  within = (let a = i.in_order in let b = i.within in omega (arith, a, b))

  -- the calls are those that came, and then the others
  split : log.calls ≡ take log.came log.calls ++ drop log.came log.calls
  split = sym (take-append-drop log.came log.calls)

  -- the journal is that of the calls that came, and then that of the others
  journal_is_joined : issued_entries p t0 log.calls ≡ issued_entries p t0 (take log.came log.calls)
      ++ issued_from p (0 + length (take log.came log.calls)) (kept_from p nothing_kept t0 (take log.came log.calls))
      (target_after t0 (issued_entries p t0 (take log.came log.calls))) (drop log.came log.calls)
  journal_is_joined = ap (issued_entries p t0) split ∙ journal_joins p 0 nothing_kept t0 (take log.came log.calls) (drop log.came log.calls)

  -- a call that has not come forgives nothing
  mild_at : (index : ℕ) → log.came ≤ index → index < length log.calls → IsMildAt log.calls index
  mild_at index low less =
      let g = i.given index low (let w = h.whole_is in omega (arith, w, less)) in
      record { asks = g.asks; ask = g.ask; more = g.more; are = g.are; at = g.at; mild = g.mild }

  -- after a `finish` all calls came, and no entry is in flight
  calm_here : is_settled log.calls ≡ true → (drop log.came log.calls ≡ []) × (i.flying ≡ [])
  calm_here settled = (
    ap (λ n. drop n log.calls) (h.calm settled).0 ∙ drop_all log.calls,
    none_flying i.flying (i.sending.on.flight ∙ ap making (h.calm settled).1),
  )
    where
      drop_all : (xs : List Ask) → drop (length xs) xs ≡ []
      drop_all [] = refl
      drop_all (x ∷ xs) = drop_all xs

  -- the calls that came have all their entries among those that are confirmed, a settling after the last one too
  all_confirmed : is_settled log.calls ≡ true → length (issued_entries p (target_of m0.probe) (take log.came log.calls)) ≤ log.confirmed
  all_confirmed settled =
      let e = ap (λ (n : ℕ). length (issued_entries p t0 (take n log.calls))) (h.calm settled).0 in
      let f = ap (λ (l : List Ask). length (issued_entries p t0 l)) (take-length log.calls) in
      let j = ap length (i.sending.on.are ∙ ap (λ (l : List Entry). i.sending.made ++ (l ++ [])) (calm_here settled).1 ∙ append-nil i.sending.made) in
      let c = i.sending.confirmed_is in
      omega (arith, e, f, j, c)

  -- the calls that came have all their entries among those that are confirmed, with a `finish` or without
  came_by : (b : Bool) → is_settled log.calls ≡ b → length (issued_entries p (target_of m0.probe) (take log.came log.calls)) ≤ log.confirmed
  came_by true settled = all_confirmed settled
  came_by false unsettled = (let a = i.came_made in let e = ap (λ (l : List Ask). length (issued_entries p t0 (take log.came l))) (unmarked_same log.calls unsettled) in
      omega (arith, a, e))

  -- the calls that came have all their entries among those that are confirmed
  pub came_there : length (issued_entries p (target_of m0.probe) (take log.came log.calls)) ≤ log.confirmed
  came_there = came_by (is_settled log.calls) refl

  -- an open access is as the laws of calls in flight say it
  pub open_flying : IsFlying p (reported_by bench state log sent got) kept accesses (take log.known log.results) m0 m
  open_flying = record {
    fresh = i.sending.fresh;
    askable = i.sending.askable;
    made = i.sending.made;
    flying = i.flying;
    on = i.sending.on;
    kept_is = h.kept_is;
    confirmed = i.sending.confirmed_is;
    issued_is = (let a = i.sending.confirmed_is in let b = i.count in omega (arith, a, b));
    strict = i.strict;
    front = take log.came log.calls;
    back = drop log.came log.calls;
    calls = split;
    part = take (length i.sending.made - length (issued_entries p t0 (take log.came log.calls)))
        (issued_from p (0 + length (take log.came log.calls)) (kept_from p nothing_kept t0 (take log.came log.calls))
        (target_after t0 (issued_entries p t0 (take log.came log.calls))) (drop log.came log.calls));
    made_is = begins_with _ _ i.sending.made (i.flying ++ []) (sym journal_is_joined ∙ i.sending.on.are) (let a = came_there in let b = i.sending.confirmed_is in
        omega (arith, a, b));
    came_is = sym (length-take-le log.came log.calls within);
    came_are = i.came_are;
    skipped_is = i.skipped_is;
    mild = mild_from log.calls log.came mild_at;
    calm = calm_here;
  }

-- ---- the law of the contract

-- an access, open or ended, is as the laws of calls in flight say it
since_begun : (p : Planner) (bench : BenchReported) (state : Option BenchState) (log : LogState) (sent got : List ℕ) (kept : Kept) (accesses : List RegAccess)
    (e : Option Stop) (m0 m : BenchState) →
    IsSince p e (reported_by bench state log sent got) log kept accesses m0 m →
    BegunAt p e (reported_by bench state log sent got) kept accesses (take log.known log.results) m0 m
since_begun p bench state log sent got kept accesses None m0 m h = open_flying p bench state log sent got kept accesses m0 m h
since_begun p bench state log sent got kept accesses (Some s) m0 m h = h

-- the same where its bench is observable
begun_where : (p : Planner) (x : Option BenchState) (bench : BenchReported) (state : Option BenchState) (log : LogState) (sent got : List ℕ) (kept : Kept)
    (accesses : List RegAccess) (m0 : BenchState) →
    WhereObservable x (λ m. IsSince p log.end (reported_by bench state log sent got) log kept accesses m0 m) →
    WhereObservable x (λ m. BegunAt p log.end (reported_by bench state log sent got) kept accesses (take log.known log.results) m0 m)
begun_where p None bench state log sent got kept accesses m0 h = h
begun_where p (Some m) bench state log sent got kept accesses m0 h = since_begun p bench state log sent got kept accesses log.end m0 m h

-- the same as the laws of calls in flight say it
pub is_begun : (p : Planner) (bench : BenchReported) (state : Option BenchState) (log : LogState) (sent got : List ℕ) (kept : Kept) (accesses : List RegAccess)
    (m0 : BenchState) →
    HasBegun p bench state log sent got kept accesses m0 → IsBegun p (reported_by bench state log sent got) kept accesses (take log.known log.results) m0
is_begun p bench state log sent got kept accesses m0 h = record { so = begun_where p state bench state log sent got kept accesses m0 h.so }

-- The law `stands`.
pub stands_packed : (p : Planner) (bench : BenchReported) (state : Option BenchState) (log : LogState) (sent got : List ℕ) (kept : Kept)
    (accesses : List RegAccess) (m0 : BenchState) (n : Option ℕ) →
    HasBegun p bench state log sent got kept accesses m0 → IsLeft (reported_by bench state log sent got) n →
    AccessStands (issued_entries p) (reported_by bench state log sent got) (began m0 n)
stands_packed p bench state log sent got kept accesses m0 n h left =
    begun_stands p (reported_by bench state log sent got) kept accesses (take log.known log.results) m0 n (is_begun p bench state log sent got kept accesses m0 h) left
