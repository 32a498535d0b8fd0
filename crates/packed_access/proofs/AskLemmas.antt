-- A call that is asked, and one that is issued whole.
use Rattle.std.proofs.Common.{◌≡◌, ◌⊎◌, inl, inr, ◌∙◌, ℕ, zero, suc, ◌+◌, ◌-◌, ◌<◌, ◌≤◌, Bool, true, false, List, [], ◌∷◌, ◌++◌, length, take, get_or, set, map, Option, Some, None, refl, sym, ap, subst, arith, append-nil, append_assoc, length-append}
use Rattle.std.proofs.Math.Seq.{take-length}
use Rattle.std.proofs.lemmas.Bool.{cases_lt}
use Rattle.std.proofs.lemmas.List.{take-append-le, length-map}
use Rattle.std.specs.Prelude.{slice_index, slice_set}
use Rattle.target_machine.specs.State.{TargetState}
use Rattle.target_machine.specs.declared.access.RegAccess.{RegAccess}
use Rattle.probe_core.specs.Bench.{BenchState}
use Rattle.probe_core.specs.Bench.{Reported as BenchReported}
use Rattle.probe_core.specs.Probe.{target_of}
use Rattle.target_calls.specs.Asks.{IsAskable, is_forgiving, is_settled}
use Rattle.target_calls.specs.Journal.{Entry}
use Rattle.target_calls.specs.World.{results, skips, start_world, small_now}
use Rattle.target_calls.specs.declared.calls.Ask.{Ask}
use Rattle.target_calls.proofs.MarkLemmas.{settled_append}
use Rattle.access_regs.specs.Entries.{kept_by, target_by}
use Rattle.access_regs.specs.Journal.{issue_of, issued_entries, numbered_entries}
use Rattle.access_regs.specs.Kept.{Kept}
use Rattle.access_regs.proofs.EntryLemmas.{journal_grows}
use Rattle.access_calls.specs.Issued.{kept_of}
use Rattle.access_calls.specs.Reported.{AccessView}
use Rattle.access_calls.specs.Standing.{WhereObservable}
use Rattle.flight_laws.specs.Flying.{IsFlying}
use Rattle.flight_laws.specs.Sending.{IsSending}
use Rattle.flight_laws.proofs.SendLemmas.{call_sends}
use Rattle.access_calls.specs.Answers.{AtCut, StopsCalls}
use Rattle.access_calls.specs.Reported.{world_from}
use Rattle.access_calls.specs.declared.stop.Stop.{Stop}
use Rattle.access_calls.specs.declared.stop.Stop.TheVariants as stops
use Rattle.packed_access.specs.Begun.{HasBegun, HasIssued, IsGivenAt, IsIssuing, IsOpenAt, StopsAfterLines, entries_for_call}
use Rattle.packed_access.proofs.BegunLemmas.{issued_begun, open_facts, open_where, stops_calls}
use Rattle.packed_access.specs.Logs.{LogState, all_issued, log_with_call, reported_by}
use Rattle.packed_access.specs.Marks.{unmarked_append, unmarked_last}
use Rattle.packed_access.specs.Stands.{came_there, open_flying}
use Rattle.access_regs.specs.declared.planner.Planner.{Planner}

-- a place that is there stays
pub get_front : (xs ys : List ℕ) (i : ℕ) → i < length xs → get_or (xs ++ ys) i 0 ≡ get_or xs i 0
get_front [] ys i less = absurd (omega (arith, less))
get_front (x ∷ xs) ys zero less = refl
get_front (x ∷ xs) ys (suc i) less = get_front xs ys i (omega (arith, less))

module _ (p : Planner) (bench : BenchReported) (state : Option BenchState) (sent got : List ℕ) (log : LogState) (kept : Kept) (accesses : List RegAccess) (ask : Ask) (room : ℕ) (m0 m : BenchState) (h : IsOpenAt p log kept accesses m0 m)
    (ok : IsAskable ask) (unmarked : ask.settled ≡ false) (long : length log.results ≡ length log.calls) (places : length log.places ≡ length log.calls) where
  abbrev t0 : TargetState
  t0 = target_of m0.probe

  abbrev a : AccessView
  a = reported_by bench state log sent got

  flying_is : IsFlying p a kept accesses (take log.known log.results) m0 m
  flying_is = open_flying p bench state log sent got kept accesses m0 m h

  within : log.came ≤ length log.calls
  within = (let x = h.issuing.in_order in let y = h.issuing.within in omega (arith, x, y))

  same_results : take log.known (log.results ++ 0 ∷ []) ≡ take log.known log.results
  same_results = take-append-le log.known log.results (0 ∷ []) (let k = h.issuing.known_is in let w = within in omega (arith, k, w, long))

  same_first : (n : ℕ) → n ≤ length log.calls → take n (log.calls ++ ask ∷ []) ≡ take n log.calls
  same_first n le = take-append-le n log.calls (ask ∷ []) le

  journal_is : issued_entries p t0 (log.calls ++ ask ∷ []) ≡ issued_entries p t0 log.calls ++ numbered_entries (length log.calls) (is_forgiving ask) (issue_of p (target_by p t0 log.calls) (kept_by p t0 log.calls) ask).steps
  journal_is = (journal_grows p t0 log.calls ask unmarked).0

  entries_within : length log.entries ≤ length (issued_entries p t0 log.calls)
  entries_within =
      let f = flying_is in
      let l = ap length f.on.are in
      let k = length-append f.made (f.flying ++ []) in
      let n = ap length (append-nil f.flying) in
      let i = f.issued_is in
      omega (arith, l, k, n, i)

  sending_is : IsSending p (log.calls ++ ask ∷ []) log.confirmed log.came flying_is.flying (entries_for_call p t0 log.calls kept ask) accesses (take log.known (log.results ++ 0 ∷ [])) m0 m
  sending_is = subst (λ (came : List ℕ). IsSending p (log.calls ++ ask ∷ []) log.confirmed log.came flying_is.flying (entries_for_call p t0 log.calls kept ask) accesses came m0 m) (sym same_results)
      (call_sends p a kept accesses (take log.known log.results) ask m0 m flying_is ok unmarked)

  own_first : (n : ℕ) → n ≤ length log.calls → length (issued_entries p t0 (take n (unmarked_last (log.calls ++ ask ∷ [])))) ≡ length (issued_entries p t0 (take n log.calls))
  own_first n le = ap (λ (l : List Ask). length (issued_entries p t0 (take n l))) (unmarked_append log.calls ask unmarked) ∙ ap (λ (l : List Ask). length (issued_entries p t0 l)) (same_first n le)

  whole_there : length (issued_entries p t0 (take log.whole log.calls)) ≤ length log.entries
  whole_there =
      let f = flying_is in
      let l = ap length f.on.are in
      let k = length-append f.made (f.flying ++ []) in
      let n = ap length (append-nil f.flying) in
      let i = f.issued_is in
      let s = ap (λ (j : ℕ). length (issued_entries p t0 (take j log.calls))) h.whole_is ∙ ap (λ (l : List Ask). length (issued_entries p t0 l)) (take-length log.calls) in
      omega (arith, l, k, n, i, s)

  given_more : (index : ℕ) → log.came ≤ index → index < log.whole → IsGivenAt p t0 (log.calls ++ ask ∷ []) index (slice_index (log.places ++ 0 ∷ []) index)
  given_more index low less =
      let g = h.issuing.given index low less in
      let same : get_or (log.places ++ 0 ∷ []) index 0 ≡ get_or log.places index 0 = get_front log.places (0 ∷ []) index (let w = h.issuing.within in omega (arith, w, less, places)) in
      record {
        asks = g.asks;
        ask = g.ask;
        more = g.more ++ ask ∷ [];
        are = ap (λ (l : List Ask). l ++ ask ∷ []) g.are ∙ append_assoc g.asks (g.ask ∷ g.more) (ask ∷ []);
        at = g.at;
        mild = g.mild;
        large = g.large;
        place_is = (let part_is = g.place_is in omega (arith, part_is, same));
      }

  given_more_in : (index : ℕ) → log.came ≤ index → index < log.whole → (log.confirmed ≤ slice_index (log.places ++ 0 ∷ []) index) × (slice_index (log.places ++ 0 ∷ []) index < length log.entries)
  given_more_in index low less =
      let g = h.issuing.given_in index low less in
      let same : get_or (log.places ++ 0 ∷ []) index 0 ≡ get_or log.places index 0 = get_front log.places (0 ∷ []) index (let w = h.issuing.within in omega (arith, w, less, places)) in
      let g0 = g.0 in
      let g1 = g.1 in
      (omega (arith, g0, same), omega (arith, g1, same))

  pub call_asked : IsIssuing p (log_with_call log ask room) accesses (entries_for_call p t0 log.calls kept ask) m0 m
  call_asked = record {
    flying = flying_is.flying;
    sending = sending_is;
    known_is = h.issuing.known_is;
    count = (let c = flying_is.confirmed in let i = flying_is.issued_is in omega (arith, c, i));
    entries_are =
        h.issuing.entries_are
        ∙ ap (map kept_of) (sym (take-append-le (length log.entries) (issued_entries p t0 log.calls) _ entries_within) ∙ ap (take (length log.entries)) (sym journal_is));
    strict = flying_is.strict;
    in_order = h.issuing.in_order;
    within = (let w = h.issuing.within in let l = length-append log.calls (ask ∷ []) in omega (arith, w, l));
    came_made = (let c = came_there p bench state log sent got kept accesses m0 m h in let s = own_first log.came within in omega (arith, c, s));
    whole_issued = (let c = whole_there in let s = own_first log.whole h.issuing.within in omega (arith, c, s));
    came_are = same_results ∙ h.issuing.came_are ∙ ap (results (start_world t0 None)) (sym (same_first log.came within));
    skipped_is = h.issuing.skipped_is ∙ ap (skips (start_world t0 None)) (sym (same_first log.came within));
    given = given_more;
    given_in = given_more_in;
    flies = h.issuing.flies;
    few = h.issuing.few;
  }

-- ---- issued whole

pub set_here : (xs : List ℕ) (i v : ℕ) → i < length xs → get_or (set xs i v) i 0 ≡ v
set_here [] i v less = absurd (omega (arith, less))
set_here (x ∷ xs) zero v less = refl
set_here (x ∷ xs) (suc i) v less = set_here xs i v (omega (arith, less))

set_other : (xs : List ℕ) (i k v : ℕ) → k < i → get_or (set xs i v) k 0 ≡ get_or xs k 0
set_other [] i k v less = refl
set_other (x ∷ xs) zero k v less = absurd (omega (arith, less))
set_other (x ∷ xs) (suc i) zero v less = refl
set_other (x ∷ xs) (suc i) (suc k) v less = set_other xs i k v (omega (arith, less))

-- the last call of these, which forgives nothing and has large addresses where it needs them
module _ (p : Planner) (log : LogState) (accesses : List RegAccess) (calls : List Ask) (ask : Ask) (kept : Kept) (m0 m : BenchState) (h : IsIssuing p log accesses [] m0 m) (are : log.calls ≡ calls ++ ask ∷ []) (before : log.whole ≡ length calls)
    (kept_is : kept_by p (target_of m0.probe) calls ≡ kept) (unmarked : ask.settled ≡ false) (mild : is_forgiving ask ≡ false) (large : small_now (start_world (target_of m0.probe) None) calls ask ≡ false)
    (some : log.confirmed < length log.entries) (places : length log.places ≡ length log.calls) where
  abbrev u0 : TargetState
  u0 = target_of m0.probe

  count_is : length log.calls ≡ length calls + 1
  count_is = ap length are ∙ length-append calls (ask ∷ [])

  grown : issued_entries p u0 log.calls ≡ issued_entries p u0 calls ++ numbered_entries (length calls) (is_forgiving ask) (issue_of p (target_by p u0 calls) (kept_by p u0 calls) ask).steps
  grown = ap (issued_entries p u0) are ∙ (journal_grows p u0 calls ask unmarked).0

  all_there : length (issued_entries p u0 log.calls) ≡ length log.entries
  all_there =
      let l = ap length h.sending.on.are in
      let k = length-append h.sending.made (h.flying ++ []) in
      let n = ap length (append-nil h.flying) in
      let c = h.sending.confirmed_is in
      let i = h.count in
      omega (arith, l, k, n, c, i)

  steps_there : length (issued_entries p u0 calls) + length (issue_of p (target_by p u0 calls) (kept_by p u0 calls) ask).steps ≡ length log.entries
  steps_there =
      let l = ap length grown in
      let k = length-append (issued_entries p u0 calls) (numbered_entries (length calls) (is_forgiving ask) (issue_of p (target_by p u0 calls) (kept_by p u0 calls) ask).steps) in
      let n : length (numbered_entries (length calls) (is_forgiving ask) (issue_of p (target_by p u0 calls) (kept_by p u0 calls) ask).steps) ≡ length (issue_of p (target_by p u0 calls) (kept_by p u0 calls) ask).steps = length-map (issue_of p (target_by p u0 calls) (kept_by p u0 calls) ask).steps _ in
      let a = all_there in
      omega (arith, l, k, n, a)

  abbrev new_places : List ℕ
  new_places = slice_set log.places (length log.calls - 1) (length log.entries - 1)

  given_before : (index : ℕ) → log.came ≤ index → index < length calls → IsGivenAt p u0 log.calls index (slice_index new_places index) × ((log.confirmed ≤ slice_index new_places index) × (slice_index new_places index < length log.entries))
  given_before index low less =
      let g = h.given index low (omega (arith, less, before)) in
      let i = h.given_in index low (omega (arith, less, before)) in
      let same : get_or new_places index 0 ≡ get_or log.places index 0 = set_other log.places (length log.calls - 1) index (length log.entries - 1) (let c = count_is in omega (arith, c, less)) in
      let i0 = i.0 in
      let i1 = i.1 in (
        record { asks = g.asks; ask = g.ask; more = g.more; are = g.are; at = g.at; mild = g.mild; large = g.large; place_is = (let part_is = g.place_is in omega (arith, part_is, same)) },
        (omega (arith, i0, same), omega (arith, i1, same)),
      )

  given_last : (index : ℕ) → index ≡ length calls → IsGivenAt p u0 log.calls index (slice_index new_places index) × ((log.confirmed ≤ slice_index new_places index) × (slice_index new_places index < length log.entries))
  given_last index same =
      let here : get_or new_places index 0 ≡ length log.entries - 1 =
      ap (λ (i : ℕ). get_or new_places i 0) (let c = count_is in let e : index ≡ length log.calls - 1 = omega (arith, c, same) in e)
      ∙ set_here log.places (length log.calls - 1) (length log.entries - 1) (let c = count_is in omega (arith, c, places)) in (
        record { asks = calls; ask = ask; more = []; are = are; at = sym same; mild = mild; large = large; place_is = (let s = steps_there in omega (arith, here, s, some)) },
        (omega (arith, here, some), omega (arith, here, some)),
      )

  given_at : (index : ℕ) → log.came ≤ index → index < length log.calls → (index < length calls) ⊎ (length calls ≤ index) → IsGivenAt p u0 log.calls index (slice_index new_places index) × ((log.confirmed ≤ slice_index new_places index) × (slice_index new_places index < length log.entries))
  given_at index low less (inl first) = given_before index low first
  given_at index low less (inr last) = given_last index (let c = count_is in omega (arith, c, less, last))

  all_calls : take (length log.calls) log.calls ≡ log.calls
  all_calls = take-length log.calls

  own_calls : unmarked_last log.calls ≡ log.calls
  own_calls = ap unmarked_last are ∙ unmarked_append calls ask unmarked ∙ sym are

  pub call_whole : IsOpenAt p (all_issued log) (issue_of p (target_by p u0 calls) kept ask).kept accesses m0 m
  call_whole = record {
    issuing = record {
      flying = h.flying;
      sending = h.sending;
      known_is = h.known_is;
      count = h.count;
      entries_are = h.entries_are;
      strict = h.strict;
      in_order = (let a = h.in_order in let b = h.within in omega (arith, a, b));
      within = omega arith;
      came_made = h.came_made;
      whole_issued = (let s = ap (λ (l : List Ask). length (issued_entries p u0 (take (length log.calls) l))) own_calls ∙ ap (λ (l : List Ask). length (issued_entries p u0 l)) all_calls in let t = all_there in omega (arith, s, t));
      came_are = h.came_are;
      skipped_is = h.skipped_is;
      given = λ index low less. (given_at index low less (cases_lt index (length calls))).0;
      given_in = λ index low less. (given_at index low less (cases_lt index (length calls))).1;
      flies = h.flies;
      few = h.few;
    };
    whole_is = refl;
    kept_is = ap (kept_by p u0) are ∙ (journal_grows p u0 calls ask unmarked).1 ∙ ap (λ (k : Kept). (issue_of p (target_by p u0 calls) k ask).kept) kept_is;
    calm = λ settled. absurd (let x : false ≡ true = sym unmarked ∙ sym (settled_append calls ask) ∙ ap is_settled (sym are) ∙ settled in cc);
  }

-- ---- where the bench is observable

asked_where : (p : Planner) (x : Option BenchState) (bench : BenchReported) (state : Option BenchState) (sent got : List ℕ) (log : LogState) (kept : Kept) (accesses : List RegAccess) (ask : Ask) (room : ℕ) (m0 : BenchState) → WhereObservable x (λ m. IsOpenAt p log kept accesses m0 m) → IsAskable ask → ask.settled ≡ false →
    length log.results ≡ length log.calls → length log.places ≡ length log.calls → WhereObservable x (λ m. IsIssuing p (log_with_call log ask room) accesses (entries_for_call p (target_of m0.probe) log.calls kept ask) m0 m)
asked_where p None bench state sent got log kept accesses ask room m0 h ok unmarked long places = h
asked_where p (Some m) bench state sent got log kept accesses ask room m0 h ok unmarked long places = call_asked p bench state sent got log kept accesses ask room m0 m h ok unmarked long places

-- a call is asked
pub begun_asked : (p : Planner) (bench : BenchReported) (state : Option BenchState) (log new : LogState) (sent got : List ℕ) (kept : Kept) (accesses : List RegAccess) (ask : Ask) (m0 : BenchState) → HasBegun p bench state log sent got kept accesses m0 → log.end ≡ None → IsAskable ask → ask.settled ≡ false →
    length log.results ≡ length log.calls → length log.places ≡ length log.calls → new ≡ log_with_call log ask new.room → HasIssued p state new accesses (entries_for_call p (target_of m0.probe) log.calls kept ask) m0
begun_asked p bench state log new sent got kept accesses ask m0 h none ok unmarked long places is =
    subst (λ (l : LogState). HasIssued p state l accesses (entries_for_call p (target_of m0.probe) log.calls kept ask) m0) (sym is)
    (record { so = asked_where p state bench state sent got log kept accesses ask new.room m0 (open_where p bench state log sent got kept accesses m0 h none) ok unmarked long places })

-- nothing settles after it
pub stops_asked : (m0 : BenchState) (n : Option ℕ) (calls : List Ask) (ask : Ask) (lines : ℕ) (s : Stop) → ask.settled ≡ false → StopsAfterLines m0 n (calls ++ ask ∷ []) lines s → StopsCalls (world_from m0 n) (calls ++ ask ∷ []) lines s
stops_asked m0 n calls ask lines s unmarked there = stops_calls m0 n (calls ++ ask ∷ []) lines s (not_settled s) there
  where
    not_settled : (s : Stop) → AtCut s (λ r. is_settled (calls ++ ask ∷ []) ≡ true → ⊥)
    not_settled (stops.Cut r) = λ settled. (let x : false ≡ true = sym unmarked ∙ sym (settled_append calls ask) ∙ settled in cc)
    not_settled (stops.BenchFault issued confirmed) = tt
    not_settled stops.ReplyBad = tt
    not_settled stops.OutOfMemory = tt

-- after it the registers are known so
pub asked_kept : (p : Planner) (bench : BenchReported) (state : Option BenchState) (log : LogState) (sent got : List ℕ) (kept : Kept) (accesses : List RegAccess) (ask : Ask) (m0 : BenchState) → HasBegun p bench state log sent got kept accesses m0 → log.end ≡ None → ask.settled ≡ false →
    kept_by p (target_of m0.probe) (log.calls ++ ask ∷ []) ≡ (issue_of p (target_by p (target_of m0.probe) log.calls) kept ask).kept
asked_kept p bench state log sent got kept accesses ask m0 h none unmarked =
    (journal_grows p (target_of m0.probe) log.calls ask unmarked).1
    ∙ ap (λ (k : Kept). (issue_of p (target_by p (target_of m0.probe) log.calls) k ask).kept) (open_facts p bench state log sent got kept accesses m0 h none)

-- and no settling was made after it
pub asked_calm : (calls : List Ask) (ask : Ask) → ask.settled ≡ false → is_settled (calls ++ ask ∷ []) ≡ true → ⊥
asked_calm calls ask unmarked settled = (let x : false ≡ true = sym unmarked ∙ sym (settled_append calls ask) ∙ settled in cc)

-- a call that was made at once
pub begun_made : (p : Planner) (bench bench' : BenchReported) (state state' : Option BenchState) (log new : LogState) (sent got sent' got' : List ℕ) (kept kept' : Kept) (accesses accesses' : List RegAccess) (ask : Ask) (m0 : BenchState) → HasBegun p bench state log sent got kept accesses m0 → log.end ≡ None → ask.settled ≡ false →
    HasIssued p state' new [] [] m0 → new.end ≡ None → new.calls ≡ log.calls ++ ask ∷ [] → new.whole ≡ length new.calls → kept' ≡ (issue_of p (target_by p (target_of m0.probe) log.calls) kept ask).kept → accesses' ≡ [] → HasBegun p bench' state' new sent' got' kept' accesses' m0
begun_made p bench bench' state state' log new sent got sent' got' kept kept' accesses accesses' ask m0 h none unmarked there none' calls whole kept_is empty =
    subst (λ (xs : List RegAccess). HasBegun p bench' state' new sent' got' kept' xs m0) (sym empty)
    (issued_begun p bench' state' new sent' got' kept' [] m0 there none' whole
    (ap (kept_by p (target_of m0.probe)) calls ∙ asked_kept p bench state log sent got kept accesses ask m0 h none unmarked ∙ sym kept_is)
    (λ settled. absurd (asked_calm log.calls ask unmarked (subst (λ (l : List Ask). is_settled l ≡ true) calls settled))))
