-- A `finish`: the last call is marked, and what it left unsettled is settled.
use Rattle.std.proofs.Common.{◌≡◌, inl, inr, ◌∙◌, ℕ, zero, suc, ◌+◌, ◌≤◌, true, false, cond, List, [], ◌∷◌, ◌++◌, length, take, map, Option, Some, None, refl, sym, ap, subst, arith, append-nil, length-append}
use Rattle.std.proofs.lemmas.List.{take-append-le}
use Rattle.std.specs.Prelude.{slice_index}
use Rattle.target_machine.specs.State.{TargetState}
use Rattle.target_machine.specs.declared.access.RegAccess.{RegAccess}
use Rattle.probe_core.specs.Bench.{BenchState}
use Rattle.probe_core.specs.Bench.{Reported as BenchReported}
use Rattle.probe_core.specs.Probe.{target_of}
use Rattle.target_calls.specs.Asks.{settled_last}
use Rattle.target_calls.specs.Journal.{Entry}
use Rattle.target_calls.specs.World.{World, done_now, end_result, next_world, one_if_skipped, results, skips, small_after, start_world, stop, stops_here, world_after}
use Rattle.target_calls.specs.declared.calls.Ask.{Ask}
use Rattle.target_calls.specs.declared.journal.Part.TheVariants.{Settles}
use Rattle.target_calls.proofs.MarkLemmas.{length_marked, marked_append, stop_marked}
use Rattle.access_regs.specs.Entries.{kept_by}
use Rattle.access_regs.specs.Journal.{issued_entries, numbered_entries, steps_of}
use Rattle.access_regs.specs.Kept.{Kept}
use Rattle.access_regs.specs.Plan.{settle, kept_after_settling}
use Rattle.access_regs.proofs.EntryLemmas.{journal_marks}
use Rattle.access_calls.specs.Answers.{StopsOrSettles, StopsSettling}
use Rattle.access_calls.specs.Issued.{kept_of}
use Rattle.access_calls.specs.Left.{IsLeft}
use Rattle.access_calls.specs.Reported.{world_from}
use Rattle.access_calls.specs.Standing.{WhereObservable}
use Rattle.access_calls.specs.declared.stop.Stop.{Stop}
use Rattle.access_calls.specs.declared.stop.Stop.TheVariants as stops
use Rattle.access_calls.specs.declared.stop.StopCause.{StopCause}
use Rattle.access_calls.specs.declared.stop.StopCause.TheVariants.{Faulted, NoAnswer}
use Rattle.flight_laws.specs.Ending.{StopsBy}
use Rattle.flight_laws.specs.Flying.{IsFlying}
use Rattle.flight_laws.specs.Sending.{IsSending}
use Rattle.flight_laws.proofs.SendLemmas.{finish_sends}
use Rattle.packed_access.specs.Begun.{HasBegun, HasIssued, IsGivenAt, IsIssuing, IsOpenAt, StopsAfterLines, strict_entries}
use Rattle.packed_access.specs.Logs.{LogState, reported_by}
use Rattle.packed_access.specs.Marks.{unmarked_last, unmarked_marked}
use Rattle.packed_access.specs.Stands.{open_flying}
use Rattle.packed_access.proofs.BegunLemmas.{issued_begun, none_stopped, open_facts, open_where}
use Rattle.packed_access.proofs.AskedLemmas.{settles_numbered}
use Rattle.access_regs.specs.declared.planner.Planner.{Planner}

-- ---- the first calls, of which the last may be marked

first_results : (w : World) (n : ℕ) (calls : List Ask) → results w (take n (settled_last calls)) ≡ results w (take n calls)
first_results w zero calls = refl
first_results w (suc n) [] = refl
first_results w (suc zero) (a ∷ []) = refl
first_results w (suc (suc n)) (a ∷ []) = refl
first_results w (suc n) (a ∷ b ∷ calls) = ap (λ r. cond (stops_here w a) [] (end_result (done_now w a).end ∷ r)) (first_results (next_world w a) n (b ∷ calls))

first_skips : (w : World) (n : ℕ) (calls : List Ask) → skips w (take n (settled_last calls)) ≡ skips w (take n calls)
first_skips w zero calls = refl
first_skips w (suc n) [] = refl
first_skips w (suc zero) (a ∷ []) = refl
first_skips w (suc (suc n)) (a ∷ []) = refl
first_skips w (suc n) (a ∷ b ∷ calls) = ap (λ r. cond (stops_here w a) 0 (one_if_skipped (done_now w a).end + r)) (first_skips (next_world w a) n (b ∷ calls))

-- a call that is marked, or comes before the last
marked_later : (asks : List Ask) (ask next : Ask) (more : List Ask) → settled_last (asks ++ ask ∷ next ∷ more) ≡ asks ++ ask ∷ settled_last (next ∷ more)
marked_later [] ask next more = refl
marked_later (a ∷ []) ask next more = refl
marked_later (a ∷ b ∷ asks) ask next more = ap (λ l. a ∷ l) (marked_later (b ∷ asks) ask next more)

small_marked : (x : Option ℕ) (w : World) (ask : Ask) → small_after x w (record ask { settled = true }) ≡ small_after x w ask
small_marked None w ask = refl
small_marked (Some n) w ask = refl

given_marked : (p : Planner) (t : TargetState) (calls : List Ask) (index place : ℕ) → IsGivenAt p t calls index place → IsGivenAt p t (settled_last calls) index place
given_marked p t calls index place g = by_more g.more g.are
  where
    by_more : (more : List Ask) → calls ≡ g.asks ++ g.ask ∷ more → IsGivenAt p t (settled_last calls) index place
    by_more [] are = record { asks = g.asks; ask = record g.ask { settled = true }; more = []; are = ap settled_last are ∙ marked_append g.asks g.ask; at = g.at; mild = g.mild; large = small_marked (stop (start_world t None) g.asks) (world_after (start_world t None) g.asks) g.ask ∙ g.large; place_is = g.place_is }
    by_more (x ∷ more) are = record { asks = g.asks; ask = g.ask; more = settled_last (x ∷ more); are = ap settled_last are ∙ marked_later g.asks g.ask x more; at = g.at; mild = g.mild; large = g.large; place_is = g.place_is }

-- ---- the settling is still to be issued

module _ (p : Planner) (bench : BenchReported) (state : Option BenchState) (sent got : List ℕ) (log : LogState) (kept : Kept) (accesses : List RegAccess) (m0 m : BenchState) (h : IsOpenAt p log kept accesses m0 m) where
  abbrev t0 : TargetState
  t0 = target_of m0.probe

  flying_is : IsFlying p (reported_by bench state log sent got) kept accesses (take log.known log.results) m0 m
  flying_is = open_flying p bench state log sent got kept accesses m0 m h

  journal_is : issued_entries p t0 (settled_last log.calls) ≡ issued_entries p t0 log.calls ++ numbered_entries (length log.calls) false (steps_of Settles (settle (kept_by p t0 log.calls)))
  journal_is = (journal_marks p t0 log.calls).0

  entries_within : length log.entries ≤ length (issued_entries p t0 log.calls)
  entries_within =
      let f = flying_is in
      let l = ap length f.on.are in
      let k = length-append f.made (f.flying ++ []) in
      let n = ap length (append-nil f.flying) in
      let i = f.issued_is in
      omega (arith, l, k, n, i)

  sending_is : IsSending p (settled_last log.calls) log.confirmed log.came flying_is.flying (strict_entries (length log.calls) Settles (settle kept)) accesses (take log.known log.results) m0 m
  sending_is =
      subst (λ (rest : List Entry). IsSending p (settled_last log.calls) log.confirmed log.came flying_is.flying rest accesses (take log.known log.results) m0 m) (settles_numbered (length log.calls) (settle kept))
      (finish_sends p (reported_by bench state log sent got) kept accesses (take log.known log.results) m0 m flying_is)

  own_calls : (n : ℕ) → length (issued_entries p t0 (take n (unmarked_last (settled_last log.calls)))) ≡ length (issued_entries p t0 (take n (unmarked_last log.calls)))
  own_calls n = ap (λ (l : List Ask). length (issued_entries p t0 (take n l))) (unmarked_marked log.calls)

  pub finish_made : IsIssuing p (record log { calls = settled_last log.calls }) accesses (strict_entries (length log.calls) Settles (settle kept)) m0 m
  finish_made = record {
    flying = flying_is.flying;
    sending = sending_is;
    known_is = h.issuing.known_is;
    count = (let c = flying_is.confirmed in let i = flying_is.issued_is in omega (arith, c, i));
    entries_are =
        h.issuing.entries_are
        ∙ ap (map kept_of) (sym (take-append-le (length log.entries) (issued_entries p t0 log.calls) _ entries_within) ∙ ap (take (length log.entries)) (sym journal_is));
    strict = flying_is.strict;
    in_order = h.issuing.in_order;
    within = (let w = h.issuing.within in let l = length_marked log.calls in omega (arith, w, l));
    came_made = (let c = h.issuing.came_made in let s = own_calls log.came in omega (arith, c, s));
    whole_issued = (let c = h.issuing.whole_issued in let s = own_calls log.whole in omega (arith, c, s));
    came_are = h.issuing.came_are ∙ sym (first_results (start_world t0 None) log.came log.calls);
    skipped_is = h.issuing.skipped_is ∙ sym (first_skips (start_world t0 None) log.came log.calls);
    given = λ index low less. given_marked p t0 log.calls index (slice_index log.places index) (h.issuing.given index low less);
    given_in = h.issuing.given_in;
    flies = h.issuing.flies;
    few = h.issuing.few;
  }

-- ---- where the bench is observable

finish_where : (p : Planner) (x : Option BenchState) (bench : BenchReported) (state : Option BenchState) (sent got : List ℕ) (log : LogState) (kept : Kept) (accesses : List RegAccess) (m0 : BenchState) → WhereObservable x (λ m. IsOpenAt p log kept accesses m0 m) →
    WhereObservable x (λ m. IsIssuing p (record log { calls = settled_last log.calls }) accesses (strict_entries (length log.calls) Settles (settle kept)) m0 m)
finish_where p None bench state sent got log kept accesses m0 h = h
finish_where p (Some m) bench state sent got log kept accesses m0 h = finish_made p bench state sent got log kept accesses m0 m h

-- the last call is marked
pub begun_marked : (p : Planner) (bench : BenchReported) (state : Option BenchState) (log new : LogState) (sent got : List ℕ) (kept : Kept) (accesses : List RegAccess) (count : ℕ) (m0 : BenchState) → HasBegun p bench state log sent got kept accesses m0 → log.end ≡ None →
    new ≡ record log { calls = settled_last log.calls } → count ≡ length new.calls → HasIssued p state new accesses (strict_entries count Settles (settle kept) ++ []) m0
begun_marked p bench state log new sent got kept accesses count m0 h none is number =
    let counts : length log.calls ≡ count = sym (number ∙ ap (λ (l : LogState). length l.calls) is ∙ length_marked log.calls) in
    subst (λ (l : LogState). HasIssued p state l accesses (strict_entries count Settles (settle kept) ++ []) m0) (sym is)
    (subst (λ (rest : List Entry). HasIssued p state (record log { calls = settled_last log.calls }) accesses rest m0) (ap (λ (n : ℕ). strict_entries n Settles (settle kept)) counts ∙ sym (append-nil (strict_entries count Settles (settle kept))))
    (record { so = finish_where p state bench state sent got log kept accesses m0 (open_where p bench state log sent got kept accesses m0 h none) }))

-- all came
pub begun_finished : (p : Planner) (bench bench' : BenchReported) (state state' : Option BenchState) (log new : LogState) (sent got sent' got' : List ℕ) (kept kept' : Kept) (accesses accesses' : List RegAccess) (m0 : BenchState) → HasBegun p bench state log sent got kept accesses m0 → log.end ≡ None →
    HasIssued p state' new [] [] m0 → new.calls ≡ settled_last log.calls → new.end ≡ None → new.whole ≡ length new.calls → new.came ≡ length new.calls → kept' ≡ kept_after_settling kept → accesses' ≡ [] → HasBegun p bench' state' new sent' got' kept' accesses' m0
begun_finished p bench bench' state state' log new sent got sent' got' kept kept' accesses accesses' m0 h none there calls none' whole came kept_is empty =
    subst (λ (xs : List RegAccess). HasBegun p bench' state' new sent' got' kept' xs m0) (sym empty)
    (issued_begun p bench' state' new sent' got' kept' [] m0 there none' whole
    (ap (kept_by p (target_of m0.probe)) calls ∙ (journal_marks p (target_of m0.probe) log.calls).1 ∙ ap kept_after_settling (open_facts p bench state log sent got kept accesses m0 h none) ∙ sym kept_is)
    (λ done. (came, refl)))

-- and no call stops
pub finished_whole : (p : Planner) (bench' : BenchReported) (state' : Option BenchState) (log new : LogState) (sent' got' : List ℕ) (m0 : BenchState) (n : Option ℕ) → HasIssued p state' new [] [] m0 → new.calls ≡ settled_last log.calls → new.end ≡ None → new.came ≡ length new.calls →
    IsLeft (reported_by bench' state' new sent' got') n → stop (world_from m0 n) log.calls ≡ None
finished_whole p bench' state' log new sent' got' m0 n there calls none came left =
    sym (stop_marked (world_from m0 n) log.calls) ∙ ap (stop (world_from m0 n)) (sym calls) ∙ none_stopped p bench' state' new sent' got' [] m0 n there refl none came left

-- At a cut the calls stop, or it came in the settling.
pub stops_finished : (m0 : BenchState) (n : Option ℕ) (calls marked : List Ask) (lines : ℕ) (s : Stop) → marked ≡ settled_last calls → StopsAfterLines m0 n marked lines s → StopsSettling (world_from m0 n) calls lines s
stops_finished m0 n calls marked lines (stops.Cut r) is h = record { so = by_cause r.cause h.so }
  where
    same : stop (world_from m0 n) calls ≡ stop (world_from m0 n) marked
    same = sym (stop_marked (world_from m0 n) calls) ∙ ap (stop (world_from m0 n)) (sym is)

    by_cause : (x : StopCause) → StopsBy x (world_from m0 n) marked lines → StopsOrSettles x (world_from m0 n) calls lines
    by_cause Faulted at = same ∙ at
    by_cause NoAnswer (inl at) = inl (same ∙ at)
    by_cause NoAnswer (inr all) = inr (same ∙ all.0, all.1.0 ∙ ap length is ∙ length_marked calls)
stops_finished m0 n calls marked lines (stops.BenchFault issued confirmed) is h = record { so = tt }
stops_finished m0 n calls marked lines stops.ReplyBad is h = record { so = tt }
stops_finished m0 n calls marked lines stops.OutOfMemory is h = record { so = tt }
