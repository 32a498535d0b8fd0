-- A unit that forgives a fault has come, or was skipped.
use Rattle.std.proofs.Common.{◌≡◌, ◌∙◌, ℕ, suc, ◌+◌, ◌-◌, ◌^◌, ◌≤◌, min, Bool, true, false, cond, List, [], ◌∷◌, ◌++◌, length, take, set, Option, Some, None, refl, sym, ap, subst, arith, append-nil, length-append}
use Rattle.std.proofs.Math.Seq.{take-length}
use Rattle.std.proofs.lemmas.List.{take_more_set}
use Rattle.std.specs.Option.{unwrap_or}
use Rattle.std.specs.Prelude.{slice_get}
use Rattle.target_machine.specs.Plain.{CallEnd, Answered, Faulted, Skipped, Small, given_number, result_of}
use Rattle.target_machine.specs.State.{TargetState}
use Rattle.probe_core.specs.Bench.{BenchState}
use Rattle.probe_core.specs.Probe.{target_of}
use Rattle.target_calls.specs.World.{World, done_now, next_world, one_if_skipped, results, skips, start_world, stops_here}
use Rattle.target_calls.specs.declared.calls.Ask.{Ask}
use Rattle.access_regs.specs.Journal.{issued_entries}
use Rattle.packed_access.specs.Begun.{HasIssued, IsIssuing}
use Rattle.packed_access.specs.Forgiving.{log_after_answer}
use Rattle.packed_access.specs.Logs.{LogState, all_confirmed, all_issued, asks_of, result_for, with_result}
use Rattle.packed_access.specs.Marks.{unmarked_append, unmarked_last}
use Rattle.packed_access.proofs.ActionLemmas.{at_rest, at_rest_count}
use Rattle.packed_access.proofs.CameLemmas.{HaveCome, have_come}
use Rattle.packed_access.proofs.CommandLemmas.{last_there}
use Rattle.packed_access.proofs.BegunLemmas.{fact_of, where_same}
use Rattle.packed_access.proofs.TryBeginLemmas.{first_before}
use Rattle.access_regs.specs.declared.planner.Planner.{Planner}

-- ---- what is kept of the last call

module _ (p : Planner) (log : LogState) (calls : List Ask) (ask : Ask) (r s : ℕ) (m0 m : BenchState) (h : IsIssuing p log [] [] m0 m) (are : log.calls ≡ calls ++ ask ∷ []) (unmarked : ask.settled ≡ false) (came : log.came ≡ length calls)
    (results_are : results (start_world (target_of m0.probe) None) (calls ++ ask ∷ []) ≡ results (start_world (target_of m0.probe) None) calls ++ r ∷ [])
    (skips_are : skips (start_world (target_of m0.probe) None) (calls ++ ask ∷ []) ≡ skips (start_world (target_of m0.probe) None) calls + s) (long : length log.results ≡ length log.calls) where
  abbrev t0 : TargetState
  t0 = target_of m0.probe

  abbrev w : World
  w = start_world t0 None

  count_is : length log.calls ≡ length calls + 1
  count_is = ap length are ∙ length-append calls (ask ∷ [])

  first_all : take (length log.calls) log.calls ≡ log.calls
  first_all = take-length log.calls

  first_came : take log.came log.calls ≡ calls
  first_came = ap (λ (n : ℕ). take n log.calls) came ∙ first_before log calls ask are

  here : log.confirmed ≡ length log.entries
  here = at_rest_count p log [] m0 m h

  come : HaveCome p log.calls (length log.entries) (length log.calls) m0
  come =
      let rest = at_rest p log [] m0 m h in
      have_come p log.calls rest.made [] (length log.entries) (length log.calls) m0 rest.fresh rest.askable (omega arith) rest.on.are rest.on.passes (rest.confirmed_is ∙ here)
      (let f = ap (λ (l : List Ask). length (issued_entries p t0 l)) first_all in let a = ap length rest.on.are in let n = ap length (append-nil rest.made) in let c = rest.confirmed_is in let k = here in omega (arith, f, a, n, c, k))

  index_is : length log.calls - 1 ≡ length calls
  index_is = (let c = count_is in omega (arith, c))

  came_now : take (length log.calls) (set log.results (length log.calls - 1) r) ≡ results w log.calls
  came_now =
      (λ j. take (count_is j) (set log.results (index_is j) r))
      ∙ take_more_set log.results (length calls) r (let c = count_is in omega (arith, c, long))
      ∙ ap (λ (l : List ℕ). l ++ r ∷ []) (ap (λ (n : ℕ). take n log.results) (sym (h.known_is ∙ came)) ∙ h.came_are ∙ ap (results w) first_came)
      ∙ sym results_are ∙ ap (results w) (sym are)

  skipped_now : log.skipped + s ≡ skips w (take (length log.calls) log.calls)
  skipped_now = (let a = h.skipped_is in let b = ap (skips w) first_came in let c = ap (skips w) (first_all ∙ are) in omega (arith, a, b, c, skips_are))

  own_calls : unmarked_last log.calls ≡ log.calls
  own_calls = ap unmarked_last are ∙ unmarked_append calls ask unmarked ∙ sym are

  made_count : length (issued_entries p t0 (take (length log.calls) (unmarked_last log.calls))) ≤ length log.entries
  made_count =
      (let rest = at_rest p log [] m0 m h in
      let f = ap (λ (l : List Ask). length (issued_entries p t0 l)) (ap (take (length log.calls)) own_calls ∙ first_all) in let a = ap length rest.on.are in let n = ap length (append-nil rest.made) in let c = rest.confirmed_is in let k = here in omega (arith, f, a, n, c, k))

  pub closed_at : IsIssuing p (record (all_confirmed (with_result (all_issued log) (length log.calls - 1) r)) { skipped = log.skipped + s }) [] [] m0 m
  closed_at =
      let rest = at_rest p log [] m0 m h in
      record {
        flying = [];
        sending = record {
          fresh = rest.fresh;
          askable = rest.askable;
          made = rest.made;
          on = rest.on;
          confirmed_is = rest.confirmed_is ∙ here;
          length_is = ap length came_now ∙ ap (λ (l : List Ask). length (results w l)) (sym first_all) ∙ come.length_is;
          results_are = λ n least. come.results_are n least ∙ ap (results w) first_all ∙ sym came_now;
          lines = come.lines;
        };
        known_is = refl;
        count = omega arith;
        entries_are = h.entries_are;
        strict = tt;
        in_order = omega arith;
        within = omega arith;
        came_made = made_count;
        whole_issued = made_count;
        came_are = came_now ∙ ap (results w) (sym first_all);
        skipped_is = skipped_now;
        given = λ index low less. absurd (omega (arith, low, less));
        given_in = λ index low less. absurd (omega (arith, low, less));
        flies = h.flies;
        few = h.few;
      }

-- ---- the count of skips

one_at_most : (x : CallEnd) → one_if_skipped x ≤ 1
one_at_most (Answered n) = omega arith
one_at_most Skipped = omega arith
one_at_most Faulted = omega arith
one_at_most Small = omega arith

skips_few : (w : World) (calls : List Ask) → skips w calls ≤ length calls
skips_few w [] = omega arith
skips_few w (ask ∷ calls) = by_here (stops_here w ask) (skips_few (next_world w ask) calls)
  where
    one_few : (x : ℕ) → x ≤ 1 → skips (next_world w ask) calls ≤ length calls → x + skips (next_world w ask) calls ≤ suc (length calls)
    one_few x le more = omega (arith, le, more)

    at_most : one_if_skipped (done_now w ask).end ≤ 1
    at_most = one_at_most (done_now w ask).end

    by_here : (b : Bool) → skips (next_world w ask) calls ≤ length calls → cond b 0 (one_if_skipped (done_now w ask).end + skips (next_world w ask) calls) ≤ suc (length calls)
    by_here true le = omega arith
    by_here false le = one_few (one_if_skipped (done_now w ask).end) at_most le

-- how many calls were skipped, by what the last access gave
abbrev pub skipped_by : Option ℕ → ℕ
skipped_by (Some v) = 0
skipped_by None = 1

-- what the access keeps of it
pub has_closed : (p : Planner) (word : Option ℕ) (x : Option BenchState) (log new : LogState) (calls : List Ask) (ask : Ask) (m0 : BenchState) → HasIssued p x log [] [] m0 → log.calls ≡ calls ++ ask ∷ [] → ask.settled ≡ false → log.came ≡ length calls →
    results (start_world (target_of m0.probe) None) (calls ++ ask ∷ []) ≡ results (start_world (target_of m0.probe) None) calls ++ result_of ask.call (unwrap_or word 0) ∷ [] →
    skips (start_world (target_of m0.probe) None) (calls ++ ask ∷ []) ≡ skips (start_world (target_of m0.probe) None) calls + skipped_by word → length log.results ≡ length log.calls → length log.calls ≤ 10000000 → new ≡ log_after_answer word log → HasIssued p x new [] [] m0
has_closed p word x log new calls ask m0 h are unmarked came results_are skips_are long few is =
    subst (λ (l : LogState). HasIssued p x l [] [] m0) (sym (is ∙ by_word word skips_are))
    (record { so = where_same x _ _ (λ m i. closed_at p log calls ask (result_of ask.call (unwrap_or word 0)) (skipped_by word) m0 m i are unmarked came results_are skips_are long) h.so })
  where
    count : length log.calls - 1 ≡ length calls
    count = (let c = ap length are ∙ length-append calls (ask ∷ []) in omega (arith, c))

    result_is : (v : ℕ) → result_for (slice_get log.calls (length log.calls - 1)) v ≡ result_of ask.call v
    result_is v = ap (λ (a : Option Ask). result_for a v) ((λ j. slice_get (are j) (count j)) ∙ last_there calls ask)

    skipped_few : log.skipped ≤ 10000000
    skipped_few =
        let a : log.skipped ≡ skips (start_world (target_of m0.probe) None) (take log.came log.calls) = fact_of x (λ m. IsIssuing p log [] [] m0 m) _ (λ m i. i.skipped_is) h.so in
        let b : take log.came log.calls ≡ calls = ap (λ (n : ℕ). take n log.calls) came ∙ first_before log calls ask are in
        let c = ap (skips (start_world (target_of m0.probe) None)) b in
        let d = skips_few (start_world (target_of m0.probe) None) calls in
        let e = ap length are ∙ length-append calls (ask ∷ []) in omega (arith, a, c, d, e, few)

    capped : min (log.skipped + 1) (2 ^ 32 - 1) ≡ log.skipped + 1
    capped = (let f = skipped_few in grind (arith, f))

    by_word : (v : Option ℕ) → skips (start_world (target_of m0.probe) None) (calls ++ ask ∷ []) ≡ skips (start_world (target_of m0.probe) None) calls + skipped_by v →
        log_after_answer v log ≡ record (all_confirmed (with_result (all_issued log) (length log.calls - 1) (result_of ask.call (unwrap_or v 0)))) { skipped = log.skipped + skipped_by v }
    by_word (Some v) e =
        let zero_more : log.skipped ≡ log.skipped + 0 = omega arith in
        (λ j. record (all_confirmed (with_result (all_issued log) (length log.calls - 1) (result_is v j))) { skipped = zero_more j })
    by_word None e = (λ j. record (all_confirmed (with_result (all_issued log) (length log.calls - 1) (result_is 0 j))) { skipped = capped j })

-- ---- the rest of it

pub closed_end : (word : Option ℕ) (log : LogState) → (log_after_answer word log).end ≡ log.end
closed_end (Some v) log = refl
closed_end None log = refl

pub closed_whole : (word : Option ℕ) (log : LogState) → ((log_after_answer word log).whole ≡ length log.calls) × ((log_after_answer word log).came ≡ length log.calls)
closed_whole (Some v) log = (refl, refl)
closed_whole None log = (refl, refl)

pub closed_asks : (word : Option ℕ) (log : LogState) → asks_of (log_after_answer word log) ≡ asks_of log
closed_asks (Some v) log = refl
closed_asks None log = refl

pub closed_known : (word : Option ℕ) (log : LogState) → (log_after_answer word log).known ≡ length log.calls
closed_known (Some v) log = refl
closed_known None log = refl
