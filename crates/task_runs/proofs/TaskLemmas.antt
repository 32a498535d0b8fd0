-- A task, by how its program ended: what follows goes on only where that was done.
use Rattle.std.proofs.Common.{◌≡◌, ◌∙◌, ◌⊎◌, inl, inr, ℕ, ◌-◌, ◌≤◌, Bool, true, false, cond, ◌||◌, List, [], ◌∷◌, ◌++◌, append-nil, length, Option, None, Some, refl, sym, ap, subst, arith}
use Rattle.std.specs.Prelude.{option_map}
use Rattle.std.proofs.lemmas.List.{length-append}
use Rattle.probe_core.specs.Bench.{BenchState}
use Rattle.target_machine.specs.State.{TargetState}
use Rattle.target_calls.specs.Asks.{settled_last}
use Rattle.target_calls.specs.World.{World, done_now, end_result, fewer, is_faulted, is_over, next_world, start_world, stop, stops_here, world_after}
use Rattle.target_calls.specs.declared.calls.Ask.{Ask}
use Rattle.target_calls.proofs.MarkLemmas.{length_marked}
use Rattle.target_calls.proofs.WorldLemmas.{whole_after, whole_least}
use Rattle.access_calls.specs.Left.{answered_at_end, answered_cut}
use Rattle.access_calls.specs.Reported.{world_from}
use Rattle.access_calls.specs.declared.ended.Ending.{Ending}
use Rattle.access_calls.specs.declared.ended.Ending.TheVariants as ending
use Rattle.access_calls.specs.declared.stop.Stop.{Stop}
use Rattle.access_calls.specs.declared.stop.StopCause.{StopCause}
use Rattle.access_calls.specs.declared.stop.StopCause.TheVariants.{Faulted, NoAnswer}
use Rattle.sequence_rules.specs.Laws as laws
use Rattle.sequence_rules.specs.Laws.{StopBy}
use Rattle.sequence_rules.specs.Runs as runs
use Rattle.sequence_rules.specs.Runs.{Outcome, Program, meaning, outcome, outcome_of, outcome_within, units_of}
use Rattle.sequence_rules.proofs.LateLemmas.{grows_on}
use Rattle.sequence_rules.proofs.Limits.{limit_cuts}
use Rattle.sequence_rules.proofs.Made.{are_made}
use Rattle.sequels.specs.Limits.{GoesOnFrom}
use Rattle.sequels.specs.Sequel.{Comes, Sequel, Asks, Ends, comes, stopped_at, call_first}
use Rattle.sequels.specs.declared.close.Close.{Close}
use Rattle.sequels.proofs.LimitLemmas.{from_on, from_same}
use Rattle.followed_runs.specs.Followed.{followed_outcome, followed_at, joined_outcome, stopped_by}
use Rattle.followed_runs.proofs.CallLemmas.{from_few}
use Rattle.control_flow.specs.Answers as answers
use Rattle.control_flow.specs.Answers.{EndBy, EndsAtCut, EndsAtFault, IsAll, IsPartOfOutcome, Ran, RunEndsAs, SharesCalls, StopsAfter}
use Rattle.image_load.specs.LoadSequel.{asks_each, load_close, load_sequel}
use Rattle.image_load.specs.Pieces.{load_calls, pieces}
use Rattle.task_runs.specs.Tasks.{goes_on, is_done, scanning, sequel_of}
use Rattle.task_runs.specs.declared.followed.Followed.{Followed}
use Rattle.task_runs.specs.declared.followed.Followed.TheVariants.{Nothing, Load, Scan}

-- ---- a program that is done, where fewer calls are answered

-- is the same wherever its calls do not stop
pub done_elsewhere : (t : TargetState) (answered : Option ℕ) (p : Program) (before : Option (List ℕ)) → stop (start_world t answered) (outcome p t before).calls ≡ None → outcome_of (meaning (start_world t answered) p before) ≡ outcome p t before
done_elsewhere t None p before whole = refl
done_elsewhere t (Some n) p before whole = by_limit (limit_cuts n p t before)
  where
    by_limit : laws.IsWhole n (outcome p t before) (outcome_within n p t before) ⊎ laws.IsCutShort n (outcome p t before) (outcome_within n p t before) → outcome_within n p t before ≡ outcome p t before
    by_limit (inl h) = h.same
    by_limit (inr h) =
        let few : length (outcome p t before).calls ≤ n = whole_least (start_world t (Some n)) (outcome p t before).calls whole in
        let long = ap length h.calls ∙ length-append (outcome_within n p t before).calls h.more in
        let units = h.units in
        absurd (omega (arith, few, long, units))

-- ---- a program that is not done

-- A sequel asks a call before it writes a line, or does neither.
pub data StartsQuiet (s : Sequel Close) : Type 0 where
  ends : (x : Close) → s ≡ Ends x → StartsQuiet s
  asks : (ask : Ask) (on : ℕ → Sequel Close) → s ≡ Asks ask on → StartsQuiet s

each_quiet : (calls : List Ask) (end : List ℕ → Close) → StartsQuiet (asks_each calls (λ found. Ends (end found)))
each_quiet [] end = ends (end []) refl
each_quiet (a ∷ calls) end = asks a (λ n. asks_each calls (λ found. Ends (end (n ∷ found)))) refl

abbrev Quiet : Option (Sequel Close) → Type 0
Quiet None = ⊥
Quiet (Some q) = StartsQuiet q

pub sequel_quiet : (f : Followed) (s : Sequel Close) → sequel_of f ≡ Some s → StartsQuiet s
sequel_quiet Nothing s is = absurd cc
sequel_quiet (Load ap' image) s is = subst (λ (q : Option (Sequel Close)). Quiet q) is (each_quiet (load_calls ap' (pieces image.now)) (load_close image.now))
sequel_quiet (Scan ap') s is = subst (λ (q : Option (Sequel Close)). Quiet q) is (asks _ _ refl)

same_written : (k : Option (List ℕ)) → option_map (λ (bytes : List ℕ). bytes ++ []) k ≡ k
same_written None = refl
same_written (Some xs) = ap Some (append-nil xs)

module _ (w : World) (s : Sequel Close) (o : Outcome) where
  -- what was asked in the program comes first in the whole
  shares_on : (asked : List Ask) (c : Comes Close) → o.ending ≡ runs.Done → SharesCalls asked o → SharesCalls asked (joined_outcome w o c)
  shares_on asked c done h =
      let few : length h.all ≤ length o.calls = h.only (subst answers.EndsWhole (sym done) tt) in
      record {
        all = settled_last o.calls ++ c.calls;
        ours = from_on asked h.all (settled_last o.calls ++ c.calls) h.ours (on (from_few o.calls h.all h.theirs few));
        theirs = from_same (settled_last o.calls ++ c.calls);
        only = λ whole. omega arith;
      }
    where
      on : (h.all ≡ o.calls) ⊎ (h.all ≡ settled_last o.calls) → GoesOnFrom h.all (settled_last o.calls ++ c.calls)
      on (inl e) = record { more = c.calls; so = inr (ap (λ (l : List Ask). settled_last l ++ c.calls) (sym e)) }
      on (inr e) = record { more = c.calls; so = inl (ap (λ (l : List Ask). l ++ c.calls) (sym e)) }

  part_done : (r : Ran) → o.ending ≡ runs.Done → IsPartOfOutcome o r → IsPartOfOutcome (joined_outcome w o (comes (world_after w o.calls) s)) r
  part_done r done h = record {
    written = grows_on r.written o.written (option_map (λ bytes. bytes ++ (comes (world_after w o.calls) s).written) o.written) h.written (record { part = (comes (world_after w o.calls) s).written; same = refl });
    calls = shares_on r.asks.calls (comes (world_after w o.calls) s) done h.calls;
  }

  -- it was left in its middle
  pub part_on : (r : Ran) → IsPartOfOutcome o r → IsPartOfOutcome (followed_outcome (Some s) w o) r
  part_on r h = by_end o.ending refl
    where
      by_end : (e : runs.Ending) → o.ending ≡ e → IsPartOfOutcome (followed_at w s o e) r
      by_end runs.Done is = part_done r is h
      by_end (runs.Halted cause) is = h
      by_end (runs.Faulted call) is = h
      by_end runs.Unanswered is = h
      by_end runs.Lost is = h

  -- a retry ended in the settling after it: what follows stops at its first call, or asks none
  record Stays (c : Comes Close) (lines : ℕ) : Type 0 where
    stops : StopsAfter NoAnswer lines (joined_outcome w o c)
    written : c.written ≡ []

  settled_done : (lines : ℕ) → o.ending ≡ runs.Done → stop w o.calls ≡ None → w.answered ≡ Some lines → units_of o ≡ lines → StartsQuiet s → Stays (comes (world_after w o.calls) s) lines
  settled_done lines done none answered units (ends x is) = subst (λ (q : Sequel Close). Stays (comes (world_after w o.calls) q) lines) (sym is) (record {
    stops = inr (tt, length-append (settled_last o.calls) [] ∙ (let a = length_marked o.calls in omega (arith, a, units)));
    written = refl;
  })
  settled_done lines done none answered units (asks ask on is) = subst (λ (q : Sequel Close). Stays (comes (world_after w o.calls) q) lines) (sym is)
      (subst (λ (c : Comes Close). Stays c lines) (sym here) (record {
        stops = inl (ap (λ (a : Option ℕ). stopped_by a (ask ∷ [])) none_left, length-append (settled_last o.calls) (ask ∷ []) ∙ (let a = length_marked o.calls in omega (arith, a, units)));
        written = refl;
      }))
    where
      none_left : (world_after w o.calls).answered ≡ Some 0
      none_left = ap (λ (x : World). x.answered) (whole_after w o.calls none) ∙ ap (λ (a : Option ℕ). fewer a (length o.calls)) answered
          ∙ (let same : lines - length o.calls ≡ 0 = omega (arith, units) in ap Some same)

      here : comes (world_after w o.calls) (Asks ask on) ≡ record { calls = ask ∷ []; written = []; end = None }
      here = one (stops_here (world_after w o.calls) ask) (ap (λ (a : Option ℕ). is_over a || is_faulted (done_now (world_after w o.calls) ask).end) none_left)
        where
          one : (b : Bool) → b ≡ true → cond b (stopped_at ask) (call_first ask (comes (next_world (world_after w o.calls) ask) (on (end_result (done_now (world_after w o.calls) ask).end)))) ≡ record { calls = ask ∷ []; written = []; end = None }
          one true e = refl
          one false e = absurd cc

  cut_done : (cause : StopCause) (lines : ℕ) (r : Ran) → o.ending ≡ runs.Done → stop w o.calls ≡ None → w.answered ≡ answered_cut cause lines → StartsQuiet s → EndsAtCut cause lines o r
      → EndsAtCut cause lines (joined_outcome w o (comes (world_after w o.calls) s)) r
  cut_done Faulted lines r done none answered quiet h = absurd (subst EndsAtFault done h.stops.0)
  cut_done NoAnswer lines r done none answered quiet h = by_stop h.stops
    where
      with_stays : Stays (comes (world_after w o.calls) s) lines → EndsAtCut NoAnswer lines (joined_outcome w o (comes (world_after w o.calls) s)) r
      with_stays k = record {
        stops = k.stops;
        written = h.written ∙ sym (same_written o.written) ∙ ap (λ (l : List ℕ). option_map (λ bytes. bytes ++ l) o.written) (sym k.written);
        calls = shares_on r.asks.calls (comes (world_after w o.calls) s) done h.calls;
      }

      by_stop : StopsAfter NoAnswer lines o → EndsAtCut NoAnswer lines (joined_outcome w o (comes (world_after w o.calls) s)) r
      by_stop (inl u) = absurd (let bad : runs.Done ≡ runs.Unanswered = sym done ∙ u.0 in cc)
      by_stop (inr q) = with_stays (settled_done lines done none answered q.1 quiet)

  cut_on : (cause : StopCause) (lines : ℕ) (r : Ran) → StopBy w o.ending o.calls → w.answered ≡ answered_cut cause lines → StartsQuiet s → EndsAtCut cause lines o r → EndsAtCut cause lines (followed_outcome (Some s) w o) r
  cut_on cause lines r made answered quiet h = by_end o.ending refl
    where
      by_end : (e : runs.Ending) → o.ending ≡ e → EndsAtCut cause lines (followed_at w s o e) r
      by_end runs.Done is = cut_done cause lines r is (subst (λ (e : runs.Ending). StopBy w e o.calls) is made) answered quiet h
      by_end (runs.Halted why) is = h
      by_end (runs.Faulted call) is = h
      by_end runs.Unanswered is = h
      by_end runs.Lost is = h

  not_on : (e : runs.Ending) (en : Ending) (lines : ℕ) (r : Ran) → o.ending ≡ e → followed_at w s o e ≡ o → RunEndsAs en lines o r → RunEndsAs en lines (followed_outcome (Some s) w o) r
  not_on e en lines r is same h = subst (λ (x : Outcome). RunEndsAs en lines x r) (sym (ap (followed_at w s o) is ∙ same)) h

  pub ends_on : (en : Ending) (lines : ℕ) (r : Ran) (end : Option Stop) → is_done en ≡ false → StopBy w o.ending o.calls → w.answered ≡ answered_at_end end lines → EndBy en end → StartsQuiet s → RunEndsAs en lines o r → RunEndsAs en lines (followed_outcome (Some s) w o) r
  ends_on ending.Done lines r end none made answered by quiet h = absurd cc
  ends_on (ending.Halted cause) lines r end none made answered by quiet h = not_on (runs.Halted cause) (ending.Halted cause) lines r h.0 refl h
  ends_on (ending.Cut report) lines r end none made answered by quiet h = cut_on report.cause lines r made (answered ∙ ap (λ (e : Option Stop). answered_at_end e lines) by) quiet h
  ends_on (ending.BenchFault issued confirmed) lines r end none made answered by quiet h = part_on r h
  ends_on ending.ReplyBad lines r end none made answered by quiet h = part_on r h
  ends_on ending.WriteFault lines r end none made answered by quiet h = part_on r h
  ends_on ending.OutOfMemory lines r end none made answered by quiet h = part_on r h

-- nothing goes on
pub stays : (f : Followed) (m : BenchState) (answered : Option ℕ) (p : Program) (before : Option (List ℕ)) (en : Ending) (lines : ℕ) (r : Ran) (end : Option Stop) → goes_on f en ≡ false → answered ≡ answered_at_end end lines → EndBy en end
    → RunEndsAs en lines (outcome_of (meaning (world_from m answered) p before)) r → RunEndsAs en lines (followed_outcome (sequel_of f) (world_from m answered) (outcome_of (meaning (world_from m answered) p before))) r
stays Nothing m answered p before en lines r end none is by h = h
stays (Load ap' image) m answered p before en lines r end none is by h =
    ends_on (world_from m answered) (load_sequel ap' image.now) (outcome_of (meaning (world_from m answered) p before)) en lines r end none (are_made (world_from m answered) p before).made.ending is by
    (sequel_quiet (Load ap' image) (load_sequel ap' image.now) refl) h
stays (Scan ap') m answered p before en lines r end none is by h =
    ends_on (world_from m answered) (scanning ap') (outcome_of (meaning (world_from m answered) p before)) en lines r end none (are_made (world_from m answered) p before).made.ending is by
    (sequel_quiet (Scan ap') (scanning ap') refl) h

-- what was left in its middle comes first in the whole
pub part_stays : (f : Followed) (w : World) (o : Outcome) (r : Ran) → IsPartOfOutcome o r → IsPartOfOutcome (followed_outcome (sequel_of f) w o) r
part_stays Nothing w o r h = h
part_stays (Load ap' image) w o r h = part_on w (load_sequel ap' image.now) o r h
part_stays (Scan ap') w o r h = part_on w (scanning ap') o r h
