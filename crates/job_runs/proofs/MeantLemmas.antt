-- A run that nothing outside disturbed ends as it is meant to.
use Rattle.std.proofs.Common.{◌≡◌, ◌⊎◌, inl, inr, ℕ, ◌+◌, ◌<◌, ◌≤◌, List, length, refl, sym, subst, arith}
use Rattle.std.specs.List.{All}
use Rattle.std.specs.Prelude.{slice_index}
use Rattle.std.proofs.lemmas.Bool.{cases_lt}
use Rattle.std.proofs.lemmas.List.Elements.{All-get_or}
use Rattle.std.proofs.lemmas.List.{get_or_past}
use Rattle.access_calls.specs.Standing.{transfer_setting_of}
use Rattle.probe_core.specs.Probe.{ended_retries_of}
use Rattle.access_calls.specs.declared.ended.Ending.{Ending}
use Rattle.access_calls.specs.declared.ended.Ending.TheVariants as e
use Rattle.access_calls.specs.declared.stop.Report.{Report}
use Rattle.access_calls.specs.declared.stop.StopCause.{StopCause}
use Rattle.access_calls.specs.declared.stop.StopCause.TheVariants.{Faulted, NoAnswer}
use Rattle.control_flow.specs.Answers as answers
use Rattle.control_flow.specs.Answers.{EndsAtFault, StopsAfter}
use Rattle.sequence_rules.specs.Runs as runs
use Rattle.job_runs.specs.Meant.{EndsAsMeant, FailedOutside, IsSameEnd}
use Rattle.job_runs.specs.Runs.{IsFaultStop, IsRetryStop, IsStop, RunIsWhole, Left, LeavesAs, Run, outcome_in}

not_both : (o : runs.Ending) → answers.EndsWhole o → EndsAtFault o → ⊥
not_both runs.Done w f = f
not_both (runs.Halted cause) w f = f
not_both (runs.Faulted call) w f = w
not_both runs.Unanswered w f = f
not_both runs.Lost w f = f

one_more : (a b : ℕ) → a ≡ b + 1 → a ≡ b → ⊥
one_more a b more same = omega (arith, more, same)

-- where no transfer meets more WAITs than the retry number allows, none at this place does
within : (retry : ℕ) (stalls : List ℕ) (place : ℕ) → All (λ stall. stall ≤ retry) stalls → retry < slice_index stalls place → ⊥
within retry stalls place all over = by_place (cases_lt place (length stalls))
  where
    by_place : (place < length stalls) ⊎ (length stalls ≤ place) → ⊥
    by_place (inl less) = (let few : slice_index stalls place ≤ retry = All-get_or (λ (stall : ℕ). stall ≤ retry) stalls place 0 less all in omega (arith, few, over))
    by_place (inr ge) = (let none : slice_index stalls place ≡ 0 = get_or_past stalls place 0 ge in omega (arith, none, over))

-- a run that is whole
when_whole : (run : Run) (l : Left) (o : runs.Ending) → (outcome_in run).ending ≡ o → IsSameEnd o l.ended.ending → (EndsAtFault o → ⊥) → RunIsWhole run l → EndsAsMeant run l
when_whole run l o is same none whole = record {
  whole = λ w n. (subst (λ (x : runs.Ending). IsSameEnd x l.ended.ending) (sym is) same, whole);
  faulted = λ f n. absurd (none (subst EndsAtFault is f));
  unanswered = λ some. absurd (some whole.retries);
  none_over = λ all. whole.retries;
}

-- a run that was stopped at a fault
when_faulted : (run : Run) (l : Left) (r : Report) → r.cause ≡ Faulted → l.ended.ending ≡ e.Cut r → IsFaultStop run r l → EndsAsMeant run l
when_faulted run l r cause is stop = record {
  whole = λ w n. absurd (not_both (outcome_in run).ending w (subst (λ (c : StopCause). StopsAfter c stop.lines (outcome_in run)) cause stop.stopped.stops).0);
  faulted = λ f n. record { report = r; ending = is; cause = cause; stop = stop };
  unanswered = λ some. absurd (some stop.retries);
  none_over = λ all. stop.retries;
}

-- a run that was stopped at an ended retry
when_unanswered : (run : Run) (l : Left) (r : Report) → r.cause ≡ NoAnswer → l.ended.ending ≡ e.Cut r → IsRetryStop run r l → EndsAsMeant run l
when_unanswered run l r cause is stop = record {
  whole = λ w n. absurd (one_more (ended_retries_of l.bench.probe) (ended_retries_of run.first.probe) stop.retries n);
  faulted = λ f n. absurd (one_more (ended_retries_of l.bench.probe) (ended_retries_of run.first.probe) stop.retries n);
  unanswered = λ some. record { report = r; ending = is; cause = cause; stop = stop };
  none_over = λ all. absurd (within (transfer_setting_of run.first).retry (transfer_setting_of run.first).stalls stop.over.0 all stop.over.2);
}

when_stopped : (cause : StopCause) (run : Run) (l : Left) (r : Report) → r.cause ≡ cause → l.ended.ending ≡ e.Cut r → IsStop cause run r l → EndsAsMeant run l
when_stopped Faulted run l r is ending stop = when_faulted run l r is ending stop
when_stopped NoAnswer run l r is ending stop = when_unanswered run l r is ending stop

pub ends_as_meant : (ending : Ending) (run : Run) (l : Left) → l.ended.ending ≡ ending → LeavesAs ending run l → (FailedOutside ending → ⊥) → EndsAsMeant run l
ends_as_meant e.Done run l is h none = when_whole run l runs.Done h.0 is (λ f. f) h.1
ends_as_meant (e.Halted cause) run l is h none = when_whole run l (runs.Halted cause) h.0 is (λ f. f) h.1
ends_as_meant (e.Cut r) run l is h none = when_stopped r.cause run l r refl is h
ends_as_meant (e.BenchFault issued confirmed) run l is h none = absurd (none tt)
ends_as_meant e.ReplyBad run l is h none = absurd h
ends_as_meant e.WriteFault run l is h none = absurd (none tt)
ends_as_meant e.OutOfMemory run l is h none = absurd (none tt)
