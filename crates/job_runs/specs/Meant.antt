-- A run ends as it is meant to.
use Rattle.std.specs.Prelude.{◌≡◌, ◌≤◌, ⊤}
use Rattle.std.specs.List.{All}
use Rattle.access_calls.specs.Standing.{transfer_setting_of}
use Rattle.access_calls.specs.declared.ended.Ending.{Ending}
use Rattle.access_calls.specs.declared.ended.Ending.TheVariants as e
use Rattle.access_calls.specs.declared.stop.Report.{Report}
use Rattle.access_calls.specs.declared.stop.StopCause.TheVariants.{Faulted, NoAnswer}
use Rattle.control_flow.specs.Answers as answers
use Rattle.control_flow.specs.Answers.{EndsAtFault}
use Rattle.sequence_rules.specs.Runs as runs
use Rattle.job_runs.specs.Runs.{IsFaultStop, IsRetryStop, Left, NoneEnded, Run, RunIsWhole, outcome_in}

-- the run ended so, by what it means
abbrev pub IsSameEnd : runs.Ending → Ending → Type 0
IsSameEnd runs.Done ending = ending ≡ e.Done
IsSameEnd (runs.Halted cause) ending = ending ≡ e.Halted cause
IsSameEnd other ending = ⊥

-- the bench, the sink or memory failed
abbrev pub FailedOutside : Ending → Type 0
FailedOutside (e.BenchFault issued confirmed) = ⊤
FailedOutside e.WriteFault = ⊤
FailedOutside e.OutOfMemory = ⊤
FailedOutside other = ⊥

-- the report of a fault
pub record HasFaulted (run : Run) (l : Left) : Type 0 where
  pub report : Report
  pub ending : l.ended.ending ≡ e.Cut report
  pub cause : report.cause ≡ Faulted
  pub stop : IsFaultStop run report l

-- the report of an ended retry
pub record HasNoAnswer (run : Run) (l : Left) : Type 0 where
  pub report : Report
  pub ending : l.ended.ending ≡ e.Cut report
  pub cause : report.cause ≡ NoAnswer
  pub stop : IsRetryStop run report l

-- Where no retry ended, a run that is meant to be done or to halt does so, with all that it means. One that is meant to end at a fault is then
-- stopped there. Where a retry ended, the run is stopped there; where no transfer meets more WAITs than the retry number allows, none ends.
pub record EndsAsMeant (run : Run) (l : Left) : Type 0 where
  pub whole : answers.EndsWhole (outcome_in run).ending → NoneEnded run l → IsSameEnd (outcome_in run).ending l.ended.ending × RunIsWhole run l
  pub faulted : EndsAtFault (outcome_in run).ending → NoneEnded run l → HasFaulted run l
  pub unanswered : (NoneEnded run l → ⊥) → HasNoAnswer run l
  pub none_over : All (λ stall. stall ≤ (transfer_setting_of run.first).retry) (transfer_setting_of run.first).stalls → NoneEnded run l
