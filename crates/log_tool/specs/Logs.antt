-- What a logged run comes to: its text, and its status.
use Rattle.std.specs.Prelude.{◌≡◌, ℕ, nat_eq, Bool, not, ◌&&◌, ◌||◌, List, [], ◌++◌, codes, decimal, slice_get, unwrap_or, Option, Some, None, if◌then◌else◌}
use Rattle.job_check.specs.declared.running.ValidRun.{ValidRun}
use Rattle.log_lines.specs.LogText.{text_after_events, text_of_events}
use Rattle.log_lines.specs.Places.{spot_words}
use Rattle.logged_runs.specs.Seen.{has_error, has_timeout}
use Rattle.report_lines.specs.Calls.{call_words}
use Rattle.report_lines.specs.Endings.{done_line, halted_line}
use Rattle.run_coverage.specs.Text.{coverage_text}
use Rattle.run_events.specs.Events.{Event, places_reached}
use Rattle.run_events.specs.OfRuns.{events, shown_events}
use Rattle.seq_check.specs.Answers.{checked_trees}
use Rattle.sequence_rules.specs.Runs as ending
use Rattle.sequence_rules.specs.Runs.{Ending, Outcome, Program, outcome, program_of, units_of}
use Rattle.sequence_rules.specs.Variables.{value_named}
use Rattle.sequence_rules.specs.declared.bindings.Binding.{Binding}
use Rattle.sequence_trees.specs.declared.spot.Spot.{Spot}
use Rattle.target_machine.specs.Start.{start}
use Rattle.target_machine.specs.State.{TargetState}
use Rattle.log_tool.specs.declared.log.RunLog.{RunLog}
use Rattle.log_tool.specs.declared.log.RunStatus.{RunStatus}
use Rattle.log_tool.specs.declared.log.RunStatus.TheVariants as came

-- ---- a run

-- What is run, and the target on which it begins.
pub record Subject : Type 0 where
  pub program : Program
  pub target : TargetState

-- the sequence of this name of a job, on the target of the job
abbrev pub subject_of : ValidRun → List ℕ → Subject
subject_of valid sequence =
    record { program = program_of (checked_trees valid.trees) sequence valid.job.settings; target = start valid.job.bench.target }

-- all that is seen of the run
abbrev pub subject_events : Subject → List Event
subject_events s = events s.program s.target None

-- what the run comes to
abbrev pub subject_outcome : Subject → Outcome
subject_outcome s = outcome s.program s.target None

-- ---- its text

-- How a run ended, as its report says it. The last two endings are of no valid set.
abbrev pub end_line : Ending → ℕ → List ℕ
end_line ending.Done units = done_line
end_line (ending.Halted cause) units = halted_line cause
end_line (ending.Faulted call) units = codes "end faulted unit " ++ decimal units ++ codes " " ++ call_words call ++ codes "\n"
end_line ending.Unanswered units = []
end_line ending.Lost units = []

-- where a run stopped, unless it is done: the place that the running sequence reached
abbrev pub stop_place : Ending → List Event → Option Spot
stop_place ending.Done seen = None
stop_place other seen = slice_get (places_reached seen) 0

-- the line of that place, where there is one
abbrev pub at_line : Option Spot → List ℕ
at_line None = []
at_line (Some spot) = codes "at " ++ spot_words spot ++ codes "\n"

-- the lines after the events: how the run ended, where it stopped, and what it covered
abbrev pub last_lines : Subject → List ℕ
last_lines s =
    end_line (subject_outcome s).ending (units_of (subject_outcome s))
    ++ (at_line (stop_place (subject_outcome s).ending (subject_events s)) ++ coverage_text s.program.set s.program.start (subject_events s))

-- the whole text, in which of each loop the first turns are shown, so many, and the last one
abbrev pub log_text : ℕ → Subject → List ℕ
log_text turns s = text_of_events (shown_events turns s.program s.target None) ++ last_lines s

-- ---- its status

-- `__Result` is not 0
abbrev pub has_nonzero_result : List (Binding ℕ) → Bool
has_nonzero_result variables = not (nat_eq (unwrap_or (value_named variables (codes "__Result")) 0) 0)

-- a run fails: a loop timed out, an error was written by `Message(2, ..)`, or `__Result` is not 0
abbrev pub is_failed : Subject → Bool
is_failed s = (has_timeout (subject_events s) || has_error (subject_events s)) || has_nonzero_result (subject_outcome s).variables

-- the status of a run that ended so
abbrev pub ended_status : Bool → Ending → RunStatus
ended_status failed ending.Done = if failed then came.Failed else came.Done
ended_status failed (ending.Halted cause) = came.Stopped
ended_status failed (ending.Faulted call) = came.Stopped
ended_status failed ending.Unanswered = came.Stopped
ended_status failed ending.Lost = came.Stopped

-- the status of a run; whether it fails counts only where that is asked for
abbrev pub subject_status : Bool → Subject → RunStatus
subject_status fail s = ended_status (fail && is_failed s) (subject_outcome s).ending

-- ---- its log

-- This is the log of a run, in which of each loop so many turns and the last are shown, and the status of the run.
pub record IsLogOf (turns : ℕ) (fail : Bool) (s : Subject) (log : RunLog) : Type 0 where
  pub seen : log.log ≡ text_after_events (record { text = []; depth = 0 }) (shown_events turns s.program s.target None)
  pub last : log.last ≡ last_lines s
  pub status : log.status ≡ subject_status fail s
