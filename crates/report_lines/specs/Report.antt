-- The report of a run.
use Rattle.std.specs.Prelude.{ℕ, Bool, List, [], ◌++◌, if◌then◌else◌}
use Rattle.target_machine.specs.State.{TargetState}
use Rattle.job_text.specs.declared.job.Job.{Job}
use Rattle.access_calls.specs.declared.ended.Ended.{Ended}
use Rattle.report_lines.specs.Endings.{ending_lines, shows_target}
use Rattle.report_lines.specs.Target.{target_lines}

-- the lines of the target, where the ending shows it
abbrev pub target_part : Bool → Job → TargetState → List ℕ
target_part shows job t = if shows then target_lines t job.bench.target.aps job.watch else []

-- the report of a run of a job: how it ended, with the packet and the reply that ended it, and the target
abbrev pub report : Ended → List ℕ → List ℕ → Job → TargetState → List ℕ
report ended sent got job t = ending_lines ended.ending ended sent got ++ target_part (shows_target ended.ending) job t
