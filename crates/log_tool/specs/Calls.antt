-- The program, and what follows from what a call of it does.
use Rattle.std.specs.Prelude.{ℕ, List, Option, ⊤}
use Rattle.job_source.specs.Source.{AreBytesOf}
use Rattle.tool_calls.specs.Calls.{FaultStatuses, Tool}
use Rattle.log_tool.specs.Answers.{log_answer_status, log_answer_text}
use Rattle.log_tool.specs.Asked.{AsksForLog, IsLogLine, RunsWithStatus}
use Rattle.log_tool.specs.declared.asking.LogAnswer.{LogAnswer}
use Rattle.log_tool.specs.declared.status.LogStatus.{LogStatus}
use Rattle.log_tool.specs.declared.status.LogStatus.TheVariants as status

-- the statuses of its faults
abbrev pub log_fault_statuses : FaultStatuses LogStatus
log_fault_statuses = record { read = status.ReadFault; write = status.WriteFault; memory = status.OutOfMemory }

-- what words and bytes ask for, and how an answer is written
abbrev pub log_program : Tool LogAnswer LogStatus
log_program = record { IsLine = IsLogLine; Asks = AsksForLog; text = log_answer_text; status = log_answer_status; faults = log_fault_statuses }

-- the status of a run
abbrev pub IsOfRun : LogStatus → Type 0
IsOfRun status.Done = ⊤
IsOfRun status.Stopped = ⊤
IsOfRun status.Failed = ⊤
IsOfRun other = ⊥

-- the bytes of the source, where it is observable, are a job of which a sequence runs with this status
abbrev pub SourceRunsTo : List (List ℕ) → Option (List ℕ) → LogStatus → Type 0
SourceRunsTo words left end = (bytes : List ℕ) × AreBytesOf left bytes × RunsWithStatus words bytes end
