-- The program, and what follows from what a call of it does.
use Rattle.std.specs.Prelude.{ℕ, List, Option}
use Rattle.job_source.specs.Source.{AreBytesOf}
use Rattle.tool_calls.specs.Calls.{FaultStatuses, Tool}
use Rattle.faults_tool.specs.Answers.{faults_answer_status, faults_answer_text}
use Rattle.faults_tool.specs.Asked.{AreAllValid, AsksForFaults, IsFaultsLine}
use Rattle.faults_tool.specs.declared.asking.FaultsAnswer.{FaultsAnswer}
use Rattle.faults_tool.specs.declared.status.FaultsStatus.{FaultsStatus}
use Rattle.faults_tool.specs.declared.status.FaultsStatus.TheVariants as status

-- the statuses of its faults
abbrev pub faults_fault_statuses : FaultStatuses FaultsStatus
faults_fault_statuses = record { read = status.ReadFault; write = status.WriteFault; memory = status.OutOfMemory }

-- what words and bytes ask for, and how an answer is written
abbrev pub faults_program : Tool FaultsAnswer FaultsStatus
faults_program = record { IsLine = IsFaultsLine; Asks = AsksForFaults; text = faults_answer_text; status = faults_answer_status; faults = faults_fault_statuses }

-- the bytes of the source, where it is observable, describe a pack, and each of its sets that the words name is valid
abbrev pub IsCallOfValid : List (List ℕ) → Option (List ℕ) → Type 0
IsCallOfValid words left = (bytes : List ℕ) × AreBytesOf left bytes × AreAllValid words bytes
