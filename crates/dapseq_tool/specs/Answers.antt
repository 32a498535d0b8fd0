-- What is written besides reports, and the exit statuses.
use Rattle.std.specs.Prelude.{ℕ, List, [], ◌++◌, codes, decimal, Option, Some, None, Result, Ok, Err, ⊤}
use Rattle.access_calls.specs.declared.ended.Ending.{Ending}
use Rattle.access_calls.specs.declared.ended.Ending.TheVariants as e
use Rattle.check_lines.specs.CheckLines.{check_text}
use Rattle.check_lines.specs.RefusalLines.{refusal_line, too_long_line, no_sequence_line, usage_line}
use Rattle.report_lines.specs.Audit.{audit_fault_line, audited_lines}
use Rattle.report_lines.specs.declared.put.TextEnd.{TextEnd}
use Rattle.report_lines.specs.declared.put.TextEnd.TheVariants as texts
use Rattle.sequels.specs.declared.close.Close.{Close}
use Rattle.sequels.specs.declared.close.Close.TheVariants as closes
use Rattle.text_lines.specs.declared.putting.TextError.{TextError}
use Rattle.text_lines.specs.declared.putting.TextError.TheVariants as errors
use Rattle.dapseq_tool.specs.declared.asking.Answer.{Answer}
use Rattle.dapseq_tool.specs.declared.asking.Answer.TheVariants as answers
use Rattle.dapseq_tool.specs.declared.status.Status.{Status}
use Rattle.dapseq_tool.specs.declared.status.Status.TheVariants as status

-- the status as the number with which the program ends
abbrev pub dapseq_exit_code : Status → ℕ
dapseq_exit_code status.Done = 0
dapseq_exit_code status.Refused = 1
dapseq_exit_code status.Usage = 2
dapseq_exit_code status.Stopped = 3
dapseq_exit_code status.BenchFault = 4
dapseq_exit_code status.ReadFault = 5
dapseq_exit_code status.WriteFault = 6
dapseq_exit_code status.OutOfMemory = 7
dapseq_exit_code status.ReplyBad = 8

-- the line of a job without a trace, in an audit
abbrev pub no_trace_line : List ℕ
no_trace_line = codes "refused Missing #/trace\n"

-- what is written where no sequence runs
unfoldable pub answer_text : Answer → List ℕ
answer_text answers.Usage = usage_line
answer_text answers.TooLong = too_long_line
answer_text answers.NoSequence = no_sequence_line
answer_text (answers.Refused refusal) = refusal_line refusal
answer_text (answers.CheckOk set) = check_text set
answer_text (answers.Audited audit) = audited_lines audit.audited audit.job
answer_text (answers.AuditRefused fault) = audit_fault_line fault
answer_text answers.NoTrace = no_trace_line

-- the status where no sequence runs
unfoldable pub answer_status : Answer → Status
answer_status answers.Usage = status.Usage
answer_status answers.TooLong = status.Refused
answer_status answers.NoSequence = status.Refused
answer_status (answers.Refused refusal) = status.Refused
answer_status (answers.CheckOk set) = status.Done
answer_status (answers.Audited audit) = status.Done
answer_status (answers.AuditRefused fault) = status.Refused
answer_status answers.NoTrace = status.Refused

-- the status after a run that is done, by how what follows it came to its end
abbrev pub close_status : Close → Status
close_status closes.Nothing = status.Done
close_status (closes.Loaded bytes writes) = status.Done
close_status (closes.Differs address wanted found) = status.Stopped
close_status closes.Scanned = status.Done
close_status closes.Full = status.Stopped

-- the status after a run, by how it ended
abbrev pub run_status : Ending → Close → Status
run_status e.Done close = close_status close
run_status (e.Halted cause) close = status.Stopped
run_status (e.Cut report) close = status.Stopped
run_status (e.BenchFault issued confirmed) close = status.BenchFault
run_status e.ReplyBad close = status.ReplyBad
run_status e.WriteFault close = status.WriteFault
run_status e.OutOfMemory close = status.OutOfMemory

-- the status where a text after a run was not written whole
abbrev pub text_status : TextEnd → Status
text_status texts.BenchFault = status.BenchFault
text_status texts.WriteFault = status.WriteFault
text_status texts.OutOfMemory = status.OutOfMemory

-- the status where a line was not written
abbrev pub failed_status : TextError → Status
failed_status errors.Failed = status.WriteFault
failed_status errors.OutOfMemory = status.OutOfMemory

-- the status after a run that ended so, by how its text was written
abbrev pub status_after : Result (Unit {0}) TextEnd → Ending → Close → Status
status_after (Ok done) ending close = run_status ending close
status_after (Err end) ending close = text_status end

-- a status that an answer can have, written whole or not
abbrev pub IsAnswerStatus : Status → Type 0
IsAnswerStatus status.Done = ⊤
IsAnswerStatus status.Refused = ⊤
IsAnswerStatus status.Usage = ⊤
IsAnswerStatus status.WriteFault = ⊤
IsAnswerStatus status.OutOfMemory = ⊤
IsAnswerStatus other = ⊥

-- a status that a run can have
abbrev pub IsRunStatus : Status → Type 0
IsRunStatus status.Refused = ⊥
IsRunStatus status.Usage = ⊥
IsRunStatus status.ReadFault = ⊥
IsRunStatus other = ⊤

-- the line that stands first where a job is made of a number
abbrev pub head_text : Option ℕ → List ℕ
head_text None = []
head_text (Some n) = codes "gen " ++ decimal n ++ codes "\n"
