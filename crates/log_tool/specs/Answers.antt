-- What is written, and the exit statuses.
use Rattle.std.specs.Prelude.{ℕ, List, ◌++◌, codes}
use Rattle.check_lines.specs.RefusalLines.{no_sequence_line, refusal_line, too_long_line}
use Rattle.log_tool.specs.declared.asking.LogAnswer.{LogAnswer}
use Rattle.log_tool.specs.declared.asking.LogAnswer.TheVariants as answers
use Rattle.log_tool.specs.declared.log.RunStatus.{RunStatus}
use Rattle.log_tool.specs.declared.log.RunStatus.TheVariants as came
use Rattle.log_tool.specs.declared.status.LogStatus.{LogStatus}
use Rattle.log_tool.specs.declared.status.LogStatus.TheVariants as status

-- the status as the number with which the program ends
abbrev pub log_exit_code : LogStatus → ℕ
log_exit_code status.Done = 0
log_exit_code status.Refused = 1
log_exit_code status.Usage = 2
log_exit_code status.Stopped = 3
log_exit_code status.ReadFault = 5
log_exit_code status.WriteFault = 6
log_exit_code status.OutOfMemory = 7
log_exit_code status.Failed = 10

-- ---- what is written

-- the line of words that ask for nothing
abbrev pub log_usage_line : List ℕ
log_usage_line = codes "usage dapseq_log --device NAME --sequence NAME [--variant NAME] [--pname NAME] [--turns N] [--fail] < JOB\n"

-- the text of an answer
unfoldable pub log_answer_text : LogAnswer → List ℕ
log_answer_text answers.Usage = log_usage_line
log_answer_text answers.TooLong = too_long_line
log_answer_text answers.NoSequence = no_sequence_line
log_answer_text (answers.Refused refusal) = refusal_line refusal
log_answer_text (answers.Log log) = log.log.text ++ log.last

-- ---- statuses

-- the status of a run whose log is written
abbrev pub of_run : RunStatus → LogStatus
of_run came.Done = status.Done
of_run came.Failed = status.Failed
of_run came.Stopped = status.Stopped

-- the status where an answer is written
unfoldable pub log_answer_status : LogAnswer → LogStatus
log_answer_status answers.Usage = status.Usage
log_answer_status answers.TooLong = status.Refused
log_answer_status answers.NoSequence = status.Refused
log_answer_status (answers.Refused refusal) = status.Refused
log_answer_status (answers.Log log) = of_run log.status
