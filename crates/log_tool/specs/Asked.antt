-- What the words and the bytes of a source ask for.
use Rattle.std.specs.Prelude.{◌≡◌, ℕ, ◌<◌, ◌≤◌, List, length, Option, Some, None}
use Rattle.job_check.specs.declared.own.Own.TheVariants as own
use Rattle.job_check.specs.declared.running.RunRefusal.{RunRefusal}
use Rattle.job_check.specs.declared.running.RunRefusal.TheVariants as refusals
use Rattle.job_check.specs.declared.running.ValidRun.{ValidRun}
use Rattle.job_check.specs.Running.{IsRefusedRun, IsValidRun}
use Rattle.log_words.specs.declared.answer.LogCommand.{LogCommand}
use Rattle.log_words.specs.Asks as words
use Rattle.job_source.specs.Source.{limit}
use Rattle.log_tool.specs.Answers.{of_run}
use Rattle.log_tool.specs.declared.asking.LogAnswer.{LogAnswer}
use Rattle.log_tool.specs.declared.asking.LogAnswer.TheVariants as answers
use Rattle.log_tool.specs.declared.log.RunLog.{RunLog}
use Rattle.log_tool.specs.Logs.{IsLogOf, subject_of, subject_status}
use Rattle.log_tool.specs.declared.status.LogStatus.{LogStatus}

-- ---- the words

-- the words ask for nothing
abbrev pub IsLogUsage : List (List ℕ) → Type 0
IsLogUsage given = (a : LogCommand) → words.WordsAskForLog given a → ⊥

-- the words ask for something
abbrev pub IsLogLine : List (List ℕ) → Type 0
IsLogLine given = (a : LogCommand) × words.WordsAskForLog given a

-- ---- the bytes

-- the answer where no sequence runs, unless memory ran out
abbrev pub answer_of_run_refusal : RunRefusal → Option LogAnswer
answer_of_run_refusal (refusals.Refused r) = Some (answers.Refused r)
answer_of_run_refusal refusals.NoSequence = Some answers.NoSequence
answer_of_run_refusal refusals.OutOfMemory = None

-- what is asked for of bytes: why no sequence of the job runs, or the log of its run
pub data AsksOfJobBytes (bytes : List ℕ) (a : LogCommand) (answer : LogAnswer) : Type 0 where
  no_run : (r : RunRefusal) → IsRefusedRun bytes own.Nothing a.selection a.sequence r → answer_of_run_refusal r ≡ Some answer → AsksOfJobBytes bytes a answer
  run : (valid : ValidRun) (log : RunLog) → IsValidRun bytes own.Nothing a.selection a.sequence valid → IsLogOf a.turns a.fail (subject_of valid a.sequence) log
      → answer ≡ answers.Log log → AsksOfJobBytes bytes a answer

-- This is what the words and all the bytes of the source ask for.
pub data AsksForLog (given : List (List ℕ)) (bytes : List ℕ) (answer : LogAnswer) : Type 0 where
  usage : IsLogUsage given → answer ≡ answers.Usage → AsksForLog given bytes answer
  too_long : IsLogLine given → limit < length bytes → answer ≡ answers.TooLong → AsksForLog given bytes answer
  job : (a : LogCommand) → words.WordsAskForLog given a → length bytes ≤ limit → AsksOfJobBytes bytes a answer → AsksForLog given bytes answer

-- ---- a run

-- the words name a sequence of the job that the bytes describe, which runs, and this is the status of its run
pub record RunsWithStatus (given : List (List ℕ)) (bytes : List ℕ) (end : LogStatus) : Type 0 where
  pub asked : LogCommand
  pub asks : words.WordsAskForLog given asked
  pub short : length bytes ≤ limit
  pub valid : ValidRun
  pub runs : IsValidRun bytes own.Nothing asked.selection asked.sequence valid
  pub status : end ≡ of_run (subject_status asked.fail (subject_of valid asked.sequence))
