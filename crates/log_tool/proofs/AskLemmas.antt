-- What is asked for, by how the source was read.
use Rattle.std.proofs.Common.{◌≡◌, ℕ, ◌<◌, ◌≤◌, List, length, Option, Some, Result, Ok, Err, refl}
use Rattle.std.specs.Prelude.{IfOk}
use Rattle.dap_base.specs.declared.text.OutOfMemory.{OutOfMemory}
use Rattle.job_check.specs.declared.own.Own.TheVariants as own
use Rattle.job_check.specs.declared.running.RunRefusal.{RunRefusal}
use Rattle.job_check.specs.declared.running.RunRefusal.TheVariants as refusals
use Rattle.job_check.specs.Running.{IsRefusedRun, OnEnd}
use Rattle.job_source.specs.Source.{AreBytesOf, limit}
use Rattle.job_source.proofs.SourceLemmas.{some_bytes}
use Rattle.log_words.specs.declared.answer.LogCommand.{LogCommand}
use Rattle.log_words.specs.Asks as words
use Rattle.log_tool.specs.Asked.{AsksForLog, AsksOfJobBytes, IsLogUsage, answer_of_run_refusal, job, no_run, too_long, usage}
use Rattle.log_tool.specs.declared.asking.LogAnswer.{LogAnswer}
use Rattle.log_tool.specs.declared.asking.LogAnswer.TheVariants as answers

-- the words ask for nothing
pub with_usage : (given : List (List ℕ)) (left : Option (List ℕ)) → IsLogUsage given → (bytes : List ℕ) × AreBytesOf left bytes × AsksForLog given bytes answers.Usage
with_usage given left is = (let some = some_bytes left in (some.0, some.1, usage is refl))

-- there are too many bytes
pub with_too_long : (given : List (List ℕ)) (left : Option (List ℕ)) (a : LogCommand) → words.WordsAskForLog given a
    → (bytes : List ℕ) × AreBytesOf left bytes × (limit < length bytes) → (bytes : List ℕ) × AreBytesOf left bytes × AsksForLog given bytes answers.TooLong
with_too_long given left a asks long = (long.0, long.1, too_long (a, asks) long.2 refl)

-- the bytes ask for an answer
pub with_bytes : (given : List (List ℕ)) (left : Option (List ℕ)) (a : LogCommand) (bytes : List ℕ) (answer : LogAnswer) → words.WordsAskForLog given a → AreBytesOf left bytes
    → length bytes ≤ limit → AsksOfJobBytes bytes a answer → (bytes : List ℕ) × AreBytesOf left bytes × AsksForLog given bytes answer
with_bytes given left a bytes answer asks are short of = (bytes, are, job a asks short of)

-- no sequence runs
pub refused_asks : (bytes : List ℕ) (a : LogCommand) (end : RunRefusal) (r : Result LogAnswer OutOfMemory) → OnEnd (IsRefusedRun bytes own.Nothing a.selection a.sequence) end
    → IfOk r (λ answer. answer_of_run_refusal end ≡ Some answer) → IfOk r (AsksOfJobBytes bytes a)
refused_asks bytes a (refusals.Refused q) (Ok answer) is of = no_run (refusals.Refused q) is of
refused_asks bytes a refusals.NoSequence (Ok answer) is of = no_run refusals.NoSequence is of
refused_asks bytes a refusals.OutOfMemory (Ok answer) is of = absurd (cc)
refused_asks bytes a (refusals.Refused q) (Err e) is of = tt
refused_asks bytes a refusals.NoSequence (Err e) is of = tt
refused_asks bytes a refusals.OutOfMemory (Err e) is of = tt
