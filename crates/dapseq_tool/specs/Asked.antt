-- What the words and the bytes of a source ask for.
use Rattle.std.specs.Prelude.{◌≡◌, ⊤, ℕ, nat_le, List, length, Option, Some, None, Result, Ok, Err, MatchBool}
use Rattle.command_words.specs.declared.answer.Command.{Command}
use Rattle.command_words.specs.declared.answer.Command.TheVariants as commands
use Rattle.command_words.specs.Table.{WordsAreCommand}
use Rattle.sequence_resolve.specs.declared.selection.Selection.{Selection}
use Rattle.sequence_resolve.specs.declared.entry.SeqSet.{SeqSet}
use Rattle.probe_core.specs.Ranges.{IsBenchJob}
use Rattle.job_text.specs.Ranges.{AreSettings, AreWatched}
use Rattle.job_check.specs.declared.answer.Refusal.{Refusal}
use Rattle.job_check.specs.declared.own.Own.{Own}
use Rattle.job_check.specs.declared.own.Own.TheVariants as own
use Rattle.job_check.specs.declared.running.RunRefusal.{RunRefusal}
use Rattle.job_check.specs.declared.running.RunRefusal.TheVariants as refusals
use Rattle.job_check.specs.Answers.{IsCheckAnswer}
use Rattle.job_check.specs.Running.{IsRefusedRun, IsSameRun, IsValidRun}
use Rattle.job_source.specs.Source.{limit}
use Rattle.dapseq_tool.specs.Audit.{AsksOfAudit}
use Rattle.dapseq_tool.specs.Generated.{its_device, its_sequence, job_text}
use Rattle.dapseq_tool.specs.declared.asking.Answer.{Answer}
use Rattle.dapseq_tool.specs.declared.asking.Answer.TheVariants as answers
use Rattle.dapseq_tool.specs.declared.asking.Purpose.{Purpose}
use Rattle.dapseq_tool.specs.declared.asking.Purpose.TheVariants as purposes
use Rattle.dapseq_tool.specs.declared.asking.Requested.{Requested}
use Rattle.dapseq_tool.specs.declared.asking.Run.{Run}
use Rattle.dapseq_tool.specs.declared.auditing.Audit.{Audit}
use Rattle.dapseq_tool.specs.declared.asking.What.{What}
use Rattle.dapseq_tool.specs.declared.asking.What.TheVariants as whats

-- ---- the words

-- the words are no command
abbrev pub IsNoCommand : List (List ℕ) → Type 0
IsNoCommand words = (c : Command) → WordsAreCommand words c → ⊥

-- the command reads the source
abbrev pub ReadsSource : Command → Type 0
ReadsSource (commands.Gen number) = ⊥
ReadsSource other = ⊤

-- the command runs a sequence
abbrev pub IsRunCommand : Command → Type 0
IsRunCommand (commands.Check s) = ⊥
IsRunCommand commands.Audit = ⊥
IsRunCommand other = ⊤

-- the words are a command that reads the source
abbrev pub IsReadLine : List (List ℕ) → Type 0
IsReadLine words = (c : Command) × WordsAreCommand words c × ReadsSource c

-- the words are a command that runs a sequence
abbrev pub IsRunLine : List (List ℕ) → Type 0
IsRunLine words = (c : Command) × WordsAreCommand words c × IsRunCommand c

-- ---- a check

-- what is asked for by the answer to a check: a valid set, or a refusal
abbrev pub of_check : Result SeqSet Refusal → What
of_check (Ok set) = whats.Answer (answers.CheckOk set)
of_check (Err r) = whats.Answer (answers.Refused r)

-- a check of the bytes asks for its answer: the valid set of the selection, or a refusal
abbrev pub AsksOfCheck : Selection → List ℕ → What → Type 0
AsksOfCheck s bytes what = (answer : Result SeqSet Refusal) × IsCheckAnswer bytes s answer × (what ≡ of_check answer)

-- ---- a run

-- what a mode that runs needs of a job besides its sequences
abbrev pub own_for_purpose : Purpose → Own
own_for_purpose purposes.Run = own.Nothing
own_for_purpose purposes.Trace = own.Nothing
own_for_purpose purposes.Load = own.Image
own_for_purpose (purposes.Scan ap) = own.Nothing

-- the sequence runs, with what is done besides
pub record IsRunOf (s : Selection) (sequence : List ℕ) (purpose : Purpose) (bytes : List ℕ) (run : Run) : Type 0 where
  pub name : run.sequence ≡ sequence
  pub mode : run.purpose ≡ purpose
  pub valid : IsValidRun bytes (own_for_purpose purpose) s sequence run.valid

-- no sequence runs, for this reason
abbrev pub IsNoRunOf : Selection → List ℕ → Purpose → List ℕ → Answer → Type 0
IsNoRunOf s sequence purpose bytes answers.NoSequence = IsRefusedRun bytes (own_for_purpose purpose) s sequence refusals.NoSequence
IsNoRunOf s sequence purpose bytes (answers.Refused r) = IsRefusedRun bytes (own_for_purpose purpose) s sequence (refusals.Refused r)
IsNoRunOf s sequence purpose bytes other = ⊥

-- what is asked for where no sequence runs, unless memory ran out
abbrev pub of_refused : RunRefusal → Option What
of_refused (refusals.Refused r) = Some (whats.Answer (answers.Refused r))
of_refused refusals.NoSequence = Some (whats.Answer answers.NoSequence)
of_refused refusals.OutOfMemory = None

-- the run of a sequence, or why none runs
abbrev pub AsksOfRun : Selection → List ℕ → Purpose → List ℕ → What → Type 0
AsksOfRun s sequence purpose bytes (whats.Run run) = IsRunOf s sequence purpose bytes run
AsksOfRun s sequence purpose bytes (whats.Answer answer) = IsNoRunOf s sequence purpose bytes answer

-- ---- together

-- what a command asks for of the bytes of a source
abbrev pub CommandAsksOfBytes : Command → List ℕ → What → Type 0
CommandAsksOfBytes (commands.Check s) bytes what = AsksOfCheck s bytes what
CommandAsksOfBytes (commands.Run s sequence) bytes what = AsksOfRun s sequence purposes.Run bytes what
CommandAsksOfBytes (commands.Trace s sequence) bytes what = AsksOfRun s sequence purposes.Trace bytes what
CommandAsksOfBytes (commands.Load s sequence) bytes what = AsksOfRun s sequence purposes.Load bytes what
CommandAsksOfBytes (commands.Scan s sequence ap) bytes what = AsksOfRun s sequence (purposes.Scan ap) bytes what
CommandAsksOfBytes (commands.Gen number) bytes what = ⊥
CommandAsksOfBytes commands.Audit bytes what = AsksOfAudit bytes what

-- the same, of bytes of which there may be too many
abbrev pub AsksOfCommand : Command → List ℕ → What → Type 0
AsksOfCommand c bytes what = MatchBool (nat_le (length bytes) limit) (CommandAsksOfBytes c bytes what) (what ≡ whats.Answer answers.TooLong)

-- This is what the words and all the bytes of the source ask for. In the mode `gen` the bytes are those of the job of the number.
pub data AsksForRequest (words : List (List ℕ)) (bytes : List ℕ) (asked : Requested) : Type 0 where
  usage : IsNoCommand words → asked.number ≡ None → asked.what ≡ whats.Answer answers.Usage → AsksForRequest words bytes asked
  command : (c : Command) → WordsAreCommand words c → ReadsSource c → asked.number ≡ None → AsksOfCommand c bytes asked.what → AsksForRequest words bytes asked
  generated : (n : ℕ) → WordsAreCommand words (commands.Gen n) → asked.number ≡ Some n →
      AsksOfRun its_device its_sequence purposes.Run (job_text n) asked.what → AsksForRequest words bytes asked

-- ---- a run that is asked for

-- a fact on the run that is asked for, if one is
abbrev pub OnRun : What → (Run → Type 0) → Type 0
OnRun (whats.Run run) P = P run
OnRun (whats.Answer answer) P = ⊤

-- the settings, the bench and the watched words are in their ranges
pub record IsSoundRun (run : Run) : Type 0 where
  pub settings : AreSettings run.valid.job.settings
  pub watch : AreWatched run.valid.job.bench.target.memory run.valid.job.watch
  pub bench : IsBenchJob run.valid.job.bench

-- ---- what is asked for, in its ranges

-- the bench and the watched words are in their ranges
pub record IsSoundAudit (audit : Audit) : Type 0 where
  pub bench : IsBenchJob audit.job.bench
  pub watch : AreWatched audit.job.bench.target.memory audit.job.watch

-- the job of an accepted trace is in its ranges; any other answer has no job
unfoldable pub IsSoundAnswer : Answer → Type 0
IsSoundAnswer (answers.Audited audit) = IsSoundAudit audit
IsSoundAnswer other = ⊤

-- the job of a run, or of the answer, is in its ranges
unfoldable pub IsSoundWhat : What → Type 0
IsSoundWhat (whats.Run run) = IsSoundRun run
IsSoundWhat (whats.Answer answer) = IsSoundAnswer answer

-- the job of a run or of an accepted trace is in its ranges
pub record IsSoundRequest (what : What) : Type 0 where
  pub so : IsSoundWhat what

-- ---- one thing

-- two runs of one job with the same set and the same trees, of one sequence, with the same done besides
pub record IsSameAsked (x y : Run) : Type 0 where
  pub valid : IsSameRun x.valid y.valid
  pub name : x.sequence ≡ y.sequence
  pub mode : x.purpose ≡ y.purpose

-- the same answer, or the same run
abbrev pub IsSameWhat : What → What → Type 0
IsSameWhat (whats.Answer a) (whats.Answer b) = a ≡ b
IsSameWhat (whats.Run a) (whats.Run b) = IsSameAsked a b
IsSameWhat (whats.Answer a) (whats.Run b) = ⊥
IsSameWhat (whats.Run a) (whats.Answer b) = ⊥
