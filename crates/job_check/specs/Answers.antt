-- What the check of a job's sequences answers.
use Rattle.std.specs.Prelude.{◌≡◌, ℕ, List, Option, Result, Ok, Err, ⊤}
use Rattle.device_tree.specs.declared.pack.Pack.{Pack}
use Rattle.sequence_resolve.specs.declared.selection.Selection.{Selection}
use Rattle.sequence_resolve.specs.declared.entry.SeqSet.{SeqSet}
use Rattle.sequence_resolve.specs.declared.fault.ResolveFault.TheVariants as resolving
use Rattle.sequence_resolve.specs.Resolving.{IsEffectiveSet, HasNone}
use Rattle.sequence_trees.specs.Reading.{ReadsSet}
use Rattle.seq_check.specs.declared.checked.Checked.{Checked}
use Rattle.seq_check.specs.Valid.{IsSound, IsValid, IsFirstFaultOf}
use Rattle.seq_check.specs.Answers.{checked_trees}
use Rattle.job_text.specs.declared.job.Job.{Job}
use Rattle.job_text.specs.declared.job.JobRefusal.TheVariants as jobs
use Rattle.job_text.specs.Answers.{Describes, IsRefused}
use Rattle.dbgconf_text.specs.declared.conf.ConfItem.{ConfItem}
use Rattle.job_check.specs.Values.{HasConf, NoConf, HasStartingValues, NoValues}
use Rattle.job_check.specs.declared.answer.Refusal.{Refusal}
use Rattle.job_check.specs.declared.answer.Refusal.TheVariants as refusals
use Rattle.job_check.specs.declared.answer.ValidSet.{ValidSet}
use Rattle.job_check.specs.declared.answer.CheckRefusal.{CheckRefusal}
use Rattle.job_check.specs.declared.answer.CheckRefusal.TheVariants as ends

-- ---- refusals

-- the bytes are no job: they are the text of no value, or this is the first fault of the value
abbrev pub NoJob : List ℕ → Refusal → Type 0
NoJob bytes refusals.BadJson = IsRefused bytes jobs.BadJson
NoJob bytes (refusals.Job fault) = IsRefused bytes (jobs.Fault fault)
NoJob bytes other = ⊥

-- the pack has no set for the selection: no device of the name, several, or no variant of the name
abbrev pub NoSet : Pack → Selection → Refusal → Type 0
NoSet pack s refusals.NoDevice = HasNone pack s.device s.variant resolving.NoDevice
NoSet pack s refusals.AmbiguousDevice = HasNone pack s.device s.variant resolving.AmbiguousDevice
NoSet pack s refusals.NoVariant = HasNone pack s.device s.variant resolving.NoVariant
NoSet pack s other = ⊥

-- the set is not valid, and this is its first fault
abbrev pub NoValid : SeqSet → Refusal → Type 0
NoValid set (refusals.Check kind spot) = IsFirstFaultOf set kind spot
NoValid set other = ⊥

-- ---- answers

-- the answer to a set: the set, where it is valid, and else its first fault
pub data AnswersCheckedSet (set : SeqSet) (answer : Result SeqSet Refusal) : Type 0 where
  valid : IsValid set → answer ≡ Ok set → AnswersCheckedSet set answer
  not_valid : (r : Refusal) → NoValid set r → answer ≡ Err r → AnswersCheckedSet set answer

-- The answer to the set of a selection, before the values of the job are put into it. It is the answer to the set with the values, and else why
-- they can not be put in.
pub data AnswersPlain (dbgconf : Option (List ℕ)) (items : List ConfItem) (plain : SeqSet) (answer : Result SeqSet Refusal) : Type 0 where
  with_values : (set : SeqSet) → HasStartingValues dbgconf items plain set → AnswersCheckedSet set answer → AnswersPlain dbgconf items plain answer
  without_values : (r : Refusal) → NoValues dbgconf items plain r → answer ≡ Err r → AnswersPlain dbgconf items plain answer

-- the answer to a job whose values are read: that to the set of the selection, and else why there is none
pub data AnswersConf (job : Job) (items : List ConfItem) (s : Selection) (answer : Result SeqSet Refusal) : Type 0 where
  resolved : (plain : SeqSet) → IsEffectiveSet job.pack s.device s.variant s.pname plain → AnswersPlain job.dbgconf items plain answer → AnswersConf job items s answer
  not_resolved : (r : Refusal) → NoSet job.pack s r → answer ≡ Err r → AnswersConf job items s answer

-- The answer to a job and a selection: that to the job with its values, and else why they can not be read. There is one such answer at
-- most (`laws::one_answer`).
pub data IsAnswerOf (job : Job) (s : Selection) (answer : Result SeqSet Refusal) : Type 0 where
  has_conf : (items : List ConfItem) → HasConf job.dbgconf items → AnswersConf job items s answer → IsAnswerOf job s answer
  no_conf : (r : Refusal) → NoConf job.dbgconf r → answer ≡ Err r → IsAnswerOf job s answer

-- The answer to the bytes of a job and a selection: that to the job, and else why the bytes are no job.
-- There is one such answer at most (`laws::one_answer`).
pub data IsCheckAnswer (bytes : List ℕ) (s : Selection) (answer : Result SeqSet Refusal) : Type 0 where
  described : (job : Job) → Describes bytes job → IsAnswerOf job s answer → IsCheckAnswer bytes s answer
  not_described : (r : Refusal) → NoJob bytes r → answer ≡ Err r → IsCheckAnswer bytes s answer

-- ---- what a call answers

-- the grammar reads the texts of the set as these trees, and nothing is wrong with what they say
pub record AreTreesOf (set : SeqSet) (checked : Checked) : Type 0 where
  pub reads : ReadsSet set (checked_trees checked)
  pub sound : IsSound (checked_trees checked)

-- a fact on the refusal, unless memory ran out
abbrev pub OnRefusal : (Refusal → Type 0) → CheckRefusal → Type 0
OnRefusal P (ends.Refused r) = P r
OnRefusal P ends.OutOfMemory = ⊤

-- what is answered is so, unless memory ran out
abbrev pub OnAnswer : (Result SeqSet Refusal → Type 0) → Result ValidSet CheckRefusal → Type 0
OnAnswer P (Ok found) = P (Ok found.set)
OnAnswer P (Err (ends.Refused r)) = P (Err r)
OnAnswer P (Err ends.OutOfMemory) = ⊤

-- this answer, unless memory ran out
abbrev pub AnswersAs : Result SeqSet Refusal → Result ValidSet CheckRefusal → Type 0
AnswersAs answer (Ok found) = answer ≡ Ok found.set
AnswersAs answer (Err (ends.Refused r)) = answer ≡ Err r
AnswersAs answer (Err ends.OutOfMemory) = ⊤
