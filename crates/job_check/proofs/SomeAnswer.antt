-- The bytes of a job and a selection have an answer.
use Rattle.std.proofs.Common.{inl, inr, ℕ, List, Option, Result, Ok, Err, refl}
use Rattle.sequence_resolve.specs.declared.selection.Selection.{Selection}
use Rattle.sequence_resolve.specs.declared.entry.SeqSet.{SeqSet}
use Rattle.job_text.specs.declared.job.Job.{Job}
use Rattle.dbgconf_text.specs.declared.conf.ConfItem.{ConfItem}
use Rattle.job_check.specs.declared.answer.Refusal.{Refusal}
use Rattle.job_check.specs.declared.answer.Refusal.TheVariants as refusals
use Rattle.job_check.specs.Answers.{AnswersCheckedSet, valid, not_valid, AnswersPlain, with_values, without_values, AnswersConf, resolved, not_resolved, IsAnswerOf, has_conf, no_conf, IsCheckAnswer, described, not_described}
use Rattle.job_check.proofs.SomeValues.{conf_or_none, values_or_none}
use Rattle.job_check.proofs.SomeJob.{job_or_none}
use Rattle.job_check.proofs.SomeSet.{set_or_none}
use Rattle.seq_check.proofs.SomeSetFault.{valid_or_fault}

of_set : (set : SeqSet) → (answer : Result SeqSet Refusal) × AnswersCheckedSet set answer
of_set set = elim (valid_or_fault set) [
  | inl is ↦ (Ok set, valid is refl)
  | inr f ↦ (Err (refusals.Check f.0 f.1), not_valid (refusals.Check f.0 f.1) f.2 refl)
]

of_plain : (dbgconf : Option (List ℕ)) (items : List ConfItem) (plain : SeqSet) → (answer : Result SeqSet Refusal) × AnswersPlain dbgconf items plain answer
of_plain dbgconf items plain = elim (values_or_none dbgconf items plain) [
  | inl found ↦ let a = of_set found.0 in (a.0, with_values found.0 found.1 a.1)
  | inr none ↦ (Err none.0, without_values none.0 none.1 refl)
]

of_conf : (job : Job) (items : List ConfItem) (s : Selection) → (answer : Result SeqSet Refusal) × AnswersConf job items s answer
of_conf job items s = elim (set_or_none job.pack s) [
  | inl found ↦ let a = of_plain job.dbgconf items found.0 in (a.0, resolved found.0 found.1 a.1)
  | inr none ↦ (Err none.0, not_resolved none.0 none.1 refl)
]

pub some_answer_of : (job : Job) (s : Selection) → (answer : Result SeqSet Refusal) × IsAnswerOf job s answer
some_answer_of job s = elim (conf_or_none job.dbgconf) [
  | inl found ↦ let a = of_conf job found.0 s in (a.0, has_conf found.0 found.1 a.1)
  | inr none ↦ (Err none.0, no_conf none.0 none.1 refl)
]

pub some_answer : (bytes : List ℕ) (s : Selection) → (answer : Result SeqSet Refusal) × IsCheckAnswer bytes s answer
some_answer bytes s = elim (job_or_none bytes) [
  | inl found ↦ let a = some_answer_of found.0 s in (a.0, described found.0 found.1 a.1)
  | inr none ↦ (Err none.0, not_described none.0 none.1 refl)
]
