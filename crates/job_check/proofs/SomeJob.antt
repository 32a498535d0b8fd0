-- Bytes describe a job, or they have a refusal why they are none.
use Rattle.std.proofs.Common.{◌≢◌, ◌⊎◌, inl, inr, ℕ, List, refl}
use Rattle.job_text.specs.declared.job.Job.{Job}
use Rattle.job_text.specs.declared.job.JobRefusal.{JobRefusal}
use Rattle.job_text.specs.declared.job.JobRefusal.TheVariants as jobs
use Rattle.job_text.specs.Answers.{Describes, IsRefused}
use Rattle.job_text.proofs.SomeJob as texts
use Rattle.job_check.specs.declared.answer.Refusal.{Refusal}
use Rattle.job_check.specs.declared.answer.Refusal.TheVariants as refusals
use Rattle.job_check.specs.Answers.{NoJob}

module _ (bytes : List ℕ) where
  -- the refusal of the text
  refused : (refusal : JobRefusal) → IsRefused bytes refusal → refusal ≢ jobs.OutOfMemory → (r : Refusal) × NoJob bytes r
  refused jobs.BadJson is own = (refusals.BadJson, is)
  refused (jobs.Fault fault) is own = (refusals.Job fault, is)
  refused jobs.OutOfMemory is own = absurd (own refl)

  pub job_or_none : ((job : Job) × Describes bytes job) ⊎ ((r : Refusal) × NoJob bytes r)
  job_or_none = elim (texts.job_or_none bytes) [ inl found ↦ inl found | inr none ↦ inr (refused none.0 none.1 none.2) ]
