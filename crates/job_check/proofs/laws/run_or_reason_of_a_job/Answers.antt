use Rattle.job_check.proofs.SomeRun as lemmas
use Rattle.job_check.proofs.laws.run_or_reason_of_a_job.Goals as goal

pub returns : goal.returns
returns c = record {
  either = λ job own selection name. lemmas.run_or_reason_for job own selection name;
  run = λ bytes job own selection name few is. lemmas.run_or_refusal_for bytes own selection name few job is;
}
