use Rattle.job_check.proofs.OneRun as one
use Rattle.job_check.proofs.laws.one_run_of_a_job.Goals as goal

pub returns : goal.returns
returns c = record {
  run = λ own selection name x y job p q. one.one_run_for own selection name x y job p q;
  refusal = λ job own selection name x y p q. one.one_refusal_for job own selection name x y p q;
  either = λ own selection name x y p q. one.run_or_refusal_for own selection name x y p q;
}
