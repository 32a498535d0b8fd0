use Rattle.job_check.proofs.OneRun as one
use Rattle.job_check.proofs.laws.one_run.Goals as goal

pub returns : goal.returns
returns c = record {
  run = λ bytes own selection name x y p q. one.one_run bytes own selection name x y p q;
  refusal = λ bytes own selection name x y p q. one.one_refusal bytes own selection name x y p q;
  either = λ bytes own selection name x y p q. one.run_or_refusal bytes own selection name x y p q;
}
