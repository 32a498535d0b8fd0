use Rattle.job_runs.proofs.MeantLemmas.{ends_as_meant}
use Rattle.job_runs.proofs.laws.runs_end_as_meant.Goals as goal

pub returns : goal.returns
returns c = λ ending run left is h none. ends_as_meant ending run left is h none
