use Rattle.job_check.proofs.SomeRun as lemmas
use Rattle.job_check.proofs.laws.run_or_reason.Goals as goal

pub returns : goal.returns
returns c = record { either = lemmas.run_or_reason; run = lemmas.run_or_refusal }
