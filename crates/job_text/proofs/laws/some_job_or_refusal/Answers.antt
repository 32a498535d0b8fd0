use Rattle.job_text.proofs.SomeJob.{job_or_none}
use Rattle.job_text.proofs.laws.some_job_or_refusal.Goals as goal

pub returns : goal.returns
returns c = job_or_none
