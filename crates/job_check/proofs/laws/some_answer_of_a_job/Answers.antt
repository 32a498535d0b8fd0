use Rattle.job_check.proofs.SomeAnswer as lemmas
use Rattle.job_check.proofs.laws.some_answer_of_a_job.Goals as goal

pub returns : goal.returns
returns c = lemmas.some_answer_of
