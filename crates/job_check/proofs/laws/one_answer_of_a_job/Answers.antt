use Rattle.job_check.proofs.OneAnswer as lemmas
use Rattle.job_check.proofs.laws.one_answer_of_a_job.Goals as goal

pub returns : goal.returns
returns c = λ job selection x y p q. lemmas.one_answer_of job selection x y p q
