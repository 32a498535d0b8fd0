use Rattle.job_check.proofs.SomeAnswer as lemmas
use Rattle.job_check.proofs.laws.some_answer.Goals as goal

pub returns : goal.returns
returns c = lemmas.some_answer
