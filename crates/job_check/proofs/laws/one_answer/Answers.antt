use Rattle.job_check.proofs.OneAnswer as lemmas
use Rattle.job_check.proofs.laws.one_answer.Goals as goal

pub returns : goal.returns
returns c = lemmas.one_answer
