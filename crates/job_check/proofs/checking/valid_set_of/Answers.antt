use Rattle.job_check.proofs.OneAnswer as lemmas
use Rattle.job_check.proofs.checking.valid_set_of.Goals as goal

pub returns-clause-only : goal.returns-clause-only
returns-clause-only c = lemmas.only_of c.args.job.now c.args.selection.now c.find_valid_set_of.result c.find_valid_set_of.ensures.answer
