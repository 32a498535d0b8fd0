use Rattle.job_check.proofs.OneAnswer as lemmas
use Rattle.job_check.proofs.checking.valid_set.Goals as goal

pub returns-clause-only : goal.returns-clause-only
returns-clause-only c = lemmas.only c.args.bytes.now c.args.selection.now c.find_valid_set.result c.find_valid_set.ensures.answer
