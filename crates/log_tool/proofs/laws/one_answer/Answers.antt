use Rattle.log_tool.proofs.OneAnswer as lemmas
use Rattle.log_tool.proofs.laws.one_answer.Goals as goal

pub returns : goal.returns
returns c = lemmas.one_answer
