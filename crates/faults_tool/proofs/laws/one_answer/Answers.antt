use Rattle.faults_tool.proofs.OneAnswer as lemmas
use Rattle.faults_tool.proofs.laws.one_answer.Goals as goal

pub returns : goal.returns
returns c = lemmas.one_answer
