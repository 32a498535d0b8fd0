use Rattle.faults_tool.proofs.OneAnswer as lemmas
use Rattle.faults_tool.proofs.laws.status_by_request.Goals as goal

pub returns : goal.returns
returns c = lemmas.same_status
