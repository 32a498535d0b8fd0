use Rattle.faults_tool.proofs.OneAnswer.{done_of, valid_of}
use Rattle.faults_tool.proofs.laws.done_where_valid.Goals as goal

pub returns : goal.returns
returns c = λ words bytes answer asks. (valid_of words bytes answer asks, done_of words bytes answer asks)
