use Rattle.dapseq_tool.proofs.OneLemmas.{one_what}
use Rattle.dapseq_tool.proofs.laws.one_thing.Goals as goal

pub returns : goal.returns
returns c = λ words bytes x y p q. one_what words bytes x y p q
