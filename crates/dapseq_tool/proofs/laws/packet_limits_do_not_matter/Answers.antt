use Rattle.dapseq_tool.proofs.TwoLemmas.{same_left}
use Rattle.dapseq_tool.proofs.laws.packet_limits_do_not_matter.Goals as goal

pub returns : goal.returns
returns c = λ access other x y before p q a b m n same here there end end_too. same_left access other x y before p q a b m n same here there end end_too
