use Rattle.dapseq_tool.proofs.BadLemmas.{bad_reply}
use Rattle.dapseq_tool.proofs.laws.bad_replies_are_received.Goals as goal

pub returns : goal.returns
returns c = λ access call done is. bad_reply access call _ done is
