use Rattle.dapseq_tool.proofs.KeptLemmas.{printed_entry}
use Rattle.dapseq_tool.proofs.laws.a_printed_entry_is_read.Goals as goal

pub returns : goal.returns
returns c = λ printed read is. printed_entry printed read is
