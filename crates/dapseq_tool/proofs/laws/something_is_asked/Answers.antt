use Rattle.dapseq_tool.proofs.SomeAsked as lemmas
use Rattle.dapseq_tool.proofs.laws.something_is_asked.Goals as goal

pub returns : goal.returns
returns c = lemmas.something_is_asked
