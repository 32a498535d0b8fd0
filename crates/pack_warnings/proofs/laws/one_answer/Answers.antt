use Rattle.pack_warnings.proofs.SetLemmas as lemmas
use Rattle.pack_warnings.proofs.laws.one_answer.Goals as goal

pub returns : goal.returns
returns c = lemmas.one_answer
