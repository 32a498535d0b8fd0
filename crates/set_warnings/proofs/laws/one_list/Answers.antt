use Rattle.set_warnings.proofs.SetLemmas as lemmas
use Rattle.set_warnings.proofs.laws.one_list.Goals as goal

pub returns : goal.returns
returns c = lemmas.one_list
