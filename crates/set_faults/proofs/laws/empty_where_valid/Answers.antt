use Rattle.set_faults.proofs.PhaseLemmas as lemmas
use Rattle.set_faults.proofs.laws.empty_where_valid.Goals as goal

pub returns : goal.returns
returns c = lemmas.empty_where_valid
