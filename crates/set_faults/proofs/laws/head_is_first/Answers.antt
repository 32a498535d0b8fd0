use Rattle.set_faults.proofs.PhaseLemmas as lemmas
use Rattle.set_faults.proofs.laws.head_is_first.Goals as goal

pub returns : goal.returns
returns c = lemmas.head_is_first
