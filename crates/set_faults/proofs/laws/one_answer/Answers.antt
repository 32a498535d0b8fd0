use Rattle.set_faults.proofs.PhaseLemmas as lemmas
use Rattle.set_faults.proofs.laws.one_answer.Goals as goal

pub returns : goal.returns
returns c = lemmas.one_answer
