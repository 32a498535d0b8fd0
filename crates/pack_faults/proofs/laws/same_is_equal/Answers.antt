use Rattle.pack_faults.proofs.SameLemmas as lemmas
use Rattle.pack_faults.proofs.laws.same_is_equal.Goals as goal

pub returns : goal.returns
returns c = lemmas.same_is_equal
