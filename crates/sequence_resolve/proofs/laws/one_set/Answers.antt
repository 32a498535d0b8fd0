use Rattle.sequence_resolve.proofs.OneSet as lemmas
use Rattle.sequence_resolve.proofs.laws.one_set.Goals as goal

pub returns : goal.returns
returns c = lemmas.one_set
