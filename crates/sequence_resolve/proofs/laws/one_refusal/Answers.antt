use Rattle.sequence_resolve.proofs.OneSet as lemmas
use Rattle.sequence_resolve.proofs.laws.one_refusal.Goals as goal

pub returns : goal.returns
returns c = lemmas.one_refusal
