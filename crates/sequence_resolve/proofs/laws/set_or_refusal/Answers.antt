use Rattle.sequence_resolve.proofs.OneSet as lemmas
use Rattle.sequence_resolve.proofs.laws.set_or_refusal.Goals as goal

pub returns : goal.returns
returns c = lemmas.set_or_refusal
