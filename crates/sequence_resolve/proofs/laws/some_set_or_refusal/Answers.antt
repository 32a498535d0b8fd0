use Rattle.sequence_resolve.proofs.SomeSet.{set_or_none}
use Rattle.sequence_resolve.proofs.laws.some_set_or_refusal.Goals as goal

pub returns : goal.returns
returns c = set_or_none
