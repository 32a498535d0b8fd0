use Rattle.flight_forms.proofs.Chains.{does_chain}
use Rattle.flight_forms.proofs.laws.a_chain_does_a_part.Goals as goal

pub returns : goal.returns
returns c = does_chain
