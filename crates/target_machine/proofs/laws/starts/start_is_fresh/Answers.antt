use Rattle.target_machine.proofs.FreshLemmas.{start_is_fresh}
use Rattle.target_machine.proofs.laws.starts.start_is_fresh.Goals as goal

pub returns : goal.returns
returns c = start_is_fresh
