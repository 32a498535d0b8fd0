use Rattle.logged_calls.proofs.asking.debug_port.Goals as goal
use Rattle.sequence_rules.proofs.NowLemmas.{global_as}

pub returns : goal.returns
returns c = global_as _ _ _ c.value_of.ensures
