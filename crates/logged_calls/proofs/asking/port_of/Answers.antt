use Rattle.logged_calls.proofs.asking.port_of.Goals as goal
use Rattle.sequence_rules.proofs.NowLemmas.{port_as}

pub returns : goal.returns
returns c = port_as _ _ _ _ c.value_of-ap.ensures c.value_of-control.ensures c.value_of-dp.ensures
