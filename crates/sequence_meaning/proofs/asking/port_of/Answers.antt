use Rattle.sequence_meaning.proofs.asking.port_of.Goals as goal
use Rattle.sequence_rules.proofs.NowLemmas.{port_as}

pub returns : goal.returns
returns c = port_as _ _ _ _ c.ap.ensures c.control.ensures c.dp.ensures
