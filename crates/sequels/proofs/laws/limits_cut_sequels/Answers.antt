use Rattle.sequels.proofs.LimitLemmas.{limit_comes}
use Rattle.sequels.proofs.laws.limits_cut_sequels.Goals as goal

pub returns : goal.returns
returns c = λ w m s free. limit_comes w m s free
