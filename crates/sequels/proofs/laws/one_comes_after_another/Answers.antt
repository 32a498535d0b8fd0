use Rattle.sequels.proofs.SequelLemmas.{after_comes}
use Rattle.sequels.proofs.laws.one_comes_after_another.Goals as goal

pub returns : goal.returns
returns c = λ w s next. after_comes w s next
