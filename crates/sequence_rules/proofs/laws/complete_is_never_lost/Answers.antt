use Rattle.sequence_rules.proofs.CompleteSteps.{never_lost, complete_same}
use Rattle.sequence_rules.proofs.laws.complete_is_never_lost.Goals as goal

pub returns : goal.returns
returns c = λ w p written k. record { never = never_lost w p written k; same = complete_same w p written k }
