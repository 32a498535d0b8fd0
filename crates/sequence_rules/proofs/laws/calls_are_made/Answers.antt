use Rattle.sequence_rules.proofs.Made.{are_made}
use Rattle.sequence_rules.proofs.laws.calls_are_made.Goals as goal

pub returns : goal.returns
returns c = λ w p written. are_made w p written
