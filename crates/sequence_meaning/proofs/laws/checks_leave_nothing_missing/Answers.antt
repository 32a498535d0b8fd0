use Rattle.sequence_meaning.proofs.NeverLost.{nothing_missing}
use Rattle.sequence_meaning.proofs.laws.checks_leave_nothing_missing.Goals as goal

pub returns : goal.returns
returns c = λ w p written h. nothing_missing w p written h
