use Rattle.sequence_rules.proofs.Made.{late_pair}
use Rattle.sequence_rules.proofs.laws.late_values_change_nothing.Goals as goal

pub returns : goal.returns
returns c = λ cost w p written. late_pair cost w p written
