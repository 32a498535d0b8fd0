use Rattle.sequence_rules.proofs.Writing.{only_written}
use Rattle.sequence_rules.proofs.laws.lines_are_only_written.Goals as goal

pub returns : goal.returns
returns c = λ cost w p a b. only_written cost w p a b
