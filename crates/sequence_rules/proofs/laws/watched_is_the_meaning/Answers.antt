use Rattle.sequence_rules.proofs.Watching.{watched_same}
use Rattle.sequence_rules.proofs.laws.watched_is_the_meaning.Goals as goal

pub returns : goal.returns
returns c = λ w p written. watched_same w p written
