use Rattle.sequence_trees.proofs.SomeTexts.{read_set}
use Rattle.sequence_trees.proofs.laws.every_set_is_read_or_faulty.Goals as goal

pub returns : goal.returns
returns c = read_set
