use Rattle.sequence_trees.proofs.SetLaws as lemmas
use Rattle.sequence_trees.proofs.laws.one_reading.Goals as goal

pub returns : goal.returns
returns c = lemmas.one_set
