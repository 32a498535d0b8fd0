use Rattle.sequence_trees.proofs.SetLaws as lemmas
use Rattle.sequence_trees.proofs.laws.read_or_faulty.Goals as goal

pub returns : goal.returns
returns c = lemmas.not_both
