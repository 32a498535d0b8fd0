use Rattle.std.proofs.Common.{◌∙◌}
use Rattle.sequence_trees.proofs.SetLemmas.{found_named}
use Rattle.sequence_trees.proofs.set.ReadSet.has.Goals as goal

pub returns : goal.returns
returns c = c.contains_key.ensures ∙ found_named c.args.name.now c.args.self.now.sequences.entries
