use Rattle.std.proofs.Common.{ap, option_map, ◌∙◌}
use Rattle.sequence_trees.specs.Trees.{steps_tree}
use Rattle.sequence_trees.proofs.SetLemmas.{lookup_named, option_map-copied}
use Rattle.sequence_trees.proofs.set.ReadSet.steps.Goals as goal

pub returns : goal.returns
returns c =
    option_map-copied steps_tree c.get.result ∙ ap (option_map steps_tree) c.get.ensures.value ∙ lookup_named c.args.name.now c.args.self.now.sequences.entries
