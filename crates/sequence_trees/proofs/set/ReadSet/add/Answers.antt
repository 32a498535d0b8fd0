use Rattle.std.proofs.Common.{List, map, ap, ◌∙◌}
use Rattle.expr_grammar.specs.Tree.{code_trees}
use Rattle.sequence_trees.specs.Trees.{SequenceTrees, SetTrees}
use Rattle.sequence_trees.specs.SetView.{entry_view}
use Rattle.sequence_trees.proofs.SetLemmas.{added}
use Rattle.sequence_trees.proofs.set.ReadSet.add.Goals as goal

pub returns : goal.returns
returns c =
    let set = c.args.self.now in
    let whole : List SequenceTrees → SetTrees = λ ss. record { debugvars = code_trees set.debugvars; sequences = ss } in
    ap whole (ap (map entry_view) c.in-Ok.ensures.entries ∙ added set.sequences c.args.name c.args.steps c.requires)
