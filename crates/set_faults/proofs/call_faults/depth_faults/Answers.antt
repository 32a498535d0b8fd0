use Rattle.sequence_trees.specs.SetView.{set_trees}
use Rattle.set_faults.proofs.PhaseLemmas.{are_deep, deep_answer}
use Rattle.set_faults.proofs.call_faults.depth_faults.Goals as goal

pub faults_at-requires-clause-are : goal.faults_at-requires-clause-are
faults_at-requires-clause-are c = rw c.as_slice.ensures (are_deep (set_trees c.args.set.now) c.args.graph.now c.in_ok-deep.deep c.requires.graph c.in_ok-deep.ensures)

pub returns : goal.returns
returns c =
    deep_answer (set_trees c.args.set.now) c.args.graph.now c.in_ok-deep.deep c.in_ok-faults.faults c.requires.graph c.in_ok-deep.ensures c.requires.rules c.requires.cycles (rw c.as_slice.ensures at c.in_ok-faults.ensures)
