use Rattle.sequence_trees.proofs.SetLaws.{only_read, only_fault}
use Rattle.sequence_trees.proofs.set_reader.read_set.Goals as goal

pub returns-clause-only : goal.returns-clause-only
returns-clause-only c = λ trees is. only_read c.args.set.now c.set_of.result c.set_of.ensures trees is

pub returns-clause-only_fault : goal.returns-clause-only_fault
returns-clause-only_fault c = λ spot is. only_fault c.args.set.now c.set_of.result c.set_of.ensures spot is
