use Rattle.target_machine.proofs.ActionLists.{pass_after, pass_last, pass_then_fault}
use Rattle.target_machine.proofs.laws.lists.passing_lists.Goals as goal

pub returns-clause-after : goal.returns-clause-after
returns-clause-after c = pass_after

pub returns-clause-last : goal.returns-clause-last
returns-clause-last c = pass_last

pub returns-clause-fault : goal.returns-clause-fault
returns-clause-fault c = pass_then_fault
