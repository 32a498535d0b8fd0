use Rattle.target_machine.proofs.ActionLists.{after_append, pass_append}
use Rattle.target_machine.proofs.laws.lists.lists_join.Goals as goal

pub returns-clause-after : goal.returns-clause-after
returns-clause-after c = after_append

pub returns-clause-pass : goal.returns-clause-pass
returns-clause-pass c = pass_append
