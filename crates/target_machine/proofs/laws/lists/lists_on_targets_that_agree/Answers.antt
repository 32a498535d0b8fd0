use Rattle.target_machine.proofs.ActionAgreement.{acted_alike, in_order_alike, issued_alike, after_agrees}
use Rattle.target_machine.proofs.laws.lists.lists_on_targets_that_agree.Goals as goal

pub returns-clause-one : goal.returns-clause-one
returns-clause-one c = acted_alike

pub returns-clause-in_order : goal.returns-clause-in_order
returns-clause-in_order c t u xs agree spare = in_order_alike xs t u agree spare

pub returns-clause-issued : goal.returns-clause-issued
returns-clause-issued c t u xs agree spare = issued_alike xs t u agree spare

pub returns-clause-after : goal.returns-clause-after
returns-clause-after c t u xs agree spare = after_agrees xs t u agree spare
