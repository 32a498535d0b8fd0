use Rattle.target_machine.proofs.AccessRanges.{attempt_in_range}
use Rattle.target_machine.proofs.ActionRanges.{acted_in_range, in_order_in_range, after_in_range}
use Rattle.target_machine.proofs.laws.ranges.actions_stay_in_range.Goals as goal

pub returns-clause-access : goal.returns-clause-access
returns-clause-access c t a h v = attempt_in_range t h a v

pub returns-clause-one : goal.returns-clause-one
returns-clause-one c = acted_in_range

pub returns-clause-in_order : goal.returns-clause-in_order
returns-clause-in_order c t actions h v = in_order_in_range actions t h v

pub returns-clause-after : goal.returns-clause-after
returns-clause-after c t actions h v = after_in_range actions t h v
