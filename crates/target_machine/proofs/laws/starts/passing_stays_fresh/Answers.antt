use Rattle.target_machine.proofs.FreshLemmas.{acted_sets, acted_fresh, pass_fresh, forgiven_fresh}
use Rattle.target_machine.proofs.laws.starts.passing_stays_fresh.Goals as goal

pub returns-clause-sticky : goal.returns-clause-sticky
returns-clause-sticky c = acted_sets

pub returns-clause-one : goal.returns-clause-one
returns-clause-one c = acted_fresh

pub returns-clause-list : goal.returns-clause-list
returns-clause-list c = pass_fresh

pub returns-clause-forgiven : goal.returns-clause-forgiven
returns-clause-forgiven c = forgiven_fresh
