use Rattle.target_calls.proofs.CallLists.{count_of, count_stopped, count_within}
use Rattle.target_calls.proofs.laws.calls.count_of_results.Goals as goal

pub returns-clause-whole : goal.returns-clause-whole
returns-clause-whole c = count_of

pub returns-clause-stopped : goal.returns-clause-stopped
returns-clause-stopped c = count_stopped

pub returns-clause-within : goal.returns-clause-within
returns-clause-within c = count_within
