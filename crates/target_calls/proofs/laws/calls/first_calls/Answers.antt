use Rattle.target_calls.proofs.CallLists.{results_front, results_take, stop_before, value_stays, whole_front}
use Rattle.target_calls.proofs.laws.calls.first_calls.Goals as goal

pub returns-clause-whole : goal.returns-clause-whole
returns-clause-whole c = whole_front

pub returns-clause-before : goal.returns-clause-before
returns-clause-before c = stop_before

pub returns-clause-results : goal.returns-clause-results
returns-clause-results c = results_take

pub returns-clause-kept : goal.returns-clause-kept
returns-clause-kept c = results_front

pub returns-clause-value : goal.returns-clause-value
returns-clause-value c = value_stays
