use Rattle.target_calls.proofs.CallLists.{after_more, results_more, skips_more, stop_stays}
use Rattle.target_calls.proofs.laws.calls.stopped_calls.Goals as goal

pub returns-clause-stop : goal.returns-clause-stop
returns-clause-stop c = stop_stays

pub returns-clause-results : goal.returns-clause-results
returns-clause-results c = results_more

pub returns-clause-after : goal.returns-clause-after
returns-clause-after c = after_more

pub returns-clause-skips : goal.returns-clause-skips
returns-clause-skips c = skips_more
