use Rattle.target_calls.proofs.CallLists.{append_after, append_results, append_skips, append_stop}
use Rattle.target_calls.proofs.laws.calls.calls_join.Goals as goal

pub returns-clause-results : goal.returns-clause-results
returns-clause-results c = append_results

pub returns-clause-after : goal.returns-clause-after
returns-clause-after c = append_after

pub returns-clause-stop : goal.returns-clause-stop
returns-clause-stop c = append_stop

pub returns-clause-skips : goal.returns-clause-skips
returns-clause-skips c = append_skips
