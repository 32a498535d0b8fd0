use Rattle.target_calls.proofs.OneCall.{one_after, one_goes, one_last, one_left, one_results, one_skips, one_small, one_stops}
use Rattle.target_calls.proofs.laws.calls.one_call_more.Goals as goal

pub returns-clause-stops : goal.returns-clause-stops
returns-clause-stops c = one_stops

pub returns-clause-left : goal.returns-clause-left
returns-clause-left c = one_left

pub returns-clause-goes : goal.returns-clause-goes
returns-clause-goes c = one_goes

pub returns-clause-after : goal.returns-clause-after
returns-clause-after c = one_after

pub returns-clause-results : goal.returns-clause-results
returns-clause-results c = one_results

pub returns-clause-last : goal.returns-clause-last
returns-clause-last c = one_last

pub returns-clause-skips : goal.returns-clause-skips
returns-clause-skips c = one_skips

pub returns-clause-small : goal.returns-clause-small
returns-clause-small c = one_small
