use Rattle.target_calls.proofs.MarkLemmas.{after_marked, length_marked, results_marked, skips_marked, stop_marked, value_marked}
use Rattle.target_calls.proofs.laws.marks.marks_change_nothing.Goals as goal

pub returns-clause-results : goal.returns-clause-results
returns-clause-results c = results_marked

pub returns-clause-after : goal.returns-clause-after
returns-clause-after c = after_marked

pub returns-clause-stop : goal.returns-clause-stop
returns-clause-stop c = stop_marked

pub returns-clause-skips : goal.returns-clause-skips
returns-clause-skips c = skips_marked

pub returns-clause-value : goal.returns-clause-value
returns-clause-value c = value_marked

pub returns-clause-count : goal.returns-clause-count
returns-clause-count c = length_marked
