use Rattle.flight_laws.proofs.ComeLemmas.{none_stopped, all_came, result_given}
use Rattle.flight_laws.proofs.laws.all_calls_came.Goals as goal

pub returns-clause-none_stops : goal.returns-clause-none_stops
returns-clause-none_stops c = none_stopped

pub returns-clause-came : goal.returns-clause-came
returns-clause-came c = all_came

pub returns-clause-result : goal.returns-clause-result
returns-clause-result c = result_given
