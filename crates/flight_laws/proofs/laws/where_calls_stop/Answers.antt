use Rattle.flight_laws.proofs.StopLemmas.{stops_at_fault, stops_at_wait, came_before, came_confirmed, results_stay}
use Rattle.flight_laws.proofs.OwnLemmas.{begun_stay}
use Rattle.flight_laws.proofs.laws.where_calls_stop.Goals as goal

pub returns-clause-fault : goal.returns-clause-fault
returns-clause-fault c = stops_at_fault

pub returns-clause-wait : goal.returns-clause-wait
returns-clause-wait c = stops_at_wait

pub returns-clause-lines : goal.returns-clause-lines
returns-clause-lines c = came_before

pub returns-clause-confirmed : goal.returns-clause-confirmed
returns-clause-confirmed c = came_confirmed

pub returns-clause-results : goal.returns-clause-results
returns-clause-results c = results_stay

pub returns-clause-begun : goal.returns-clause-begun
returns-clause-begun c = begun_stay
