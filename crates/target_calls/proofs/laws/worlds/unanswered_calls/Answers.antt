use Rattle.target_calls.proofs.WorldLemmas.{fault_stops, limit_stops}
use Rattle.target_calls.proofs.laws.worlds.unanswered_calls.Goals as goal

pub returns-clause-fault : goal.returns-clause-fault
returns-clause-fault c = fault_stops

pub returns-clause-limit : goal.returns-clause-limit
returns-clause-limit c = limit_stops
