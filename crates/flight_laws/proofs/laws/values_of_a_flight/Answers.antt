use Rattle.flight_laws.proofs.PushLemmas.{value_is_given, plan_gives}
use Rattle.flight_laws.proofs.laws.values_of_a_flight.Goals as goal

pub returns-clause-read : goal.returns-clause-read
returns-clause-read c = value_is_given

pub returns-clause-plan : goal.returns-clause-plan
returns-clause-plan c = plan_gives
