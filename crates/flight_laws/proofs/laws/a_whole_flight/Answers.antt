use Rattle.flight_laws.proofs.FlightLemmas.{whole_flies, values_came}
use Rattle.flight_laws.proofs.laws.a_whole_flight.Goals as goal

pub returns-clause-whole : goal.returns-clause-whole
returns-clause-whole c = whole_flies

pub returns-clause-values : goal.returns-clause-values
returns-clause-values c = values_came
