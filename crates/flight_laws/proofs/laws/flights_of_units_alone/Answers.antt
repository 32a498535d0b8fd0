use Rattle.flight_laws.proofs.ForgivingLemmas.{alone_flight}
use Rattle.flight_laws.proofs.laws.flights_of_units_alone.Goals as goal

pub returns : goal.returns
returns c = record { steps = alone_flight }
