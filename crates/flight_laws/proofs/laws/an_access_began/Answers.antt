use Rattle.flight_laws.proofs.EndLemmas.{begun_stands, begun_came}
use Rattle.flight_laws.proofs.laws.an_access_began.Goals as goal

pub returns-clause-stands : goal.returns-clause-stands
returns-clause-stands c = begun_stands

pub returns-clause-came : goal.returns-clause-came
returns-clause-came c = begun_came
