use Rattle.flight_laws.proofs.OpenLemmas.{open_stands, came_stands}
use Rattle.flight_laws.proofs.laws.an_access_without_an_end.Goals as goal

pub returns-clause-open : goal.returns-clause-open
returns-clause-open c = open_stands

pub returns-clause-came : goal.returns-clause-came
returns-clause-came c = came_stands
