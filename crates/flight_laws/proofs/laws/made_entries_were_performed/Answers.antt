use Rattle.flight_laws.proofs.UnderWayLemmas.{front_performed}
use Rattle.flight_laws.proofs.laws.made_entries_were_performed.Goals as goal

pub returns : goal.returns
returns c = record { front = front_performed }
