use Rattle.flight_laws.proofs.GoLemmas.{flush_goes, push_goes}
use Rattle.flight_laws.proofs.laws.an_access_goes_on.Goals as goal

pub returns-clause-flush : goal.returns-clause-flush
returns-clause-flush c = flush_goes

pub returns-clause-push : goal.returns-clause-push
returns-clause-push c = push_goes
