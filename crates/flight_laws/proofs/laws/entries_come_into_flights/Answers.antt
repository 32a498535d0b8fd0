use Rattle.flight_laws.proofs.PushLemmas.{journal_grew, entry_pushed}
use Rattle.flight_laws.proofs.laws.entries_come_into_flights.Goals as goal

pub returns-clause-grew : goal.returns-clause-grew
returns-clause-grew c = journal_grew

pub returns-clause-pushed : goal.returns-clause-pushed
returns-clause-pushed c = entry_pushed
