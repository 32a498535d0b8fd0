use Rattle.flight_laws.proofs.EndLemmas.{flight_ends, poll_ends, flight_fails, action_fails}
use Rattle.flight_laws.proofs.laws.an_access_ends.Goals as goal

pub returns-clause-flight : goal.returns-clause-flight
returns-clause-flight c = flight_ends

pub returns-clause-poll : goal.returns-clause-poll
returns-clause-poll c = poll_ends

pub returns-clause-flight_fails : goal.returns-clause-flight_fails
returns-clause-flight_fails c = flight_fails

pub returns-clause-action_fails : goal.returns-clause-action_fails
returns-clause-action_fails c = action_fails
