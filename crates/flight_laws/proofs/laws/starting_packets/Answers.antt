use Rattle.flight_laws.proofs.BlockLemmas.{need_point}
use Rattle.flight_laws.proofs.ActionLemmas.{few_packets, full_flight}
use Rattle.flight_laws.proofs.laws.starting_packets.Goals as goal

pub returns-clause-few : goal.returns-clause-few
returns-clause-few c = few_packets

pub returns-clause-full : goal.returns-clause-full
returns-clause-full c = full_flight

pub returns-clause-need : goal.returns-clause-need
returns-clause-need c = need_point
