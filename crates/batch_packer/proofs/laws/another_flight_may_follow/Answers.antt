use Rattle.batch_packer.proofs.NextFlight.{flies_again}
use Rattle.batch_packer.proofs.laws.another_flight_may_follow.Goals as goal

pub returns : goal.returns
returns c = flies_again
