use Rattle.batch_packer.proofs.CallLemmas.{abort_clears, flies_after}
use Rattle.batch_packer.proofs.laws.a_flight_may_follow_an_action.Goals as goal

pub returns : goal.returns
returns c = record { flies = flies_after; clears = abort_clears }
