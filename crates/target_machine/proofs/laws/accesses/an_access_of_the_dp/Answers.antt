use Rattle.target_machine.proofs.OneAp.{no_ap_changed}
use Rattle.target_machine.proofs.laws.accesses.an_access_of_the_dp.Goals as goal

pub returns : goal.returns
returns c = no_ap_changed
