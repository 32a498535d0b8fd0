use Rattle.target_machine.proofs.OneAp.{one_ap_changed}
use Rattle.target_machine.proofs.laws.accesses.an_access_of_one_ap.Goals as goal

pub returns : goal.returns
returns c = one_ap_changed
