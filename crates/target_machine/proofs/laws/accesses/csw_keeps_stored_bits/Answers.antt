use Rattle.target_machine.proofs.OneAp.{csw_stays_stored}
use Rattle.target_machine.proofs.laws.accesses.csw_keeps_stored_bits.Goals as goal

pub returns : goal.returns
returns c = csw_stays_stored
