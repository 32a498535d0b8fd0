use Rattle.target_machine.proofs.AccessLaws.{ap_read_posted, rdbuff_read}
use Rattle.target_machine.proofs.laws.accesses.what_rdbuff_has.Goals as goal

pub returns-clause-posted : goal.returns-clause-posted
returns-clause-posted c = ap_read_posted

pub returns-clause-read : goal.returns-clause-read
returns-clause-read c = rdbuff_read
