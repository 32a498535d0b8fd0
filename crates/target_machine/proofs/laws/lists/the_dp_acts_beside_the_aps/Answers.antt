use Rattle.target_machine.proofs.BesideAps.{acted_moved}
use Rattle.target_machine.proofs.laws.lists.the_dp_acts_beside_the_aps.Goals as goal

pub returns : goal.returns
returns c t rdbuff aps action spares = acted_moved rdbuff aps t action spares
