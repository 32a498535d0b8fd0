use Rattle.target_machine.proofs.Agreement.{attempt_agrees}
use Rattle.target_machine.proofs.laws.accesses.rdbuff_decides_nothing.Goals as goal

pub returns : goal.returns
returns c = attempt_agrees
