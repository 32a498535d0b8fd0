use Rattle.target_machine.proofs.AccessLaws.{attempt_keeps}
use Rattle.target_machine.proofs.laws.accesses.an_access_keeps.Goals as goal

pub returns : goal.returns
returns c = attempt_keeps
