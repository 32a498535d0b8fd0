use Rattle.access_regs.proofs.Keeps.{unit_keeps_memory}
use Rattle.access_regs.proofs.laws.only_the_last_access_changes_memory.Goals as goal

pub returns : goal.returns
returns c = unit_keeps_memory
