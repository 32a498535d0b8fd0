use Rattle.target_machine.proofs.NoMemory.{no_memory_changed}
use Rattle.target_machine.proofs.laws.accesses.an_access_of_no_memory.Goals as goal

pub returns : goal.returns
returns c = no_memory_changed
