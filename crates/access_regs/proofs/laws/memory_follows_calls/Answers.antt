use Rattle.access_regs.proofs.EntryMemory.{memory_at_entry}
use Rattle.access_regs.proofs.MemoryPoints.{memory_follows}
use Rattle.access_regs.proofs.laws.memory_follows_calls.Goals as goal

pub returns-clause-calls : goal.returns-clause-calls
returns-clause-calls c = memory_follows

pub returns-clause-entry : goal.returns-clause-entry
returns-clause-entry c = memory_at_entry
