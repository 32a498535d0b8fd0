use Rattle.code_check.proofs.SomeFault.{block_first}
use Rattle.code_check.proofs.laws.some_block_fault.Goals as goal

pub returns : goal.returns
returns c = block_first
