use Rattle.dap_transfer.proofs.CommandEnds.{command_ends}
use Rattle.dap_transfer.proofs.laws.command_ends.Goals as goal

pub returns : goal.returns
returns c = command_ends
