use Rattle.dap_transfer.proofs.Numbering.{numbers_transfers}
use Rattle.dap_transfer.proofs.laws.numbers_the_transfers.Goals as goal

pub returns : goal.returns
returns c = numbers_transfers
