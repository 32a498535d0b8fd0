use Rattle.dap_transfer.proofs.BlockTransfers.{block_is_transfer, block_makes_prefix}
use Rattle.dap_transfer.proofs.laws.block_is_a_transfer.Goals as goal

pub returns-clause-same : goal.returns-clause-same
returns-clause-same c = block_is_transfer

pub returns-clause-makes_a_prefix : goal.returns-clause-makes_a_prefix
returns-clause-makes_a_prefix c = block_makes_prefix
