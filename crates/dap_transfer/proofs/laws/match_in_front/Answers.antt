use Rattle.dap_transfer.proofs.Guards.{match_opens, match_shuts}
use Rattle.dap_transfer.proofs.laws.match_in_front.Goals as goal

pub returns-clause-opens : goal.returns-clause-opens
returns-clause-opens c = match_opens

pub returns-clause-shuts : goal.returns-clause-shuts
returns-clause-shuts c = match_shuts
