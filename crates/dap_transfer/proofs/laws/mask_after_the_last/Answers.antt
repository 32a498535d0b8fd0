use Rattle.dap_transfer.proofs.LastMask.{mask_after_last, mask_stays}
use Rattle.dap_transfer.proofs.laws.mask_after_the_last.Goals as goal

pub returns-clause-stays : goal.returns-clause-stays
returns-clause-stays c = mask_stays

pub returns-clause-free : goal.returns-clause-free
returns-clause-free c = mask_after_last
