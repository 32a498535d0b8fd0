use Rattle.code_check.specs.Order.{is_before}
use Rattle.seq_check.proofs.FirstLemmas.{first_of_none}
use Rattle.seq_check.proofs.controls.condition_fault.Goals as goal

pub returns-in-None : goal.returns-in-None
returns-in-None c = rw c.in-None.is (first_of_none is_before)
