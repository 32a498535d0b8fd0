use Rattle.seq_check.proofs.SomeSetFault.{valid_or_fault}
use Rattle.seq_check.proofs.laws.every_set_is_valid_or_faulty.Goals as goal

pub returns : goal.returns
returns c = valid_or_fault
