use Rattle.seq_check.proofs.OneFault as lemmas
use Rattle.seq_check.proofs.laws.one_first_fault.Goals as goal

pub returns : goal.returns
returns c = lemmas.one_first_fault
