use Rattle.seq_check.proofs.OneFault as lemmas
use Rattle.seq_check.proofs.laws.valid_or_faulty.Goals as goal

pub returns : goal.returns
returns c = lemmas.valid_or_faulty
