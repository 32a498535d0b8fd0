use Rattle.pack_faults.proofs.AnswerLemmas as lemmas
use Rattle.pack_faults.proofs.laws.empty_where_valid.Goals as goal

pub returns : goal.returns
returns c = lemmas.empty_where_valid
