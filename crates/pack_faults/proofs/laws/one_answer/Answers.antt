use Rattle.pack_faults.proofs.AnswerLemmas as lemmas
use Rattle.pack_faults.proofs.laws.one_answer.Goals as goal

pub returns : goal.returns
returns c = lemmas.one_answer
