use Rattle.dapseq_tool.proofs.KeptLemmas.{accepted_trace, printed, same_target}
use Rattle.dapseq_tool.proofs.laws.a_kept_trace_is_accepted.Goals as goal

pub returns-clause-printed : goal.returns-clause-printed
returns-clause-printed c = λ log. printed log

pub returns-clause-accepted : goal.returns-clause-accepted
returns-clause-accepted c = λ access run before r a n job bytes to whole kept is. accepted_trace access run before r a n job bytes to whole kept is

pub returns-clause-target : goal.returns-clause-target
returns-clause-target c = λ run n job kept. same_target run n job kept
