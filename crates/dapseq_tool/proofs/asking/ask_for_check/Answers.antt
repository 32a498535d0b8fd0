use Rattle.std.proofs.Common.{Err, refl}
use Rattle.dapseq_tool.proofs.FrameLemmas.{fit_check_ok, fit_refused}
use Rattle.dapseq_tool.proofs.asking.ask_for_check.Goals as goal

pub returns-in-Err-Refused-clause-asked : goal.returns-in-Err-Refused-clause-asked
returns-in-Err-Refused-clause-asked c = (Err c.in-Err-Refused.refusal, rw c.in-Err-Refused.field-0-is at c.in-Err-Refused.ensures.answer, refl)

pub returns-in-Ok-clause-fit : goal.returns-in-Ok-clause-fit
returns-in-Ok-clause-fit c = fit_check_ok ⊥ _

pub returns-in-Err-Refused-clause-fit : goal.returns-in-Err-Refused-clause-fit
returns-in-Err-Refused-clause-fit c = fit_refused ⊥ _
