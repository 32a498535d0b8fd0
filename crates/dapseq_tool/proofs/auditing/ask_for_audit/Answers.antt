use Rattle.std.proofs.Common.{refl}
use Rattle.dapseq_tool.specs.Audit.{described, not_described}
use Rattle.dapseq_tool.specs.declared.asking.Answer.TheVariants as answers
use Rattle.dapseq_tool.proofs.FrameLemmas.{fit_answer, fit_refused}
use Rattle.dapseq_tool.proofs.auditing.ask_for_audit.Goals as goal

pub audit_job-requires-clause-described : goal.audit_job-requires-clause-described
audit_job-requires-clause-described c = (c.args.bytes.now, c.in-Ok.ensures.found)

pub returns-in_ok-answer-in-Ok-clause-asked : goal.returns-in_ok-answer-in-Ok-clause-asked
returns-in_ok-answer-in-Ok-clause-asked c = (c.in_ok-answer-in-Ok.answer, described c.in-Ok.job c.in-Ok.ensures.found c.in_ok-answer-in-Ok.ensures.answer, refl)

pub returns-in-Err-Refused-clause-asked : goal.returns-in-Err-Refused-clause-asked
returns-in-Err-Refused-clause-asked c =
    rw c.in-Err-Refused.field-0-is
    (answers.Refused c.in-Err-Refused.refusal, not_described c.in-Err-Refused.refusal (rw c.in-Err-Refused.field-0-is at c.in-Err-Refused.ensures.refused) refl, refl)

pub returns-in_ok-answer-in-Ok-clause-fit : goal.returns-in_ok-answer-in-Ok-clause-fit
returns-in_ok-answer-in-Ok-clause-fit c =
    fit_answer ⊥ c.in_ok-answer-in-Ok.answer c.in_ok-answer-in-Ok.ensures.sound c.in_ok-answer-in-Ok.ensures.used

pub returns-in-Err-Refused-clause-fit : goal.returns-in-Err-Refused-clause-fit
returns-in-Err-Refused-clause-fit c = fit_refused ⊥ _
