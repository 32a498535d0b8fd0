use Rattle.job_check.proofs.AnswerLemmas.{with_job, without_job}
use Rattle.job_check.proofs.checking.find_valid_set.Goals as goal

pub returns-in_err-job-clause-answer : goal.returns-in_err-job-clause-answer
returns-in_err-job-clause-answer c =
    without_job c.args.bytes.now c.args.selection.now c.in_err-job.field-0.0 c.from_residual.result c.in_err-job.ensures.refused c.from_residual.ensures.1

pub returns-clause-answer : goal.returns-clause-answer
returns-clause-answer c =
    with_job c.args.bytes.now c.args.selection.now c.in_ok-job.job c.find_valid_set_of.result c.in_ok-job.ensures.found c.find_valid_set_of.ensures.answer
