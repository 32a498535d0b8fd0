use Rattle.job_check.proofs.AnswerLemmas.{unreplaced, with_set, without_conf, without_set}
use Rattle.job_check.proofs.checking.find_valid_set_of.Goals as goal

pub returns-in_err-conf-clause-answer : goal.returns-in_err-conf-clause-answer
returns-in_err-conf-clause-answer c =
    without_conf c.args.job.now c.args.selection.now c.in_err-conf.field-0.0 c.from_residual.result c.in_err-conf.ensures.refused c.from_residual.ensures.1

pub returns-in_err-plain-clause-answer : goal.returns-in_err-plain-clause-answer
returns-in_err-plain-clause-answer c =
    without_set c.args.job.now c.args.selection.now c.in_ok-conf.conf c.in_ok-conf.ensures.found c.in_err-plain.field-0.0 c.from_residual-in_err-plain.result c.in_err-plain.ensures.refused
    c.from_residual-in_err-plain.ensures.1

pub returns-in_err-set-clause-answer : goal.returns-in_err-set-clause-answer
returns-in_err-set-clause-answer c =
    unreplaced c.args.job.now c.args.selection.now c.in_ok-conf.conf c.in_ok-conf.ensures.found c.in_ok-plain.plain c.in_ok-plain.ensures.set c.in_err-set.field-0.0
    c.from_residual-in_err-set.result c.in_err-set.ensures.refused c.from_residual-in_err-set.ensures.1

pub returns-clause-answer : goal.returns-clause-answer
returns-clause-answer c =
    with_set c.args.job.now c.args.selection.now c.in_ok-conf.conf c.in_ok-conf.ensures.found c.in_ok-plain.plain c.in_ok-plain.ensures.set c.in_ok-set.set c.check_set.result
    c.in_ok-set.ensures.values c.check_set.ensures.same c.check_set.ensures.trees c.check_set.ensures.refused
