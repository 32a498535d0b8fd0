use Rattle.job_check.proofs.RunningLemmas.{refused_for, run_for, without_own}
use Rattle.job_check.proofs.running.valid_run_of.Goals as goal

pub returns-in-Ok-clause-found : goal.returns-in-Ok-clause-found
returns-in-Ok-clause-found c =
    run_for c.args.job c.args.own c.args.selection.now c.args.name.now c.in-Ok.image c.run_with.result c.in-Ok.ensures.found c.run_with.ensures.same c.run_with.ensures.image c.run_with.ensures.found

pub returns-in-Ok-clause-refused : goal.returns-in-Ok-clause-refused
returns-in-Ok-clause-refused c =
    refused_for c.args.job c.args.own c.args.selection.now c.args.name.now c.in-Ok.image c.run_with.result c.in-Ok.ensures.found c.run_with.ensures.refused

pub returns-in-Err-clause-refused : goal.returns-in-Err-clause-refused
returns-in-Err-clause-refused c =
    rw c.refuse_run.ensures (without_own c.args.job c.args.own c.args.selection.now c.args.name.now c.in-Err.refusal c.in-Err.ensures.refused)
