use Rattle.job_text.specs.declared.job.Job.{Job}
use Rattle.job_text.specs.Ranges.{AreSettings, AreWatched}
use Rattle.probe_core.specs.Ranges.{IsBenchJob}
use Rattle.job_check.proofs.RunningLemmas.{no_job, of_refusal, of_run, on_job}
use Rattle.job_check.proofs.running.valid_run.Goals as goal

pub returns-in-Err-clause-refused : goal.returns-in-Err-clause-refused
returns-in-Err-clause-refused c = rw c.refuse_run.ensures (no_job c.args.bytes.now c.args.own c.args.selection.now c.args.name.now c.in-Err.refusal c.in-Err.ensures.refused)

pub returns-clause-found : goal.returns-clause-found
returns-clause-found c =
    of_run c.args.bytes.now c.args.own c.args.selection.now c.args.name.now c.in-Ok.job c.valid_run_of.result c.in-Ok.ensures.found c.valid_run_of.ensures.same c.valid_run_of.ensures.found

pub returns-clause-refused : goal.returns-clause-refused
returns-clause-refused c = of_refusal c.args.bytes.now c.args.own c.args.selection.now c.args.name.now c.in-Ok.job c.valid_run_of.result c.in-Ok.ensures.found c.valid_run_of.ensures.refused

pub returns-clause-settings : goal.returns-clause-settings
returns-clause-settings c = on_job (λ (j : Job). AreSettings j.settings) c.in-Ok.job c.valid_run_of.result c.in-Ok.ensures.settings c.valid_run_of.ensures.same

pub returns-clause-watch : goal.returns-clause-watch
returns-clause-watch c = on_job (λ (j : Job). AreWatched j.bench.target.memory j.watch) c.in-Ok.job c.valid_run_of.result c.in-Ok.ensures.watch c.valid_run_of.ensures.same

pub returns-clause-ranges : goal.returns-clause-ranges
returns-clause-ranges c = on_job (λ (j : Job). IsBenchJob j.bench) c.in-Ok.job c.valid_run_of.result c.in-Ok.ensures.ranges c.valid_run_of.ensures.same
