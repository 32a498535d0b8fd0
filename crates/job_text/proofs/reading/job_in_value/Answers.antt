use Rattle.serde_json.specs.View.{view}
use Rattle.job_text.proofs.JobFaults.{own_fails}
use Rattle.job_text.proofs.reading.job_in_value.Goals as goal

pub returns-in_err-own : goal.returns-in_err-own
returns-in_err-own c =
    own_fails (view c.args.value.now) c.from_residual-in_err-own.result c.in_ok-only_job_keys.field-0 c.in_ok-pack.pack c.in_ok-settings.settings c.in_ok-bench.bench c.in_err-own.field-0.0
    c.in_ok-only_job_keys.ensures c.in_ok-pack.ensures c.in_ok-settings.ensures c.in_ok-bench.ensures c.in_err-own.ensures c.from_residual-in_err-own.ensures.1
