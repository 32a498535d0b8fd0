use Rattle.job_check.proofs.ValueLemmas.{replaced}
use Rattle.job_check.proofs.values.put_values.Goals as goal

pub returns-in-Some-clause-values : goal.returns-in-Some-clause-values
returns-in-Some-clause-values c = replaced _ _ c.args.conf.now c.args.plain c.replace_in.result c.in-Some.is c.replace_in.ensures.same c.replace_in.ensures.replaced
