use Rattle.run_events.proofs.Rows.{counts_is, waits_is, enters_is}
use Rattle.run_events.proofs.laws.worked_rows.Goals as goal

pub returns-clause-counts : goal.returns-clause-counts
returns-clause-counts c = λ w. counts_is w

pub returns-clause-waits : goal.returns-clause-waits
returns-clause-waits c = λ w. waits_is w

pub returns-clause-enters : goal.returns-clause-enters
returns-clause-enters c = λ w. enters_is w
