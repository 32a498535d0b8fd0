use Rattle.probe_core.proofs.TallyLemmas.{whole_counted, whole_exchanges, whole_fitting}
use Rattle.probe_core.proofs.laws.a_log_is_whole_where_few_are_counted.Goals as goal

pub returns-clause-counted : goal.returns-clause-counted
returns-clause-counted c = whole_counted

pub returns-clause-entries : goal.returns-clause-entries
returns-clause-entries c = whole_fitting

pub returns-clause-exchanges : goal.returns-clause-exchanges
returns-clause-exchanges c = whole_exchanges
