use Rattle.probe_core.proofs.TallyLemmas.{kept_all, kept_front, whole_log}
use Rattle.probe_core.proofs.laws.a_log_is_whole_where_all_fits.Goals as goal

pub returns-clause-whole : goal.returns-clause-whole
returns-clause-whole c = whole_log

pub returns-clause-all : goal.returns-clause-all
returns-clause-all c = kept_all

pub returns-clause-front : goal.returns-clause-front
returns-clause-front c = kept_front
