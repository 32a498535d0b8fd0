use Rattle.flight_laws.proofs.CfgLemmas.{small_alone, small_by_cfg}
use Rattle.flight_laws.proofs.SmallLemmas.{not_small_now}
use Rattle.flight_laws.proofs.laws.small_units.Goals as goal

pub returns-clause-none : goal.returns-clause-none
returns-clause-none c = not_small_now

pub returns-clause-cfg : goal.returns-clause-cfg
returns-clause-cfg c = small_by_cfg

pub returns-clause-alone : goal.returns-clause-alone
returns-clause-alone c = small_alone
