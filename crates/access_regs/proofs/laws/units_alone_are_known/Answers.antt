use Rattle.access_regs.proofs.KeptLemmas.{kept_after_cfg, kept_by_cfg}
use Rattle.access_regs.proofs.laws.units_alone_are_known.Goals as goal

pub returns-clause-cfg : goal.returns-clause-cfg
returns-clause-cfg c = kept_by_cfg

pub returns-clause-after : goal.returns-clause-after
returns-clause-after c = kept_after_cfg
