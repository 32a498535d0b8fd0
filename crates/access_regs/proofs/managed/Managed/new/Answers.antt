use Rattle.std.proofs.Common.{List, None, ap}
use Rattle.access_regs.specs.declared.known.Known.{Known}
use Rattle.access_regs.proofs.managed.Managed.new.Goals as goal

pub returns : goal.returns
returns c = ap (λ (l : List Known). record { select = None; ports = l; unsettled = None }) (c.in-Ok.ensures.items_if_clones_equal (λ y e. e))
