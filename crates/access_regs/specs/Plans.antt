-- The list that a plan has.
use Rattle.std.specs.Prelude.{List, take}
use Rattle.target_machine.specs.declared.access.RegAccess.{RegAccess}
use Rattle.access_regs.specs.declared.plan.Plan.{Plan}

-- The accesses of a plan: the first `count` of its array.
abbrev pub accesses_of : Plan → List RegAccess
accesses_of p = take p.count p.accesses
