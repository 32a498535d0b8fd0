-- The access of the program.
use Rattle.std.specs.Prelude.{true}
use Rattle.access_regs.specs.Costs.{cost_by}
use Rattle.access_regs.specs.Journal.{issued_entries}
use Rattle.access_regs.specs.declared.planner.Planner.TheVariants.{Managed}
use Rattle.job_runs.specs.Runs.{AccessKind, access_kind}

-- The access that packs. Its journal is what the plans issue that know the registers. A call has the need points of these plans, and the access
-- keeps the bounds on starting packets.
abbrev pub packed_kind : AccessKind
packed_kind = access_kind (issued_entries Managed) (cost_by Managed) true
