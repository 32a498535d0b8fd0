-- The settling that a `finish` issues.
use Rattle.std.specs.Prelude.{◌+◌, ◌*◌, ◌≤◌, length}
use Rattle.access_regs.specs.Kept.{Kept}
use Rattle.access_regs.specs.Plan.{settle}
use Rattle.packed_access.specs.Logs.{LogState, most_entries}

-- There is room for a settling after the calls, and where one is due there are calls.
pub record CanSettle (log : LogState) (kept : Kept) : Type 0 where
  pub room : length log.entries + length (settle kept) ≤ log.room
  pub bounded : length log.entries + length (settle kept) ≤ most_entries * length log.calls
