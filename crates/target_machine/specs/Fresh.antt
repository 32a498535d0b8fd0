-- A target at which runs begin.
use Rattle.std.specs.Prelude.{◌≡◌, ◌^◌, ◌<◌, false}
use Rattle.target_machine.specs.Attempt.{stored_csw}
use Rattle.target_machine.specs.InRange.{EachValue}
use Rattle.target_machine.specs.State.{TargetState}
use Rattle.target_machine.specs.declared.ap.ApState.{ApState}

-- CSW has no bit but those that are stored
abbrev pub HasStoredCsw : ApState → Type 0
HasStoredCsw port = stored_csw port.csw ≡ port.csw

-- CSW of each access port has only bits that are stored
abbrev pub HaveStoredCsw : TargetState → Type 0
HaveStoredCsw t = EachValue HasStoredCsw t.aps

-- STICKYERR is clear, the count of reads that power-up takes is one that can be reached, and each CSW has stored bits alone.
pub record IsFresh (t : TargetState) : Type 0 where
  pub clear : t.sticky ≡ false
  pub few : t.power_reads < 2 ^ 32
  pub stored : HaveStoredCsw t
