-- How a walk goes on, and how much of it is left.
use Rattle.std.specs.Prelude.{◌≡◌, ℕ, ◌+◌, ◌-◌, ◌*◌, ◌%◌, ◌≤◌, sum_by, length, List, Option, None, Result, Ok, Err, ⊤}
use Rattle.dap_base.specs.Causes.{Rose}
use Rattle.target_calls.specs.World.{World}
use Rattle.target_calls.specs.declared.calls.Ask.{Ask}
use Rattle.access_calls.specs.declared.stop.Stop.{Stop}
use Rattle.sequels.specs.Meeting.{Gave, LeftOff, Reaches}
use Rattle.access_calls.specs.Asking.{EndsByStop}
use Rattle.rom_scan.specs.Meets.{StopsIn}
use Rattle.sequels.specs.Sequel.{Sequel}
use Rattle.rom_scan.specs.Tables.{unwound}
use Rattle.rom_scan.specs.Walk as walk
use Rattle.rom_scan.specs.Walk.{Walked}
use Rattle.rom_scan.specs.declared.component.Component.{Component}
use Rattle.rom_scan.specs.declared.tables.Table.{Table}
use Rattle.rom_scan.specs.declared.scan_end.ScanEnd.{ScanEnd}
use Rattle.rom_scan.specs.declared.scan_end.ScanEnd.TheVariants as e

-- a sequel goes on with the tables that are open now; or there were too many; or it was left off
abbrev pub Walks : World → ℕ → ℕ → Sequel Walked → Result ℕ ScanEnd → List Table → List Component → List Ask → List Ask → Option (List ℕ) → Option (List ℕ) → Type 0
Walks w lines ap s (Ok n) opening more old new before now = Reaches w s old new before now (unwound 1024 ap opening more)
Walks w lines ap s (Err e.Full) opening more old new before now = Gave w s old new before now walk.Full
Walks w lines ap s (Err e.WriteFault) opening more old new before now = LeftOff w s old new before now
Walks w lines ap s (Err (e.Stop st)) opening more old new before now = StopsIn w lines s old new before now st

-- the access has ended where it stopped, and else it goes on
abbrev pub ScanEndIs : {A : Type 0} → Result A ScanEnd → Option Stop → Type 0
ScanEndIs (Err (e.Stop s)) end = EndsByStop s end
ScanEndIs other end = end ≡ None

-- the sink's count of faults rose, or is at its last value, where the sink failed, and else it is the same
abbrev pub ScanHasSinkCause : Result ℕ ScanEnd → ℕ → ℕ → Type 0
ScanHasSinkCause (Err e.WriteFault) before now = Rose before now
ScanHasSinkCause other before now = now ≡ before

-- how many entries and components are left to be read, at most: a component that is read takes 970, and its table gives 961
abbrev pub reads_left : List Table → List Component → ℕ
reads_left tables listed = 970 * (1024 - length listed) + sum_by (λ (t : Table). t.left + 1) tables

-- the table stands at a page, and has at most 960 entries left
pub record IsOpenTable (t : Table) : Type 0 where
  pub page : t.address % 4096 ≡ 0
  pub few : t.left ≤ 960

-- so it is where there were too many components
abbrev pub AtFull : Result ℕ ScanEnd → Type 0 → Type 0
AtFull (Err e.Full) P = P
AtFull other P = ⊤
