-- What a scan answers over an access, in a world that is left.
use Rattle.std.specs.Prelude.{ℕ, List, Option, Result, Ok, Err, ◌⊎◌}
use Rattle.target_calls.specs.World.{World}
use Rattle.target_calls.specs.declared.calls.Ask.{Ask}
use Rattle.sequels.specs.Meeting.{Gave, LeftOff}
use Rattle.sequels.specs.Sequel.{Sequel}
use Rattle.rom_scan.specs.Meets.{Finished, StopsIn, StopsInFinish}
use Rattle.rom_scan.specs.Walk as walk
use Rattle.rom_scan.specs.Walk.{Walked, scanned_port}
use Rattle.rom_scan.specs.declared.component.Component.{Component}
use Rattle.rom_scan.specs.declared.scan_end.ScanEnd.{ScanEnd}
use Rattle.rom_scan.specs.declared.scan_end.ScanEnd.TheVariants as e

-- Before the `finish`: the components were listed; or there were too many; or it was left off, where the sink failed; or the access stopped.
abbrev pub ScanComesTo : World → ℕ → Sequel Walked → Result ℕ ScanEnd → List Ask → List Ask → Option (List ℕ) → Option (List ℕ) → Type 0
ScanComesTo w lines s (Ok n) old new before now = (listed : List Component) × Gave w s old new before now (walk.Listed listed)
ScanComesTo w lines s (Err e.Full) old new before now = Gave w s old new before now walk.Full
ScanComesTo w lines s (Err e.WriteFault) old new before now = LeftOff w s old new before now
ScanComesTo w lines s (Err (e.Stop st)) old new before now = StopsIn w lines s old new before now st

-- A whole scan, of at most 1,024 components. It came to its end, with all components or with more than these. Or it was left off in its middle,
-- where the sink failed. Or the access stopped, in the scan or in the `finish` after it.
abbrev pub Scans : World → ℕ → ℕ → Result ℕ ScanEnd → List Ask → List Ask → Option (List ℕ) → Option (List ℕ) → Type 0
Scans w lines ap (Ok n) old new before now = (listed : List Component) × Finished w (scanned_port 1024 ap) old new before now (walk.Listed listed)
Scans w lines ap (Err e.Full) old new before now = Finished w (scanned_port 1024 ap) old new before now walk.Full
Scans w lines ap (Err e.WriteFault) old new before now = LeftOff w (scanned_port 1024 ap) old new before now
Scans w lines ap (Err (e.Stop st)) old new before now =
    StopsIn w lines (scanned_port 1024 ap) old new before now st ⊎ StopsInFinish w lines (scanned_port 1024 ap) old new before now st
