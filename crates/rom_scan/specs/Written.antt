-- What is written to a sink, over any access.
use Rattle.std.specs.Prelude.{ℕ, List, Option, Result, Err, ⊤}
use Rattle.std.specs.Io.KnownBytes.{Appends}
use Rattle.rom_scan.specs.Listing.{component_lines}
use Rattle.rom_scan.specs.declared.component.Component.{Component}
use Rattle.rom_scan.specs.declared.scan_end.ScanEnd.{ScanEnd}
use Rattle.rom_scan.specs.declared.scan_end.ScanEnd.TheVariants as e

-- The lines of some components were written, each whole, and nothing else.
pub record AppendsComponents (old new : Option (List ℕ)) : Type 0 where
  pub components : List Component
  pub appends : Appends old new (component_lines components)

-- Only where the sink failed a part of a line may be written.
abbrev pub WritesComponents : Result ℕ ScanEnd → Option (List ℕ) → Option (List ℕ) → Type 0
WritesComponents (Err e.WriteFault) old new = ⊤
WritesComponents other old new = AppendsComponents old new
