-- How what the code answers is what a text means.
use Rattle.std.specs.Prelude.{◌≡◌, ⊤, ℕ, Result, Ok, Err}
use Rattle.hex_image.specs.Image.{FaultAt, Bytes, Reading}
use Rattle.hex_image.specs.declared.fault.ImageFault.{ImageFault}
use Rattle.hex_image.specs.declared.fault.ImageFault.TheVariants as fault
use Rattle.hex_image.specs.declared.fault.ImageKind.{ImageKind}
use Rattle.hex_image.specs.declared.reading.LineFault.{LineFault}
use Rattle.hex_image.specs.declared.reading.LineFault.TheVariants as line

-- A line that was read leaves what it means, and a fault is the one that it means. Out of memory says nothing.
abbrev pub IsRead : Result (Unit {0}) LineFault → Result Reading ImageKind → Reading → Type 0
IsRead (Ok x) meant new = meant ≡ Ok new
IsRead (Err (line.Kind k)) meant new = meant ≡ Err k
IsRead (Err line.OutOfMemory) meant new = ⊤

-- An image is the one that a text means, and a fault is the text's first one. Out of memory says nothing.
abbrev pub IsImage : Result Bytes ImageFault → Result Bytes FaultAt → Type 0
IsImage (Ok image) meant = meant ≡ Ok image
IsImage (Err (fault.Fault k line)) meant = meant ≡ Err (record { kind = k; line = line })
IsImage (Err fault.OutOfMemory) meant = ⊤

-- The fault of a line, with its number; or out of memory.
abbrev pub IsFault : LineFault → ℕ → ImageFault → Type 0
IsFault (line.Kind k) at f = f ≡ fault.Fault k at
IsFault line.OutOfMemory at f = f ≡ fault.OutOfMemory
