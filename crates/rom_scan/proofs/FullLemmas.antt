-- How many units were asked where there were too many components.
use Rattle.std.proofs.Common.{◌≡◌, ℕ, Result, Ok, Err, subst}
use Rattle.rom_scan.specs.Arrivals.{AtFull}
use Rattle.rom_scan.specs.declared.scan_end.ScanEnd.{ScanEnd}
use Rattle.rom_scan.specs.declared.scan_end.ScanEnd.TheVariants as e

-- what is so there gives what is so there
pub at_full : (r : Result ℕ ScanEnd) (P Q : Type 0) → (P → Q) → AtFull r P → AtFull r Q
at_full (Ok n) P Q f h = tt
at_full (Err e.Full) P Q f h = f h
at_full (Err e.WriteFault) P Q f h = tt
at_full (Err (e.Stop s)) P Q f h = tt

-- the same end under another name
pub full_at : (x y : ScanEnd) (P : Type 0) → x ≡ y → AtFull (Err x) P → AtFull (Err y) P
full_at x y P same h = subst (λ (r : ScanEnd). AtFull (Err r) P) same h
