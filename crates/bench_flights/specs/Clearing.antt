-- A fault at the end of a flight, and the write of ABORT that clears STICKYERR after it.
use Rattle.std.specs.Prelude.{◌≡◌, ◌⊎◌, ◌==◌, ◌≤◌, Bool, false, List, [], ◌∷◌, length, bit_and, ⊤}
use Rattle.target_machine.specs.InRange.{IsInRange}
use Rattle.target_machine.specs.Plain.{Commands, forgives}
use Rattle.target_machine.specs.declared.access.RegAccess.{RegAccess}
use Rattle.flight_forms.specs.Forms.{writes_drw}
use Rattle.probe_core.specs.Bench.{BenchState}
use Rattle.probe_core.specs.Probe.{target_of}
use Rattle.batch_packer.specs.Flying.{transfers_of}
use Rattle.batch_packer.specs.declared.ends.FlightEnd.{FlightEnd}
use Rattle.batch_packer.specs.declared.ends.FlightEnd.TheVariants as ends
use Rattle.bench_flights.specs.Flown.{DidLess, HasDoneWhole}

-- a flight ended at a transfer that was answered FAULT (04)
abbrev pub is_fault_end : FlightEnd → Bool
is_fault_end (ends.Cut cut) = cut.response == 0x04
is_fault_end ends.BenchFault = false
is_fault_end ends.ReplyBad = false

-- One access, or up to four of which the first is no write of DRW: whatever the limits are, they are sent as one Transfer.
abbrev pub IsOneTransfer : List RegAccess → Type 0
IsOneTransfer [] = ⊥
IsOneTransfer (a ∷ []) = ⊤
IsOneTransfer (a ∷ b ∷ rest) = (length rest ≤ 2) × (writes_drw a ≡ false)

-- A bench over which ABORT does what is said of it: one over which a flight does, but STICKYERR may be set.
pub record CanClear (m : BenchState) : Type 0 where
  pub mask : (transfers_of m).mask ≡ 0
  pub matches : (transfers_of m).setting.matches ≡ 0
  pub dpidr : (bit_and (target_of m.probe).dpidr 1 == 0) ≡ false
  pub in_range : IsInRange (target_of m.probe)

-- ABORT was written whole or not at all, where the bench failed; nothing else ends it
abbrev pub ClearedOff : FlightEnd → BenchState → BenchState → Type 0
ClearedOff (ends.Cut cut) m o = ⊥
ClearedOff ends.BenchFault m o = HasDoneWhole (Commands forgives) 0 m o ⊎ DidLess (Commands forgives) m o
ClearedOff ends.ReplyBad m o = ⊥
