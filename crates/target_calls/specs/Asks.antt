-- Calls that are asked.
use Rattle.std.specs.Prelude.{◌≡◌, ◌^◌, ◌<◌, Bool, true, false, ◌&&◌, nat_lt, List, [], ◌∷◌}
use Rattle.std.specs.List.{AllByRecursion}
use Rattle.target_machine.specs.InRange.{IsProbeInRange}
use Rattle.target_machine.specs.Plain.{may_forgive}
use Rattle.target_machine.specs.Sound.{IsSoundCall}
use Rattle.target_machine.specs.declared.unit.Call.{Call}
use Rattle.target_machine.specs.declared.unit.ProbeCall.{ProbeCall}
use Rattle.target_machine.specs.declared.unit.Call.TheVariants.{Access, Probe}
use Rattle.target_machine.specs.declared.unit.Unit.{Unit as AccessUnit}
use Rattle.target_machine.specs.declared.unit.Unit.TheVariants as unit
use Rattle.target_calls.specs.declared.calls.Ask.{Ask}

-- a call, with no `finish` after it
abbrev pub ask_of : Call → Bool → Ask
ask_of call forgive = record { call = call; forgive = forgive; settled = false }

-- an access is asked
abbrev pub unit_ask : AccessUnit → Bool → Ask
unit_ask unit forgive = ask_of (Access unit) forgive

-- a command of the probe is asked
abbrev pub probe_ask : ProbeCall → Ask
probe_ask command = ask_of (Probe command) false

-- a fault of the call is forgiven: error control counts for memory and AP units alone
abbrev pub is_forgiving : Ask → Bool
is_forgiving ask = ask.forgive && may_forgive ask.call

-- no fault of these calls is forgiven
abbrev pub ForgiveNothing : List Ask → Type 0
ForgiveNothing asks = AllByRecursion (λ ask. is_forgiving ask ≡ false) asks

-- the access is one of memory at an address over 0xFFFFFFFF
abbrev pub is_wide : AccessUnit → Bool
is_wide (unit.Memory size read ap address value) = nat_lt 0xFFFF_FFFF address
is_wide other = false

-- the call is such an access
abbrev pub is_wide_call : Call → Bool
is_wide_call (Access asked) = is_wide asked
is_wide_call (Probe command) = false

-- The last call is marked: a `finish` was made after it.
abbrev pub settled_last : List Ask → List Ask
settled_last [] = []
settled_last (ask ∷ []) = record ask { settled = true } ∷ []
settled_last (ask ∷ next ∷ asks) = ask ∷ settled_last (next ∷ asks)

-- the last call is marked, or there is none
abbrev pub is_settled : List Ask → Bool
is_settled [] = true
is_settled (ask ∷ []) = ask.settled
is_settled (ask ∷ next ∷ asks) = is_settled (next ∷ asks)

-- the numbers of a unit are those of its type
abbrev pub IsUnitInRange : AccessUnit → Type 0
IsUnitInRange (unit.Memory size read ap address value) = (ap < 2 ^ 8) × (address < 2 ^ 64) × (value < 2 ^ 32)
IsUnitInRange (unit.Ap read ap addr value) = (ap < 2 ^ 8) × (addr < 2 ^ 8) × (value < 2 ^ 32)
IsUnitInRange (unit.Dp read addr value) = value < 2 ^ 32
IsUnitInRange (unit.Poll mask value turns) = (mask < 2 ^ 32) × (value < 2 ^ 32)

-- the numbers of a call are those of its type
abbrev pub IsCallInRange : Call → Type 0
IsCallInRange (Access asked) = IsUnitInRange asked
IsCallInRange (Probe command) = IsProbeInRange command

-- The call may be asked: its sizes, addresses and counts are those of units, and its numbers those of their types.
pub record IsAskable (ask : Ask) : Type 0 where
  pub sound : IsSoundCall ask.call
  pub range : IsCallInRange ask.call

-- each of the calls may be asked
abbrev pub AreAskable : List Ask → Type 0
AreAskable asks = AllByRecursion IsAskable asks
