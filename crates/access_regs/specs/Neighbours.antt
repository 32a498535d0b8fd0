-- Memory units of one size on one AP, at rising neighbouring addresses.
use Rattle.std.specs.Prelude.{◌≡◌, ◌+◌, ◌*◌, ◌%◌, ◌^◌, ◌≤◌, ◌<◌, ◌⊎◌, ℕ, Bool, true, false, nat_lt, if◌then◌else◌, List, [], ◌∷◌, ◌++◌, length, ⊤}
use Rattle.target_machine.specs.State.{TargetState}
use Rattle.target_machine.specs.Plain.{Action, Makes, drw_of}
use Rattle.target_machine.specs.declared.unit.Call.{Call}
use Rattle.target_machine.specs.declared.unit.Call.TheVariants.{Access}
use Rattle.target_machine.specs.declared.unit.Unit.TheVariants as unit
use Rattle.access_regs.specs.Journal.{entries_at, issued_from}
use Rattle.target_calls.specs.Journal.{Entry, actions_in, settles}
use Rattle.target_calls.specs.declared.calls.Ask.{Ask}
use Rattle.access_regs.specs.Kept.{Kept, known_at}
use Rattle.access_regs.specs.declared.planner.Planner.TheVariants.{Managed}

-- how many entries are their unit's own, and settle nothing
abbrev pub own_entries : List Entry → ℕ
own_entries [] = 0
own_entries (e ∷ es) = (if settles e.part then 0 else 1) + own_entries es

-- The call is a memory unit at this address that forgives nothing, with no `finish` after it.
pub record IsUnitAt (size ap address : ℕ) (c : Ask) : Type 0 where
  pub read : Bool
  pub value : ℕ
  pub is : c ≡ record { call = Access (unit.Memory size read ap address value); forgive = false; settled = false }

-- The calls are such units, each at the address after the one before.
abbrev pub AreNeighbours : ℕ → ℕ → ℕ → List Ask → Type 0
AreNeighbours size ap address [] = ⊤
AreNeighbours size ap address (c ∷ cs) = IsUnitAt size ap address c × AreNeighbours size ap (address + size) cs

-- How many own entries neighbouring units have at most besides one each. They have more on an AP with large addresses, and most where CFG is
-- read to learn of them.
abbrev pub more_than_one_each : Bool → ℕ → ℕ
more_than_one_each large address = if large then 5 else (if nat_lt address (2 ^ 32) then 4 else 7)

-- Within one KiB n units have at most n + 4 own entries. They have at most n + 5 on an AP that is known to have large addresses. At addresses
-- over 0xFFFFFFFF on an AP of which that is not known, they have at most n + 7.
abbrev pub NeighboursAreFew : Type 0
NeighboursAreFew = (units : ℕ) (k : Kept) (t : TargetState) (size ap address : ℕ) (calls : List Ask) →
    length k.ports ≡ 256 → ap < 256 → ((size ≡ 1) ⊎ ((size ≡ 2) ⊎ (size ≡ 4))) → address % size ≡ 0 → address % 1024 + size * length calls ≤ 1024 →
    AreNeighbours size ap address calls → own_entries (issued_from Managed units k t calls) ≤ length calls + more_than_one_each (known_at k ap).large address

-- the access by DRW of a call, where that is a memory unit
abbrev pub drw_in : Call → List Action
drw_in (Access (unit.Memory size read ap address value)) = Makes (drw_of read address value) ∷ []
drw_in other = []

-- those of calls, in order
abbrev pub drws_in : List Ask → List Action
drws_in [] = []
drws_in (c ∷ cs) = drw_in c.call ++ drws_in cs

-- After the first of such units all the others issue nothing but their accesses by DRW.
abbrev pub NeighboursAreBare : Type 0
NeighboursAreBare = (units : ℕ) (k : Kept) (t : TargetState) (size ap address : ℕ) (first : Ask) (calls : List Ask) →
    length k.ports ≡ 256 → ((size ≡ 1) ⊎ ((size ≡ 2) ⊎ (size ≡ 4))) → ap < 256 → address % 1024 + size * length (first ∷ calls) ≤ 1024 →
    AreNeighbours size ap address (first ∷ calls) → ((known_at k ap).large ≡ true) ⊎ (address < 2 ^ 32) →
    actions_in (issued_from Managed units k t (first ∷ calls)) ≡ actions_in (entries_at Managed units t k first) ++ drws_in calls
