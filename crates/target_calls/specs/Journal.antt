-- The journal: what is issued for calls, entry by entry.
use Rattle.std.specs.Prelude.{◌≡◌, ℕ, ◌-◌, Bool, true, false, not, ◌&&◌, if◌then◌else◌, List, [], ◌∷◌, map, sum_by, Option, Some, None, ⊤}
use Rattle.target_machine.specs.Counts.{one_if}
use Rattle.target_machine.specs.Lists as lists
use Rattle.target_machine.specs.Plain.{Action, action_attempt, is_fault}
use Rattle.target_machine.specs.State.{TargetState}
use Rattle.target_calls.specs.World.{later_by}
use Rattle.target_calls.specs.declared.journal.Part.{Part}
use Rattle.target_calls.specs.declared.journal.Part.TheVariants.{Settles, Leads, Ends, Skips}

-- An entry: the number of its unit, from 1; what it is to the unit; whether the unit forgives a fault; and the action. An
-- entry that settles has the number of the last unit that was asked before it, and forgives nothing.
pub record Entry : Type 0 where
  pub unit : ℕ
  pub part : Part
  pub forgiving : Bool
  pub action : Action

-- the entry is not its unit's own, but settles what an earlier unit left open
abbrev pub settles : Part → Bool
settles Settles = true
settles other = false

-- Its unit counts as attempted from this entry on: it is the access that the unit is for, or the ABORT after an earlier fault.
abbrev pub completes : Part → Bool
completes Settles = false
completes Leads = false
completes Ends = true
completes (Skips attempted) = attempted

-- the entry is the write of ABORT after a fault that is forgiven
abbrev pub is_skip : Part → Bool
is_skip (Skips attempted) = true
is_skip other = false

-- the actions of entries, in order
abbrev pub actions_in : List Entry → List Action
actions_in entries = map (λ e. e.action) entries

-- the target after these entries, one at a time
abbrev pub target_after : TargetState → List Entry → TargetState
target_after t entries = lists.after t (actions_in entries)

-- on t the entry gives a fault that its unit does not forgive
abbrev pub is_unforgiven : TargetState → Entry → Bool
is_unforgiven t e = is_fault (action_attempt t e.action).outcome && not e.forgiving

-- From t no entry gives a fault that its unit does not forgive.
abbrev pub Passes : TargetState → List Entry → Type 0
Passes t [] = ⊤
Passes t (e ∷ entries) = (is_unforgiven t e ≡ false) × Passes (action_attempt t e.action).next entries

-- The number, from 1, of the first entry that gives a fault which its unit does not forgive.
abbrev pub first_fault : TargetState → List Entry → Option ℕ
first_fault t [] = None
first_fault t (e ∷ entries) = if is_unforgiven t e then Some 1 else later_by 1 (first_fault (action_attempt t e.action).next entries)

-- how many units' lines are written before the entry is issued: those of all units before its own
abbrev pub lines_before : Entry → ℕ
lines_before e = if settles e.part then e.unit else e.unit - 1

-- How many units are attempted by these entries.
abbrev pub attempted_in : List Entry → ℕ
attempted_in entries = sum_by (λ (e : Entry). one_if (completes e.part)) entries

-- How many units are skipped by these entries.
abbrev pub skipped_in : List Entry → ℕ
skipped_in entries = sum_by (λ (e : Entry). one_if (is_skip e.part)) entries
