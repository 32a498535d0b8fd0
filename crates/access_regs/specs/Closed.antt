-- Which calls have changed the memory after the first entries of a journal.
use Rattle.std.specs.Prelude.{◌≡◌, ℕ, ◌+◌, ◌≤◌, max, Bool, true, false, if◌then◌else◌, List, [], ◌∷◌, ◌++◌, fold, length, take}
use Rattle.target_machine.specs.Fresh.{IsFresh}
use Rattle.target_machine.specs.State.{TargetState}
use Rattle.target_calls.specs.Asks.{AreAskable}
use Rattle.target_calls.specs.Journal.{Entry, Passes, is_unforgiven, lines_before, target_after}
use Rattle.target_calls.specs.declared.calls.Ask.{Ask}
use Rattle.target_calls.specs.declared.journal.Part.{Part}
use Rattle.target_calls.specs.declared.journal.Part.TheVariants.{Settles, Leads, Ends, Skips}
use Rattle.access_regs.specs.Alone.{alone_after}
use Rattle.access_regs.specs.Journal.{issued_entries}
use Rattle.access_regs.specs.declared.planner.Planner.{Planner}

-- the entry is the access that its unit is for, or the skip of its unit
abbrev pub closes : Part → Bool
closes Settles = false
closes Leads = false
closes Ends = true
closes (Skips attempted) = true

-- the number of the unit that the entry closes; the given one where it closes none
abbrev pub closed_by : ℕ → Entry → ℕ
closed_by units e = if closes e.part then e.unit else units

-- The number of the unit that was closed last by these entries, of so many units before them.
abbrev pub closed_after : ℕ → List Entry → ℕ
closed_after units entries = fold closed_by units entries

-- Let none of the first entries give a fault that its unit does not forgive. Then the memory after them is the one that the calls leave up to
-- the last one whose own access or skip is among them. Neither settling nor what comes before that access changes it.
abbrev pub MemoryFollowsCalls : Type 0
MemoryFollowsCalls = (p : Planner) (t : TargetState) (calls : List Ask) (front more : List Entry) → IsFresh t → AreAskable calls → Passes t front →
    issued_entries p t calls ≡ front ++ more →
    (target_after t front).words ≡ (alone_after t [] (take (closed_after 0 front) calls)).words

-- How many units these entries made, where so many units have their lines before the next entry. They are those, and the next unit where its own
-- access or skip is among the entries.
abbrev pub made_by : ℕ → List Entry → ℕ
made_by lines entries = max lines (closed_after 0 entries)

-- So many units are at most one more than those that have their lines before the next entry, and were asked. The memory after these
-- entries is the one that they leave.
pub record HasMade (t : TargetState) (calls : List Ask) (lines : ℕ) (entries : List Entry) : Type 0 where
  pub few : made_by lines entries ≤ lines + 1
  pub asked : made_by lines entries ≤ length calls
  pub words : (target_after t entries).words ≡ (alone_after t [] (take (made_by lines entries) calls)).words

-- Before an entry, and after it; and after it where it gives a fault that its unit does not forgive, which leaves the memory as it was.
pub record IsMadeAt (t : TargetState) (calls : List Ask) (front : List Entry) (e : Entry) : Type 0 where
  pub before : HasMade t calls (lines_before e) front
  pub after : HasMade t calls (lines_before e) (front ++ e ∷ [])
  pub fault : is_unforgiven (target_after t front) e ≡ true → (target_after t (front ++ e ∷ [])).words ≡ (alone_after t [] (take (lines_before e + 1) calls)).words

-- Let no entry before one give a fault that its unit does not forgive. The memory before that entry, and after it, is the one that the
-- units leave which were made by then.
abbrev pub MemoryAtEntry : Type 0
MemoryAtEntry = (p : Planner) (t : TargetState) (calls : List Ask) (front : List Entry) (e : Entry) (more : List Entry) → IsFresh t → AreAskable calls →
    issued_entries p t calls ≡ front ++ e ∷ more → Passes t front →
    IsMadeAt t calls front e
