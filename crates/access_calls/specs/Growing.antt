-- The journal of calls, and that of more calls after them.
use Rattle.std.specs.Prelude.{◌≡◌, ◌<◌, ◌≤◌, ◌++◌, ℕ, List, [], length, refl}
use Rattle.std.specs.List.{AllByRecursion}
use Rattle.target_calls.specs.Asks.{settled_last}
use Rattle.target_calls.specs.Journal.{Entry, lines_before}
use Rattle.target_calls.specs.declared.calls.Ask.{Ask}
use Rattle.target_machine.specs.State.{TargetState}

-- the entry is issued once so many calls were asked: for a later one, or to settle what they left
abbrev pub IsAfter : ℕ → Entry → Type 0
IsAfter calls e = calls ≤ lines_before e

-- the entry is issued for one of the first so many calls, or to settle what was left before the last of them
abbrev pub IsForFirstCalls : ℕ → Entry → Type 0
IsForFirstCalls calls e = lines_before e < calls

-- these entries begin with the first ones, and go on with those that are issued once so many calls were asked
pub record GoesOnWith (calls : ℕ) (first entries : List Entry) : Type 0 where
  pub rest : List Entry
  pub joined : entries ≡ first ++ rest
  pub later : AllByRecursion (IsAfter calls) rest

-- The journal of more calls begins with the journal of the first of them.
abbrev pub JournalGoesOn : (TargetState → List Ask → List Entry) → Type 0
JournalGoesOn journal = (t : TargetState) (asks more : List Ask) → GoesOnWith (length asks) (journal t asks) (journal t (asks ++ more))

-- the journal of an access that never has entries
pub grows_empty : JournalGoesOn (λ t asks. [])
grows_empty t asks more = record { rest = []; joined = refl; later = tt }

-- The journal of calls that a `finish` follows begins with the journal of the calls, and goes on with what settles them.
abbrev pub JournalSettles : (TargetState → List Ask → List Entry) → Type 0
JournalSettles journal = (t : TargetState) (asks : List Ask) → GoesOnWith (length asks) (journal t asks) (journal t (settled_last asks))

-- the same of the journal that never has entries
pub settles_empty : JournalSettles (λ t asks. [])
settles_empty t asks = record { rest = []; joined = refl; later = tt }
