-- Where calls stop, by the entries that they issue.
use Rattle.std.specs.Prelude.{◌≡◌, ◌≢◌, ◌⊎◌, ℕ, suc, ◌+◌, ◌≤◌, ◌<◌, true, false, List, [], ◌∷◌, ◌++◌, length, take, Option, Some, None}
use Rattle.target_machine.specs.Fresh.{IsFresh}
use Rattle.target_machine.specs.Plain.{action_attempt, is_fault}
use Rattle.target_machine.specs.State.{TargetState}
use Rattle.target_calls.specs.Asks.{AreAskable, is_settled}
use Rattle.target_calls.specs.Journal.{Entry, Passes, lines_before, target_after}
use Rattle.target_calls.specs.World.{AtLeast, World, stop}
use Rattle.target_calls.specs.declared.calls.Ask.{Ask}
use Rattle.target_calls.specs.declared.journal.Part.TheVariants.{Settles}
use Rattle.access_regs.specs.Alone.{NoneFaults}
use Rattle.access_regs.specs.Journal.{issued_entries}
use Rattle.access_regs.specs.declared.planner.Planner.{Planner}

-- a world of this target and list of APs
abbrev pub world_at : TargetState → List ℕ → Option ℕ → World
world_at t large n = record { target = t; large = large; answered = n }

-- The calls stop at a fault of the call for which this entry is, where so many units came before, and the calls before it are
-- answered.
pub record StopsThere (base : ℕ) (t : TargetState) (large : List ℕ) (asks : List Ask) (e : Entry) : Type 0 where
  pub at : ℕ
  pub unit : e.unit ≡ base + suc at
  pub own : e.part ≢ Settles
  pub within : at < length asks
  pub none : NoneFaults t large (take at asks)
  pub stops : (n : Option ℕ) → AtLeast at n → stop (world_at t large n) asks ≡ Some (suc at)

-- Where just so many calls are answered as have lines before this entry, they stop at the next one; or there is none, and they
-- are settled.
pub record StaysThere (base : ℕ) (t : TargetState) (large : List ℕ) (asks : List Ask) (e : Entry) : Type 0 where
  pub at : ℕ
  pub lines : lines_before e ≡ base + at
  pub within : at ≤ length asks
  pub none : NoneFaults t large (take at asks)
  pub stops : (stop (world_at t large (Some at)) asks ≡ Some (suc at))
      ⊎ ((stop (world_at t large (Some at)) asks ≡ None) × ((at ≡ length asks) × (is_settled asks ≡ true)))

-- No call stops, where all are answered.
pub record NoneStops (t : TargetState) (large : List ℕ) (asks : List Ask) : Type 0 where
  pub none : NoneFaults t large asks
  pub stops : (n : Option ℕ) → AtLeast (length asks) n → stop (world_at t large n) asks ≡ None

-- At the first entry that gives a fault which its unit does not forgive, its call stops, and no call before it.
abbrev pub FaultStops : Type 0
FaultStops = (p : Planner) (t : TargetState) (asks : List Ask) (front : List Entry) (e : Entry) (more : List Entry) → IsFresh t → AreAskable asks →
    issued_entries p t asks ≡ front ++ e ∷ more →
    Passes t front → is_fault (action_attempt (target_after t front) e.action).outcome ≡ true → e.forgiving ≡ false → StopsThere 0 t [] asks e

-- At an entry before which all pass, a retry that ends stops the calls after those that have lines before it.
abbrev pub WaitStops : Type 0
WaitStops = (p : Planner) (t : TargetState) (asks : List Ask) (front : List Entry) (e : Entry) (more : List Entry) → IsFresh t → AreAskable asks →
    issued_entries p t asks ≡ front ++ e ∷ more →
    Passes t front → StaysThere 0 t [] asks e

-- Where all entries pass, no call stops.
abbrev pub PassingStops : Type 0
PassingStops = (p : Planner) (t : TargetState) (asks : List Ask) → IsFresh t → AreAskable asks → Passes t (issued_entries p t asks) → NoneStops t [] asks
