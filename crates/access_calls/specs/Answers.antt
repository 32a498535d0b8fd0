-- What the calls of an access answer.
use Rattle.std.specs.Prelude.{◌≡◌, ◌⊎◌, ⊤, ℕ, ◌+◌, Bool, true, false, if◌then◌else◌, List, [], ◌∷◌, ◌++◌, length, Option, Some, None, is_some, Result, Ok, Err}
use Rattle.target_calls.specs.Asks.{settled_last}
use Rattle.target_calls.specs.World.{World, stop}
use Rattle.target_calls.specs.declared.calls.Ask.{Ask}
use Rattle.target_calls.specs.declared.calls.Asked.{Asked}
use Rattle.target_calls.specs.declared.calls.Asked.TheVariants as answer
use Rattle.access_calls.specs.Reported.{AccessView}
use Rattle.access_calls.specs.declared.stop.Report.{Report}
use Rattle.access_calls.specs.declared.stop.Stop.{Stop}
use Rattle.access_calls.specs.declared.stop.Stop.TheVariants.{Cut, BenchFault, ReplyBad, OutOfMemory}
use Rattle.access_calls.specs.declared.stop.StopCause.{StopCause}
use Rattle.access_calls.specs.declared.stop.StopCause.TheVariants.{Faulted, NoAnswer}

-- ---- an access that is asked

-- the slot has this number
abbrev pub HasSlot : ℕ → Asked → Type 0
HasSlot index (answer.Slot slot) = slot.index ≡ index
HasSlot index answer.Small = ⊤

-- `Small` is answered exactly where this is true
abbrev pub IsSmallWhere : Bool → Asked → Type 0
IsSmallWhere small (answer.Slot slot) = small ≡ false
IsSmallWhere small answer.Small = small ≡ true

-- `Small` is answered only where this is true
abbrev pub IsSmallOnly : Bool → Asked → Type 0
IsSmallOnly wide (answer.Slot slot) = ⊤
IsSmallOnly wide answer.Small = wide ≡ true

-- What was asked, after a call was asked: an access that had ended asks nothing, and where memory is refused nothing is
-- asked. A call counts as asked also where the access ends in it.
abbrev pub calls_after : {T : Type 0} → AccessView → Ask → Result T Stop → List Ask
calls_after a ask (Ok x) = a.asks.calls ++ ask ∷ []
calls_after a ask (Err OutOfMemory) = a.asks.calls
calls_after a ask (Err other) = if is_some a.end then a.asks.calls else a.asks.calls ++ ask ∷ []

-- what was asked, after a `finish`: the last call is marked, except where the access had ended
abbrev pub calls_finished : AccessView → List Ask
calls_finished a = if is_some a.end then a.asks.calls else settled_last a.asks.calls

-- ---- an end

-- so it is where the end is a cut
abbrev pub AtCut : Stop → (Report → Type 0) → Type 0
AtCut (Cut r) P = P r
AtCut other P = ⊤

-- At a cut, the calls stop right after those whose lines come before it.
pub record StopsCalls (w : World) (asks : List Ask) (lines : ℕ) (s : Stop) : Type 0 where
  pub so : AtCut s (λ r. stop w asks ≡ Some (lines + 1))

-- at a fault the calls stop there; where a retry ended they stop there, or all of them have their lines before it
abbrev pub StopsOrSettles : StopCause → World → List Ask → ℕ → Type 0
StopsOrSettles Faulted w asks lines = stop w asks ≡ Some (lines + 1)
StopsOrSettles NoAnswer w asks lines = (stop w asks ≡ Some (lines + 1)) ⊎ ((stop w asks ≡ None) × (lines ≡ length asks))

-- The same where a settling follows the calls, which can end a retry but meets no fault.
pub record StopsSettling (w : World) (asks : List Ask) (lines : ℕ) (s : Stop) : Type 0 where
  pub so : AtCut s (λ r. StopsOrSettles r.cause w asks lines)

-- an `Err` is the end from now on, except where memory was refused
abbrev pub IsEnd : Option Stop → Stop → Type 0
IsEnd end (Cut r) = end ≡ Some (Cut r)
IsEnd end (BenchFault issued confirmed) = end ≡ Some (BenchFault issued confirmed)
IsEnd end ReplyBad = end ≡ Some ReplyBad
IsEnd end OutOfMemory = ⊤

-- memory was not refused
abbrev pub NoMemory : Stop → Type 0
NoMemory OutOfMemory = ⊥
NoMemory other = ⊤

-- where memory was refused nothing changed
abbrev pub UnchangedByMemory : AccessView → AccessView → Stop → Type 0
UnchangedByMemory old new OutOfMemory = new ≡ old
UnchangedByMemory old new other = ⊤
