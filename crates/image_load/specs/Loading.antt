-- What a load over an access asks, and how it ends.
use Rattle.std.specs.Prelude.{◌≡◌, ◌⊎◌, ⊤, ℕ, ◌+◌, List, ◌++◌, length, slice_index, Option, Some, None, Result, Ok, Err}
use Rattle.target_calls.specs.Asks.{settled_last}
use Rattle.target_calls.specs.World.{World, results, stop, world_after}
use Rattle.target_calls.specs.declared.calls.Ask.{Ask}
use Rattle.access_calls.specs.Answers.{AtCut}
use Rattle.access_calls.specs.Asking.{EndsByStop}
use Rattle.access_calls.specs.declared.stop.Stop.{Stop}
use Rattle.access_calls.specs.declared.stop.StopCause.{StopCause}
use Rattle.access_calls.specs.declared.stop.StopCause.TheVariants.{Faulted, NoAnswer}
use Rattle.image_load.specs.Pieces.{first_difference, load_calls}
use Rattle.image_load.specs.declared.ends.LoadEnd.{LoadEnd}
use Rattle.image_load.specs.declared.ends.LoadEnd.TheVariants as e
use Rattle.image_load.specs.declared.piece.Difference.{Difference}
use Rattle.image_load.specs.declared.piece.WordOrByte.{WordOrByte}

-- ---- what was asked

-- Of these calls the first were asked, after the old ones.
pub record AskedPart (calls old new : List Ask) : Type 0 where
  pub part : List Ask
  pub rest : List Ask
  pub whole : calls ≡ part ++ rest
  pub asked : new ≡ old ++ part

-- All calls of a load were asked, and the last one is marked. Where the access stopped, these, or the first of the calls and no mark.
abbrev pub AsksLoad : {A : Type 0} → Result A LoadEnd → List Ask → List Ask → List Ask → Type 0
AsksLoad (Ok x) calls old new = new ≡ settled_last (old ++ calls)
AsksLoad (Err (e.Differs address wanted found)) calls old new = new ≡ settled_last (old ++ calls)
AsksLoad (Err (e.Stop s)) calls old new = AskedPart calls old new ⊎ (new ≡ settled_last (old ++ calls))

-- ---- what was read back

-- The result of a call, after so many calls for writes.
abbrev pub read_back : World → List Ask → List Ask → ℕ → ℕ → ℕ
read_back w old calls writes i = slice_index (results (world_after w old) calls) (writes + i)

-- What was read back is what was written, or this is the first byte that differs.
abbrev pub LoadedAs : {A : Type 0} → Result A LoadEnd → Option Difference → Type 0
LoadedAs (Ok x) first = first ≡ None
LoadedAs (Err (e.Differs address wanted found)) first = first ≡ Some (record { address = address; wanted = wanted; found = found })
LoadedAs (Err (e.Stop s)) first = ⊤

-- The same by the results of the calls of a load, which follow the old ones.
abbrev pub ReadsBack : {A : Type 0} → World → List Ask → ℕ → List WordOrByte → Result A LoadEnd → Type 0
ReadsBack w old ap ps result = LoadedAs result (first_difference ps (read_back w old (load_calls ap ps) (length ps)))

-- ---- where it stopped

-- All calls of a load were made, and a retry ended in the settling after them.
pub record EndsSettling (w : World) (calls old new : List Ask) (lines : ℕ) : Type 0 where
  pub asked : new ≡ settled_last (old ++ calls)
  pub goes : stop w new ≡ None
  pub count : lines ≡ length new

-- At a cut the calls stop right after those whose lines come before it. Only a retry can end in the settling after all of them.
abbrev pub StopsAtCut : StopCause → World → List Ask → List Ask → List Ask → ℕ → Type 0
StopsAtCut Faulted w calls old new lines = stop w new ≡ Some (lines + 1)
StopsAtCut NoAnswer w calls old new lines = (stop w new ≡ Some (lines + 1)) ⊎ EndsSettling w calls old new lines

-- No call stops, except where the access was cut.
abbrev pub StopsLoad : {A : Type 0} → World → Result A LoadEnd → List Ask → List Ask → List Ask → ℕ → Type 0
StopsLoad w (Ok x) calls old new lines = stop w new ≡ None
StopsLoad w (Err (e.Differs address wanted found)) calls old new lines = stop w new ≡ None
StopsLoad w (Err (e.Stop s)) calls old new lines = AtCut s (λ r. StopsAtCut r.cause w calls old new lines)

-- ---- the access after it

-- A load leaves the access without an end, except where it stopped.
abbrev pub LoadEndIs : {A : Type 0} → Result A LoadEnd → Option Stop → Type 0
LoadEndIs (Ok x) end = end ≡ None
LoadEndIs (Err (e.Differs address wanted found)) end = end ≡ None
LoadEndIs (Err (e.Stop s)) end = EndsByStop s end
