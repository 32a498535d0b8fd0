-- How what is answered over an access is what a sequel comes to.
use Rattle.std.specs.Prelude.{◌≡◌, ℕ, ◌+◌, List, length, Option, Some, Result, Ok, Err}
use Rattle.target_calls.specs.Asks.{settled_last}
use Rattle.target_calls.specs.World.{World, stop}
use Rattle.target_calls.specs.declared.calls.Ask.{Ask}
use Rattle.access_calls.specs.Answers.{AtCut}
use Rattle.access_calls.specs.declared.stop.Stop.{Stop}
use Rattle.access_calls.specs.declared.stop.StopCause.TheVariants.{NoAnswer}
use Rattle.sequels.specs.Meeting.{CutOff, Gave, LeftOff}
use Rattle.sequels.specs.Sequel.{Sequel}

-- The access stopped, and the sequel was left off. At a cut its calls stop at the last that was asked, right after those whose lines come before
-- it.
pub record StopsIn {X : Type 0} (w : World) (lines : ℕ) (s : Sequel X) (old new : List Ask) (before now : Option (List ℕ)) (e : Stop) : Type 0 where
  pub left : LeftOff w s old new before now
  pub cut : AtCut e (λ r. CutOff w s old new before now × (stop w new ≡ Some (lines + 1)))

-- The sequel came to its end, and then a `finish` was made, which marks the last call.
pub record Finished {X : Type 0} (w : World) (s : Sequel X) (old new : List Ask) (before now : Option (List ℕ)) (x : X) : Type 0 where
  pub asked : List Ask
  pub gave : Gave w s old asked before now x
  pub marked : new ≡ settled_last asked

-- The sequel came to its end, and the access stopped in the `finish` after it: at a cut a retry ended, after all calls.
pub record StopsInFinish {X : Type 0} (w : World) (lines : ℕ) (s : Sequel X) (old new : List Ask) (before now : Option (List ℕ)) (e : Stop) : Type 0 where
  pub x : X
  pub finished : Finished w s old new before now x
  pub cut : AtCut e (λ r. (r.cause ≡ NoAnswer) × (lines ≡ length new))

-- what is answered is the end of the sequel
abbrev pub GivesEnd : {X : Type 0} → World → ℕ → Sequel X → Result X Stop → List Ask → List Ask → Option (List ℕ) → Option (List ℕ) → Type 0
GivesEnd w lines s (Ok x) old new before now = Gave w s old new before now x
GivesEnd w lines s (Err e) old new before now = StopsIn w lines s old new before now e

-- what is answered stands for the end of the sequel
abbrev pub GivesBy : {A X : Type 0} → (A → X) → World → ℕ → Sequel X → Result A Stop → List Ask → List Ask → Option (List ℕ) → Option (List ℕ) → Type 0
GivesBy view w lines s (Ok x) old new before now = Gave w s old new before now (view x)
GivesBy view w lines s (Err e) old new before now = StopsIn w lines s old new before now e
