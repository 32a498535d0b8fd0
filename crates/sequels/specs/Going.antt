-- How far a sequel has come.
use Rattle.std.specs.Prelude.{◌≡◌, ℕ, List, ◌++◌, Some, None}
use Rattle.target_calls.specs.World.{World, stop, world_after}
use Rattle.target_calls.specs.declared.calls.Ask.{Ask}
use Rattle.sequels.specs.Sequel.{Sequel, Comes, comes}

-- these calls and lines before all else
abbrev pub joined_sequel : {X : Type 0} → List Ask → List ℕ → Comes X → Comes X
joined_sequel calls lines c = record { calls = calls ++ c.calls; written = lines ++ c.written; end = c.end }

-- From a world these calls were made, at none of which they stop, and these lines were written; the rest of the sequel goes on from there.
pub record GoesOn {X : Type 0} (w : World) (whole : Sequel X) (calls : List Ask) (lines : List ℕ) (rest : Sequel X) : Type 0 where
  pub whole_is : comes w whole ≡ joined_sequel calls lines (comes (world_after w calls) rest)
  pub goes : stop w calls ≡ None

-- It came to its end, with these calls and lines.
pub record EndsWith {X : Type 0} (w : World) (whole : Sequel X) (calls : List Ask) (lines : List ℕ) (x : X) : Type 0 where
  pub is : comes w whole ≡ record { calls = calls; written = lines; end = Some x }
  pub goes : stop w calls ≡ None
