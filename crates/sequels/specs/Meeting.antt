-- How far what was asked and written has come with a sequel. It goes from these calls, all answered, to those, and from what was written before
-- to what is written now, each where that is known.
use Rattle.std.specs.Prelude.{◌≡◌, ℕ, List, ◌++◌, Option, None}
use Rattle.std.specs.Io.KnownBytes.{Appends}
use Rattle.target_calls.specs.World.{World, world_after}
use Rattle.target_calls.specs.declared.calls.Ask.{Ask}
use Rattle.sequels.specs.Going.{EndsWith, GoesOn}
use Rattle.sequels.specs.Sequel.{Sequel, comes}

-- The rest of the sequel goes on from here.
pub record Reaches {X : Type 0} (w : World) (s : Sequel X) (old new : List Ask) (before now : Option (List ℕ)) (rest : Sequel X) : Type 0 where
  pub more : List Ask
  pub lines : List ℕ
  pub calls : new ≡ old ++ more
  pub written : Appends before now lines
  pub goes : GoesOn (world_after w old) s more lines rest

-- A sequel came to its end: it asked these calls, wrote these lines, and gave this.
pub record Gave {X : Type 0} (w : World) (s : Sequel X) (old new : List Ask) (before now : Option (List ℕ)) (x : X) : Type 0 where
  pub more : List Ask
  pub lines : List ℕ
  pub calls : new ≡ old ++ more
  pub written : Appends before now lines
  pub ends : EndsWith (world_after w old) s more lines x

-- It was left off: what was asked and written comes first in what it comes to.
pub record LeftOff {X : Type 0} (w : World) (s : Sequel X) (old new : List Ask) (before now : Option (List ℕ)) : Type 0 where
  pub more : List Ask
  pub lines : List ℕ
  pub later : List Ask
  pub further : List ℕ
  pub calls : new ≡ old ++ more
  pub written : Appends before now lines
  pub calls_are : (comes (world_after w old) s).calls ≡ more ++ later
  pub lines_are : (comes (world_after w old) s).written ≡ lines ++ further

-- Its calls stopped: just these were asked, and just this was written.
pub record CutOff {X : Type 0} (w : World) (s : Sequel X) (old new : List Ask) (before now : Option (List ℕ)) : Type 0 where
  pub more : List Ask
  pub lines : List ℕ
  pub calls : new ≡ old ++ more
  pub written : Appends before now lines
  pub is : comes (world_after w old) s ≡ record { calls = more; written = lines; end = None }
