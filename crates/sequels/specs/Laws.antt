-- Laws of sequels.
use Rattle.std.specs.Prelude.{◌≡◌, ℕ, List, length, Option, Some, None, MatchOption}
use Rattle.target_calls.specs.World.{World, stop, world_after}
use Rattle.target_calls.specs.declared.calls.Ask.{Ask}
use Rattle.sequels.specs.Going.{joined_sequel}
use Rattle.sequels.specs.Sequel.{Sequel, Comes, followed_by, written_and_end, comes}

-- The calls that are made do not stop where the sequel comes to its end, and else stop at the last.
pub record StopsByEnd {X : Type 0} (w : World) (s : Sequel X) : Type 0 where
  pub so : MatchOption (comes w s).end (stop w (comes w s).calls ≡ Some (length (comes w s).calls)) (λ x. stop w (comes w s).calls ≡ None)

-- What one sequel and then another comes to, by the calls, the lines and the end of the first.
abbrev pub rest_by : {X Y : Type 0} → World → List Ask → List ℕ → Option X → (X → Sequel Y) → Comes Y
rest_by w calls lines None next = record { calls = calls; written = lines; end = None }
rest_by w calls lines (Some x) next = joined_sequel calls lines (comes (world_after w calls) (next x))

-- One sequel and then another comes to that.
abbrev pub ComesAfter : {X Y : Type 0} → World → Sequel X → (X → Sequel Y) → Type 0
ComesAfter w s next = comes w (followed_by s next) ≡ rest_by w (comes w s).calls (comes w s).written (comes w s).end next

-- What is written, and the end, are those of the results that a function gives.
pub record AsAnswered {X : Type 0} (f : Ask → ℕ) (w : World) (s : Sequel X) : Type 0 where
  pub written : (comes w s).written ≡ (written_and_end f s).0
  pub end : (comes w s).end ≡ Some (written_and_end f s).1
