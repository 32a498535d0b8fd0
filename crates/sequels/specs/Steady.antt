-- Sequels each of whose calls has a known result.
use Rattle.std.specs.Prelude.{◌≡◌, ℕ, false, ⊤}
use Rattle.target_calls.specs.World.{World, done_now, end_result, next_world, stops_here}
use Rattle.target_calls.specs.declared.calls.Ask.{Ask}
use Rattle.sequels.specs.Sequel.{Sequel, Ends, Asks, Writes}

-- In each world of this kind, each call of this kind does not stop, gives what the function says, and leaves a world of this kind.
pub record Steady (P : World → Type 0) (Q : Ask → Type 0) (f : Ask → ℕ) : Type 0 where
  pub goes : (w : World) (ask : Ask) → P w → Q ask → stops_here w ask ≡ false
  pub result : (w : World) (ask : Ask) → P w → Q ask → end_result (done_now w ask).end ≡ f ask
  pub next : (w : World) (ask : Ask) → P w → Q ask → P (next_world w ask)

-- Each call that a sequel may ask is of this kind.
abbrev pub OnlyAsks : {X : Type 0} → (Ask → Type 0) → Sequel X → Type 0
OnlyAsks Q (Ends x) = ⊤
OnlyAsks Q (Asks ask on) = Q ask × ((n : ℕ) → OnlyAsks Q (on n))
OnlyAsks Q (Writes line on) = OnlyAsks Q on
