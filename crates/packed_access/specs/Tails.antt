-- Lists that keep their last elements alone.
use Rattle.std.specs.Prelude.{◌≡◌, ◌≤◌, ℕ, zero, suc, List, [], ◌∷◌, ◌++◌}
use Rattle.packed_access.specs.declared.tails.Gone.{Gone, out-Gone}
use Rattle.packed_access.specs.declared.tails.Gone.TheOpen.{Gone-F}
use Rattle.packed_access.specs.declared.tails.Gone.TheOpen as shape

-- All elements, how many of the first were let go, and how many there may be before memory is taken.
pub record TailState (T : Type 0) : Type 0 where
  pub all : List T
  pub gone : ℕ
  pub room : ℕ

-- the elements up to the one that was let go last, by those before it
abbrev gone_in : {T : Type 0} → (Gone T → List T) → Gone-F T (Gone T) → List T
gone_in before shape.Nothing = []
gone_in before (shape.After s item) = before s.value ++ item ∷ []

-- so many elements that were let go
abbrev pub gone_of : {T : Type 0} → ℕ → Gone T → List T
gone_of zero g = []
gone_of {T = T} (suc n) g = gone_in (gone_of n) (out-Gone T g)

-- there is more room, and nothing else changed
pub record IsRoomier {T : Type 0} (old new : TailState T) : Type 0 where
  pub all : new.all ≡ old.all
  pub gone : new.gone ≡ old.gone
  pub room : old.room ≤ new.room
