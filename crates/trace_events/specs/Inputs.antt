-- The bytes of a source, which are taken in pieces.
use Rattle.std.specs.Prelude.{◌≡◌, ℕ, Bool, false, List, [], ◌∷◌, ◌++◌, Option, Some, None, if◌then◌else◌}

-- the bytes that were taken and not given yet, and whether the source had no more
pub record Input : Type 0 where
  pub ready : List ℕ
  pub over : Bool

-- nothing was taken
abbrev pub untaken_input : Input
untaken_input = record { ready = []; over = false }

-- the bytes that come, where these are left of the source
abbrev pub coming : Input → List ℕ → List ℕ
coming input left = input.ready ++ (if input.over then [] else left)

-- the first of the bytes that were taken is given, where there is one
abbrev pub GivesFirstByte : Input → Option ℕ → Input → Type 0
GivesFirstByte before None after = (before.ready ≡ []) × (after ≡ before)
GivesFirstByte before (Some byte) after = (before.ready ≡ byte ∷ after.ready) × (after.over ≡ before.over)

-- More bytes were taken of a source, where none was left of the last ones: the same bytes come, and none comes where none was taken.
pub record IsFilled (before after : Input) (old new : Option (List ℕ)) : Type 0 where
  pub filled : (bytes : List ℕ) → old ≡ Some bytes
      → (rest : List ℕ) × (new ≡ Some rest) × (coming after rest ≡ coming before bytes) × (after.ready ≡ [] → coming after rest ≡ [])

-- the first of these items was given, where there is one
abbrev pub GivesFirstItem : {A : Type 0} → List A → Option A → List A → Type 0
GivesFirstItem before None after = (before ≡ []) × (after ≡ [])
GivesFirstItem before (Some first) after = before ≡ first ∷ after

-- the next byte that comes was given, where the bytes of the source are known
pub record GivesByte (before after : Input) (old new : Option (List ℕ)) (byte : Option ℕ) : Type 0 where
  pub given : (bytes : List ℕ) → old ≡ Some bytes → (rest : List ℕ) × (new ≡ Some rest) × GivesFirstItem (coming before bytes) byte (coming after rest)
