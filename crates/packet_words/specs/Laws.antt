-- Laws of words.
use Rattle.std.specs.Prelude.{ℕ, List, Option, Some, None, ⊤}
use Rattle.hex.specs.Hex.{IsBytes}

-- the bytes of a reply, where there is one
abbrev pub AreBytes : Option (List ℕ) → Type 0
AreBytes None = ⊤
AreBytes (Some bytes) = IsBytes bytes
