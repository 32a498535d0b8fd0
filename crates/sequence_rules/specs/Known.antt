-- What contracts know of what was written.
use Rattle.std.specs.Prelude.{ℕ, Bool, true, false, List, Option, None, IsSome, if◌then◌else◌, ⊤}

-- what was written, where it is asked for
abbrev pub known_part : Bool → Option (List ℕ) → Option (List ℕ)
known_part known written = if known then written else None

-- where it is asked for, contracts know what was written
abbrev pub Knows : Bool → Option (List ℕ) → Type 0
Knows true written = IsSome written
Knows false written = ⊤
