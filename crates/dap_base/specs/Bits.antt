-- Bits of a number.
use Rattle.std.specs.Prelude.{ℕ, Bool, not, ◌==◌, bit_and}

-- some bit of the mask is set in the number
abbrev pub has_bit : ℕ → ℕ → Bool
has_bit n mask = not (bit_and n mask == 0)
