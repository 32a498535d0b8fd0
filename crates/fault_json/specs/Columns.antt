-- Columns that count characters, where those of a fault count bytes.
use Rattle.std.specs.Prelude.{ℕ, ◌+◌, ◌-◌, Bool, not, List, take, count_by}
use Rattle.fault_lines.specs.Source.{is_continuation}

-- a byte that begins a character of UTF-8
abbrev pub begins : ℕ → Bool
begins b = not (is_continuation b)

-- the column of the byte at this one: one more than the characters that begin before it in the line
abbrev pub character_column : List ℕ → ℕ → ℕ
character_column line column = count_by begins (take (column - 1) line) + 1
