-- The line in which a fault is, as it is shown, the caret below it, and the name that begins at its place.
use Rattle.std.specs.Prelude.{ℕ, ◌-◌, ◌==◌, nat_lt, nat_le, Bool, true, false, not, ◌&&◌, ◌||◌, List, [], ◌∷◌}
use Rattle.std.specs.Prelude.{◌++◌, take, drop, map, codes, Option, Some, None, option_map, if◌then◌else◌}
use Rattle.std.specs.Char.{is_ascii_alphanumeric}
use Rattle.std.specs.List.{flat_map}
use Rattle.std.specs.Option.{option_and_then}
use Rattle.std.specs.Str.Lines.{strip_carriage_return}

-- ---- names

-- what follows in the line from this column on; columns count bytes from 1
abbrev pub from_column : List ℕ → ℕ → List ℕ
from_column line column = drop (column - 1) line

-- an ASCII letter, a digit or `_`
abbrev pub is_name_byte : ℕ → Bool
is_name_byte b = is_ascii_alphanumeric b || b == 95

-- the letters, digits and `_` at the front
abbrev pub word_front : List ℕ → List ℕ
word_front [] = []
word_front (b ∷ bs) = if is_name_byte b then b ∷ word_front bs else []

-- what stands before the quote (0x22) that ends it; the byte after a backslash (0x5C) ends nothing
abbrev pub text_before_quote : Bool → List ℕ → List ℕ
text_before_quote escaped [] = []
text_before_quote escaped (b ∷ bs) = if b == 34 && not escaped then [] else b ∷ text_before_quote (b == 92 && not escaped) bs

-- the name that begins at this column
abbrev pub name_at_column : List ℕ → ℕ → List ℕ
name_at_column line column = word_front (from_column line column)

-- what stands between the quotes of the text that begins at this column
abbrev pub quoted_at : List ℕ → ℕ → List ℕ
quoted_at line column = text_before_quote false (drop 1 (from_column line column))

-- a blank or a tab (0x20, 0x09)
abbrev pub is_blank_or_tab : ℕ → Bool
is_blank_or_tab b = b == 32 || b == 9

-- without the blanks at the front
abbrev pub after_blanks : List ℕ → List ℕ
after_blanks [] = []
after_blanks (b ∷ bs) = if is_blank_or_tab b then after_blanks bs else b ∷ bs

-- without the letters, digits and `_` at the front
abbrev pub after_word : List ℕ → List ℕ
after_word [] = []
after_word (b ∷ bs) = if is_name_byte b then after_word bs else b ∷ bs

-- what follows this byte at the front
abbrev pub after_first : ℕ → List ℕ → Option (List ℕ)
after_first byte [] = None
after_first byte (b ∷ bs) = if b == byte then Some bs else None

-- what follows this byte, where it comes next after blanks
abbrev pub after_byte : ℕ → List ℕ → Option (List ℕ)
after_byte byte bs = after_first byte (after_blanks bs)

-- what stands between the quotes (0x22) of the text that comes first between the parentheses (0x28) of the call at this column; none where
-- that is not in this line
abbrev pub called_at : List ℕ → ℕ → Option (List ℕ)
called_at line column = option_map (text_before_quote false) (option_and_then (after_byte 34) (after_byte 40 (after_word (from_column line column))))

-- ---- lines

-- below a space, but no tab (0x09), or 0x7F
abbrev pub is_control : ℕ → Bool
is_control b = nat_lt b 32 && not (b == 9) || b == 127

-- a byte of the line: a question mark for a control character other than a tab
abbrev pub line_byte : ℕ → ℕ
line_byte b = if is_control b then 63 else b

-- four blanks and the line, without a carriage return at its end
abbrev pub source_line : List ℕ → List ℕ
source_line line = codes "    " ++ map line_byte (strip_carriage_return line) ++ codes "\n"

-- 0x80 to 0xBF, which go on with a character of UTF-8
abbrev pub is_continuation : ℕ → Bool
is_continuation b = nat_le 128 b && nat_lt b 192

-- what stands below a byte before the place: a tab below a tab, and one blank below any other character
abbrev pub below : ℕ → List ℕ
below b = if b == 9 then 9 ∷ [] else (if is_continuation b then [] else 32 ∷ [])

-- four blanks, and a caret below the byte at this column
abbrev pub caret_line : List ℕ → ℕ → List ℕ
caret_line line column = codes "    " ++ flat_map below (take (column - 1) line) ++ codes "^\n"

-- the line, and the caret below its place
abbrev pub place_lines : List ℕ → ℕ → List ℕ
place_lines line column = source_line line ++ caret_line line column
