-- The lines of a text, and the Intel HEX record that a line is.
use Rattle.std.specs.Prelude.{ℕ, ◌+◌, ◌*◌, ◌==◌, Bool, true, false, if◌then◌else◌, List, [], ◌∷◌, length, drop, take, slice_index, Option, Some, None, Result, Ok, Err}
use Rattle.hex.specs.Hex.{decode_of}
use Rattle.hex.specs.declared.error.FromHexError.{FromHexError}

-- ---- lines

-- The bytes of a text up to a line feed, or up to the end; and whether a line feed ends them.
pub record Line : Type 0 where
  pub bytes : List ℕ
  pub is_closed : Bool

-- One byte before the first line.
abbrev pub in_front : ℕ → List Line → List Line
in_front c [] = record { bytes = c ∷ []; is_closed = false } ∷ []
in_front c (p ∷ more) = record { bytes = c ∷ p.bytes; is_closed = p.is_closed } ∷ more

-- The lines of a text. After the last line feed there is a line only where there are bytes.
abbrev pub lines_of : List ℕ → List Line
lines_of [] = []
lines_of (c ∷ rest) = if c == 10 then record { bytes = []; is_closed = true } ∷ lines_of rest else in_front c (lines_of rest)

-- Bytes without a carriage return at their end.
abbrev pub without_return : List ℕ → List ℕ
without_return [] = []
without_return (c ∷ []) = if c == 13 then [] else c ∷ []
without_return (c ∷ d ∷ rest) = c ∷ without_return (d ∷ rest)

-- The content of a line: a carriage return before a line feed is no part of it.
abbrev pub content_of : Line → List ℕ
content_of p = if p.is_closed then without_return p.bytes else p.bytes

-- ---- records

-- Bytes are a record where there are five more of them than the first says.
abbrev pub of_its_length : List ℕ → Option (List ℕ)
of_its_length bytes = if length bytes == slice_index bytes 0 + 5 then Some bytes else None

-- The record that decoded digits are.
abbrev pub decoded_record : Result (List ℕ) FromHexError → Option (List ℕ)
decoded_record (Ok bytes) = of_its_length bytes
decoded_record (Err e) = None

-- The record that a line's content is: a colon, and two hexadecimal digits for each byte.
abbrev pub record_of : List ℕ → Option (List ℕ)
record_of [] = None
record_of (c ∷ digits) = if c == 58 then decoded_record (decode_of digits) else None

-- The number of bytes of data.
abbrev pub count_of : List ℕ → ℕ
count_of r = slice_index r 0

-- The address, with its high byte first.
abbrev pub address_of : List ℕ → ℕ
address_of r = slice_index r 1 * 256 + slice_index r 2

-- The type of the record.
abbrev pub type_of : List ℕ → ℕ
type_of r = slice_index r 3

-- The data, without the checksum after it.
abbrev pub data_of : List ℕ → List ℕ
data_of r = take (count_of r) (drop 4 r)

-- The number that the first two bytes of data are, with the high byte first.
abbrev pub front_word : List ℕ → ℕ
front_word r = slice_index r 4 * 256 + slice_index r 5
