-- The words and bytes in which an image is written and read back.
use Rattle.std.specs.Prelude.{◌≡◌, ◌⊎◌, ℕ, zero, suc, ◌+◌, ◌*◌, ◌/◌, ◌%◌, ◌^◌, ◌<◌, ◌≤◌, ◌==◌, ◌&&◌, Bool, true, false, if◌then◌else◌}
use Rattle.std.specs.Prelude.{List, [], ◌∷◌, ◌++◌, map, Option, Some, None}
use Rattle.hex_image.specs.Image.{Bytes}
use Rattle.target_calls.specs.Asks.{unit_ask}
use Rattle.target_calls.specs.declared.calls.Ask.{Ask}
use Rattle.target_machine.specs.declared.unit.Unit.TheVariants as unit
use Rattle.image_load.specs.declared.piece.Difference.{Difference}
use Rattle.image_load.specs.declared.piece.WordOrByte.{WordOrByte}

-- ---- pieces

-- One byte of an image, with its address.
abbrev pub byte_piece : ℕ × ℕ → WordOrByte
byte_piece b = record { size = 1; address = b.0; value = b.1 }

-- A word of four bytes, the first in its low byte.
abbrev pub word_piece : ℕ → ℕ → ℕ → ℕ → ℕ → WordOrByte
word_piece address a b c d = record { size = 4; address = address; value = a + b * 2 ^ 8 + c * 2 ^ 16 + d * 2 ^ 24 }

-- Four addresses are those of a word: the first is a multiple of 4, and the others follow it.
abbrev pub are_word_addresses : ℕ → ℕ → ℕ → ℕ → Bool
are_word_addresses a b c d = (a % 4 == 0) && ((b == a + 1) && ((c == a + 2) && (d == a + 3)))

-- An image in rising order: a word for each word whose four bytes are in it, and a byte for each other byte.
abbrev pub pieces : Bytes → List WordOrByte
pieces [] = []
pieces (a ∷ []) = byte_piece a ∷ []
pieces (a ∷ b ∷ []) = byte_piece a ∷ byte_piece b ∷ []
pieces (a ∷ b ∷ c ∷ []) = byte_piece a ∷ byte_piece b ∷ byte_piece c ∷ []
pieces (a ∷ b ∷ c ∷ d ∷ rest) =
    if are_word_addresses a.0 b.0 c.0 d.0 then word_piece a.0 a.1 b.1 c.1 d.1 ∷ pieces rest else byte_piece a ∷ pieces (b ∷ c ∷ d ∷ rest)

-- The word with which bytes begin, where their first four are those of a word.
abbrev pub leading_word : Bytes → Option WordOrByte
leading_word (a ∷ b ∷ c ∷ d ∷ rest) = if are_word_addresses a.0 b.0 c.0 d.0 then Some (word_piece a.0 a.1 b.1 c.1 d.1) else None
leading_word other = None

-- A piece may be written: it is a word or a byte at a multiple of its size, below 2^32, and its value fits.
pub record IsPiece (p : WordOrByte) : Type 0 where
  pub sized : (p.size ≡ 1) ⊎ (p.size ≡ 4)
  pub aligned : p.address % p.size ≡ 0
  pub fits : p.value < 2 ^ (8 * p.size)
  pub low : p.address + p.size ≤ 2 ^ 32

-- ---- calls

-- A piece is written by a memory access, whose fault is not forgiven.
abbrev pub write_ask : ℕ → WordOrByte → Ask
write_ask ap p = unit_ask (unit.Memory p.size false ap p.address p.value) false

-- A piece is read by a memory access, whose fault is not forgiven.
abbrev pub read_ask : ℕ → WordOrByte → Ask
read_ask ap p = unit_ask (unit.Memory p.size true ap p.address 0) false

-- A piece is read, or written.
abbrev pub piece_ask : Bool → ℕ → WordOrByte → Ask
piece_ask read ap p = if read then read_ask ap p else write_ask ap p

-- All pieces are read, or written, in order.
abbrev pub asked_all : Bool → ℕ → List WordOrByte → List Ask
asked_all read ap ps = map (piece_ask read ap) ps

-- All pieces are written, and then read in the same order.
abbrev pub load_calls : ℕ → List WordOrByte → List Ask
load_calls ap ps = asked_all false ap ps ++ asked_all true ap ps

-- ---- differences

-- The byte of a number that begins at a bit.
abbrev pub byte_from_bit : ℕ → ℕ → ℕ
byte_from_bit n bit = n / 2 ^ bit % 2 ^ 8

-- The first byte in which two numbers of so many bytes differ. The first byte begins at this bit and stands at this address.
abbrev pub difference : ℕ → ℕ → ℕ → ℕ → ℕ → Option Difference
difference zero bit address wanted found = None
difference (suc n) bit address wanted found =
    if byte_from_bit wanted bit == byte_from_bit found bit then difference n (bit + 8) (address + 1) wanted found
    else Some (record { address = address; wanted = byte_from_bit wanted bit; found = byte_from_bit found bit })

-- The first of two differences, where there is one.
abbrev pub first_of : Option Difference → Option Difference → Option Difference
first_of None more = more
first_of (Some d) more = Some d

-- The first byte of pieces that was read as another one, by the results of their reads.
abbrev pub first_difference : List WordOrByte → (ℕ → ℕ) → Option Difference
first_difference [] found = None
first_difference (p ∷ ps) found = first_of (difference p.size 0 p.address p.value (found 0)) (first_difference ps (λ i. found (i + 1)))
