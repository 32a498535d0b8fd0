-- The image of a text of Intel HEX records: a byte for each of its addresses, or the first fault of the text.
use Rattle.std.specs.Prelude.{ℕ, ◌+◌, ◌*◌, ◌%◌, ◌==◌, nat_le, Bool, true, false, if◌then◌else◌, List, [], ◌∷◌, length, sum, Option, Some, None, Result, Ok, Err}
use Rattle.std.specs.BTreeMap.{insert_entry}
use Rattle.std.specs.Ordering.{nat_cmp}
use Rattle.hex_image.specs.Records.{Line, address_of, count_of, data_of, content_of, lines_of, record_of, type_of, front_word}
use Rattle.hex_image.specs.declared.fault.ImageKind.{ImageKind}
use Rattle.hex_image.specs.declared.fault.ImageKind.TheVariants as kind

-- Addresses, each with its byte, in rising order.
abbrev pub Bytes : Type 0
Bytes = List (ℕ × ℕ)

-- An image with bytes from an address on, each of which replaces the one that was there.
abbrev pub image_with_bytes : ℕ → List ℕ → Bytes → Bytes
image_with_bytes address [] image = image
image_with_bytes address (b ∷ bytes) image = image_with_bytes (address + 1) bytes (insert_entry nat_cmp image address b)

-- What was read so far: the image, the base of addresses, and whether an end-of-file record was read.
pub record Reading : Type 0 where
  pub image : Bytes
  pub base : ℕ
  pub is_ended : Bool

-- Nothing was read.
abbrev pub at_start : Reading
at_start = record { image = []; base = 0; is_ended = false }

-- Another image, which has at most 262,144 bytes.
abbrev pub with_image : Reading → Bytes → Result Reading ImageKind
with_image r image = if nat_le (length image) 262144 then Ok (record { image = image; base = r.base; is_ended = r.is_ended }) else Err kind.TooMany

-- Another base.
abbrev pub with_base : Reading → ℕ → Result Reading ImageKind
with_base r base = Ok (record { image = r.image; base = base; is_ended = r.is_ended })

-- The end of the file.
abbrev pub with_end : Reading → Result Reading ImageKind
with_end r = Ok (record { image = r.image; base = r.base; is_ended = true })

-- A record whose type has n bytes of data.
abbrev pub where_length : ℕ → List ℕ → Result Reading ImageKind → Result Reading ImageKind
where_length n bytes result = if count_of bytes == n then result else Err kind.BadLength

-- Data at the base and the record's address, of which none is after address 0xFFFF of the base.
abbrev pub with_data : Reading → List ℕ → Result Reading ImageKind
with_data r bytes =
    if nat_le (address_of bytes + count_of bytes) 65536 then with_image r (image_with_bytes (r.base + address_of bytes) (data_of bytes) r.image)
    else Err kind.BadLength

-- A record by its type: 0 data, 1 end of file, 2 extended segment address, 3 start segment address, 4 extended linear address,
-- 5 start linear address. Start addresses change nothing.
abbrev pub by_type : Reading → List ℕ → ℕ → Result Reading ImageKind
by_type r bytes t =
    if t == 0 then with_data r bytes
    else if t == 1 then where_length 0 bytes (with_end r)
    else if t == 2 then where_length 2 bytes (with_base r (front_word bytes * 16))
    else if t == 3 then where_length 4 bytes (Ok r)
    else if t == 4 then where_length 2 bytes (with_base r (front_word bytes * 65536))
    else if t == 5 then where_length 4 bytes (Ok r)
    else Err kind.BadKind

-- A line that is a record whose sum is 0 modulo 256, or none.
abbrev pub with_record : Reading → Option (List ℕ) → Result Reading ImageKind
with_record r None = Err kind.BadRecord
with_record r (Some bytes) = if sum bytes % 256 == 0 then by_type r bytes (type_of bytes) else Err kind.BadSum

-- The content of a line, which is not empty.
abbrev pub with_content : Reading → List ℕ → Result Reading ImageKind
with_content r line = if r.is_ended then Err kind.AfterEnd else with_record r (record_of line)

-- The content of a line. An empty line changes nothing.
abbrev pub with_line : Reading → List ℕ → Result Reading ImageKind
with_line r [] = Ok r
with_line r (c ∷ rest) = with_content r (c ∷ rest)

-- What is wrong with a text, and at which line, from 1.
pub record FaultAt : Type 0 where
  pub kind : ImageKind
  pub line : ℕ

-- The image after the last line, which is that of the text where an end-of-file record was read.
abbrev pub at_end : Reading → ℕ → Result Bytes FaultAt
at_end r lines = if r.is_ended then Ok r.image else Err (record { kind = kind.NoEnd; line = lines })

-- The lines after one that was read; or the fault of that line.
abbrev pub line_then : Result Reading ImageKind → (Reading → Result Bytes FaultAt) → ℕ → Result Bytes FaultAt
line_then (Ok r) on line = on r
line_then (Err k) on line = Err (record { kind = k; line = line })

-- The lines that follow the first so many.
abbrev pub read_on : Reading → ℕ → List Line → Result Bytes FaultAt
read_on r lines [] = at_end r lines
read_on r lines (p ∷ more) = line_then (with_line r (content_of p)) (λ next. read_on next (lines + 1) more) (lines + 1)

-- The image of a text, or its first fault.
abbrev pub image : List ℕ → Result Bytes FaultAt
image text = read_on at_start 0 (lines_of text)
