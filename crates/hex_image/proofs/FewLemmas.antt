-- The image of a text has at most 262,144 bytes.
use Rattle.std.proofs.Common.{◌≡◌, ℕ, ◌+◌, ◌*◌, ◌%◌, ◌≤◌, ◌==◌, nat_le, Bool, true, false, cond, List, [], ◌∷◌, length, sum, Option, None, Some, Result, Ok, Err, refl, subst, arith, IfOk}
use Rattle.std.proofs.lemmas.Bool.{leb-true}
use Rattle.hex_image.specs.Image.{Bytes, FaultAt, Reading, at_start, by_type, image, line_then, image_with_bytes, read_on, where_length, with_base, with_data, with_end, with_image, with_line, with_record}
use Rattle.hex_image.specs.Records.{Line, address_of, content_of, count_of, data_of, lines_of, record_of, type_of, front_word}
use Rattle.hex_image.specs.declared.fault.ImageKind.{ImageKind}
use Rattle.hex_image.specs.declared.fault.ImageKind.TheVariants as kind

abbrev HasFew : Reading → Type 0
HasFew r = length r.image ≤ 262144

by_either : (b : Bool) (x y : Result Reading ImageKind) → IfOk x HasFew → IfOk y HasFew → IfOk (cond b x y) HasFew
by_either true x y h k = h
by_either false x y h k = k

image_few_of : (r : Reading) (new : Bytes) → IfOk (with_image r new) HasFew
image_few_of r new = by_length (nat_le (length new) 262144) refl
  where
    by_length : (b : Bool) → nat_le (length new) 262144 ≡ b → IfOk (cond b (Ok (record { image = new; base = r.base; is_ended = r.is_ended })) (Err kind.TooMany)) HasFew
    by_length true few = leb-true (length new) 262144 few
    by_length false many = tt

type_few : (r : Reading) (bytes : List ℕ) (t : ℕ) → HasFew r → IfOk (by_type r bytes t) HasFew
type_few r bytes t h =
    by_either (t == 0) _ _ (by_either (nat_le (address_of bytes + count_of bytes) 65536) _ (Err kind.BadLength) (image_few_of r (image_with_bytes (r.base + address_of bytes) (data_of bytes) r.image)) tt)
    (by_either (t == 1) _ _ (by_either (count_of bytes == 0) (with_end r) (Err kind.BadLength) h tt)
    (by_either (t == 2) _ _ (by_either (count_of bytes == 2) (with_base r (front_word bytes * 16)) (Err kind.BadLength) h tt)
    (by_either (t == 3) _ _ (by_either (count_of bytes == 4) (Ok r) (Err kind.BadLength) h tt)
    (by_either (t == 4) _ _ (by_either (count_of bytes == 2) (with_base r (front_word bytes * 65536)) (Err kind.BadLength) h tt)
    (by_either (t == 5) _ _ (by_either (count_of bytes == 4) (Ok r) (Err kind.BadLength) h tt) tt)))))

record_few : (r : Reading) (o : Option (List ℕ)) → HasFew r → IfOk (with_record r o) HasFew
record_few r None h = tt
record_few r (Some bytes) h = by_either (sum bytes % 256 == 0) _ _ (type_few r bytes (type_of bytes) h) tt

line_few : (r : Reading) (line : List ℕ) → HasFew r → IfOk (with_line r line) HasFew
line_few r [] h = h
line_few r (c ∷ rest) h = by_either r.is_ended (Err kind.AfterEnd) (with_record r (record_of (c ∷ rest))) tt (record_few r (record_of (c ∷ rest)) h)

read_few : (ps : List Line) (r : Reading) (lines : ℕ) (found : Bytes) → HasFew r → read_on r lines ps ≡ Ok found → length found ≤ 262144
read_few [] r lines found h e = by_end r.is_ended e
  where
    none : FaultAt
    none = record { kind = kind.NoEnd; line = lines }

    by_end : (b : Bool) → cond b (Ok r.image) (Err none) ≡ Ok found → length found ≤ 262144
    by_end true e = (let same : r.image ≡ found = cc in subst (λ (x : Bytes). length x ≤ 262144) same h)
    by_end false e = absurd cc
read_few (p ∷ ps) r lines found h e = by_line (with_line r (content_of p)) (line_few r (content_of p) h) (λ next few on. read_few ps next (lines + 1) found few on) e
  where
    by_line : (o : Result Reading ImageKind) → IfOk o HasFew → ((next : Reading) → HasFew next → read_on next (lines + 1) ps ≡ Ok found → length found ≤ 262144)
        → line_then o (λ next. read_on next (lines + 1) ps) (lines + 1) ≡ Ok found → length found ≤ 262144
    by_line (Ok next) few on e = on next few e
    by_line (Err k) few on e = absurd cc

pub image_few : (text : List ℕ) (found : Bytes) → image text ≡ Ok found → length found ≤ 262144
image_few text found e = read_few (lines_of text) at_start 0 found (omega arith) e

-- The image after the last line, of a text that has one.
pub ended_few : (text : List ℕ) (r : Reading) (lines : ℕ) → image text ≡ read_on r lines [] → r.is_ended ≡ true → length r.image ≤ 262144
ended_few text r lines h ended = image_few text r.image (rw h (rw ended refl))
