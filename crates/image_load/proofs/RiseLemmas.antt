-- The image of a text rises, and is in range.
use Rattle.std.proofs.Common.{◌≡◌, ℕ, zero, suc, ◌+◌, ◌*◌, ◌%◌, ◌^◌, ◌<◌, ◌≤◌, ◌==◌, eqb, nat_lt, nat_le, Bool, true, false, cond, List, [], ◌∷◌, length, take, drop, slice_index, sum, Option, None, Some, Result, Ok, Err, refl, subst, arith, IfOk}
use Rattle.std.specs.List.{AllByRecursion}
use Rattle.std.specs.BTreeMap.{insert_entry}
use Rattle.std.specs.Ordering.{match_ordering, nat_cmp}
use Rattle.std.specs.declared.cmp.Ordering.{Ordering}
use Rattle.std.specs.declared.cmp.Ordering.TheVariants.{Less, Equal, Greater}
use Rattle.std.proofs.lemmas.Bool.{eqb-false, leb-true, ltb-false, ltb-true}
use Rattle.hex.specs.Hex.{IsBytes, decode_of}
use Rattle.hex.specs.declared.error.FromHexError.{FromHexError}
use Rattle.hex.proofs.HexLemmas.{decode_of-ok}
use Rattle.hex_image.specs.Image.{Bytes, FaultAt, Reading, at_start, by_type, image, line_then, image_with_bytes, read_on, where_length, with_base, with_data, with_end, with_image, with_line, with_record}
use Rattle.hex_image.specs.Records.{Line, address_of, content_of, count_of, data_of, decoded_record, lines_of, of_its_length, record_of, type_of, front_word}
use Rattle.hex_image.specs.declared.fault.ImageKind.{ImageKind}
use Rattle.hex_image.specs.declared.fault.ImageKind.TheVariants as kind
use Rattle.image_load.specs.Laid.{HasRisingAddresses}
use Rattle.image_load.specs.Rising.{ImageIsInRange}

-- ---- one byte more

above_less : (a b : ℕ) (es : Bytes) → a < b → AllByRecursion (λ d. b < d.0) es → AllByRecursion (λ d. a < d.0) es
above_less a b [] less h = tt
above_less a b (e ∷ es) less h = (let first = h.0 in omega (arith, less, first), above_less a b es less h.1)

insert_above : (a k v : ℕ) (es : Bytes) → a < k → AllByRecursion (λ d. a < d.0) es → AllByRecursion (λ d. a < d.0) (insert_entry nat_cmp es k v)
insert_above a k v [] less h = (less, tt)
insert_above a k v (e ∷ es) less h = by_order (nat_cmp k e.0) (insert_above a k v es less h.1)
  where
    by_order : (o : Ordering) → AllByRecursion (λ d. a < d.0) (insert_entry nat_cmp es k v)
        → AllByRecursion (λ d. a < d.0) (match_ordering o ((k, v) ∷ e ∷ es) ((e.0, v) ∷ es) (e ∷ insert_entry nat_cmp es k v))
    by_order Less on = (less, h)
    by_order Equal on = (h.0, h.1)
    by_order Greater on = (h.0, on)

insert_rising : (k v : ℕ) (es : Bytes) → HasRisingAddresses es → HasRisingAddresses (insert_entry nat_cmp es k v)
insert_rising k v [] h = (tt, tt)
insert_rising k v (e ∷ es) h = by_less (nat_lt k e.0) refl (eqb k e.0) refl (insert_rising k v es h.1)
  where
    by_less : (b : Bool) → nat_lt k e.0 ≡ b → (c : Bool) → eqb k e.0 ≡ c → HasRisingAddresses (insert_entry nat_cmp es k v)
        → HasRisingAddresses (match_ordering (cond b Less (cond c Equal Greater)) ((k, v) ∷ e ∷ es) ((e.0, v) ∷ es) (e ∷ insert_entry nat_cmp es k v))
    by_less true less c same on = (let first = ltb-true k e.0 less in ((first, above_less k e.0 es first h.0), h))
    by_less false less true same on = (h.0, h.1)
    by_less false less false same on =
        let low = ltb-false k e.0 less in
        let other = eqb-false k e.0 same in
        let above : e.0 < k = omega (arith, low, other) in
        (insert_above e.0 k v es above h.0, on)

insert_fits : (k v : ℕ) (es : Bytes) → k < 2 ^ 32 → v < 2 ^ 8 → AllByRecursion (λ b. (b.0 < 2 ^ 32) × (b.1 < 2 ^ 8)) es → AllByRecursion (λ b. (b.0 < 2 ^ 32) × (b.1 < 2 ^ 8)) (insert_entry nat_cmp es k v)
insert_fits k v [] low byte h = ((low, byte), tt)
insert_fits k v (e ∷ es) low byte h = by_order (nat_cmp k e.0) (insert_fits k v es low byte h.1)
  where
    by_order : (o : Ordering) → AllByRecursion (λ b. (b.0 < 2 ^ 32) × (b.1 < 2 ^ 8)) (insert_entry nat_cmp es k v)
        → AllByRecursion (λ b. (b.0 < 2 ^ 32) × (b.1 < 2 ^ 8)) (match_ordering o ((k, v) ∷ e ∷ es) ((e.0, v) ∷ es) (e ∷ insert_entry nat_cmp es k v))
    by_order Less on = ((low, byte), h)
    by_order Equal on = ((h.0.0, byte), h.1)
    by_order Greater on = (h.0, on)

-- ---- data

placed_rising : (address : ℕ) (bytes : List ℕ) (es : Bytes) → HasRisingAddresses es → HasRisingAddresses (image_with_bytes address bytes es)
placed_rising address [] es h = h
placed_rising address (b ∷ bytes) es h = placed_rising (address + 1) bytes (insert_entry nat_cmp es address b) (insert_rising address b es h)

placed_fits : (address : ℕ) (bytes : List ℕ) (es : Bytes) → address + length bytes ≤ 2 ^ 32 → AllByRecursion (λ b. b < 256) bytes
    → AllByRecursion (λ b. (b.0 < 2 ^ 32) × (b.1 < 2 ^ 8)) es → AllByRecursion (λ b. (b.0 < 2 ^ 32) × (b.1 < 2 ^ 8)) (image_with_bytes address bytes es)
placed_fits address [] es low all h = h
placed_fits address (b ∷ bytes) es low all h =
    placed_fits (address + 1) bytes (insert_entry nat_cmp es address b) (omega (arith, low)) all.1 (insert_fits address b es (omega (arith, low)) all.0 h)

all_bytes : (xs : List ℕ) → IsBytes xs → AllByRecursion (λ b. b < 256) xs
all_bytes [] h = tt
all_bytes (x ∷ xs) h = (h 0, all_bytes xs (λ i. h (suc i)))

all_drop : (n : ℕ) (xs : List ℕ) → AllByRecursion (λ b. b < 256) xs → AllByRecursion (λ b. b < 256) (drop n xs)
all_drop zero xs h = h
all_drop (suc n) [] h = h
all_drop (suc n) (x ∷ xs) h = all_drop n xs h.1

all_take : (n : ℕ) (xs : List ℕ) → AllByRecursion (λ b. b < 256) xs → AllByRecursion (λ b. b < 256) (take n xs)
all_take zero xs h = tt
all_take (suc n) [] h = h
all_take (suc n) (x ∷ xs) h = (h.0, all_take n xs h.1)

take_short : (n : ℕ) (xs : List ℕ) → length (take n xs) ≤ n
take_short zero xs = omega arith
take_short (suc n) [] = omega arith
take_short (suc n) (x ∷ xs) = (let rest = take_short n xs in omega (arith, rest))

-- ---- a reading

record IsSound (r : Reading) : Type 0 where
  image : ImageIsInRange r.image
  base : r.base ≤ 0xFFFF_0000

by_test : (b : Bool) (x y : Result Reading ImageKind) → (b ≡ true → IfOk x IsSound) → IfOk y IsSound → IfOk (cond b x y) IsSound
by_test true x y h k = h refl
by_test false x y h k = k

by_either : (b : Bool) (x y : Result Reading ImageKind) → IfOk x IsSound → IfOk y IsSound → IfOk (cond b x y) IsSound
by_either true x y h k = h
by_either false x y h k = k

data_sound : (r : Reading) (bytes : List ℕ) → IsSound r → IsBytes bytes → IfOk (with_data r bytes) IsSound
data_sound r bytes h all =
    by_test (nat_le (address_of bytes + count_of bytes) 65536) (with_image r new) (Err kind.BadLength)
    (λ low. by_test (nat_le (length new) 262144) (Ok (record { image = new; base = r.base; is_ended = r.is_ended })) (Err kind.TooMany)
    (λ few. record {
      image = record {
        rising = placed_rising (r.base + address_of bytes) (data_of bytes) r.image h.image.rising;
        fits = placed_fits (r.base + address_of bytes) (data_of bytes) r.image (below low) (all_take (count_of bytes) (drop 4 bytes) (all_drop 4 bytes (all_bytes bytes all))) h.image.fits;
        few = leb-true (length new) 262144 few;
      };
      base = h.base;
    }) tt) tt
  where
    new : Bytes
    new = image_with_bytes (r.base + address_of bytes) (data_of bytes) r.image

    below : nat_le (address_of bytes + count_of bytes) 65536 ≡ true → r.base + address_of bytes + length (data_of bytes) ≤ 2 ^ 32
    below low =
        let a : address_of bytes + count_of bytes ≤ 65536 = leb-true (address_of bytes + count_of bytes) 65536 low in
        let b = h.base in
        let c : length (data_of bytes) ≤ count_of bytes = take_short (count_of bytes) (drop 4 bytes) in
        omega (arith, a, b, c)

based : (r : Reading) (n base : ℕ) (bytes : List ℕ) → IsSound r → base ≤ 0xFFFF_0000 → IfOk (where_length n bytes (with_base r base)) IsSound
based r n base bytes h low = by_either (count_of bytes == n) (with_base r base) (Err kind.BadLength) (record { image = h.image; base = low }) tt

word_low : (bytes : List ℕ) → IsBytes bytes → front_word bytes < 65536
word_low bytes all = (let high = all 4 in let low = all 5 in omega (arith, high, low))

type_sound : (r : Reading) (bytes : List ℕ) (t : ℕ) → IsSound r → IsBytes bytes → IfOk (by_type r bytes t) IsSound
type_sound r bytes t h all =
    let word = word_low bytes all in
    by_either (t == 0) _ _ (data_sound r bytes h all)
    (by_either (t == 1) _ _ (by_either (count_of bytes == 0) (with_end r) (Err kind.BadLength) (record { image = h.image; base = h.base }) tt)
    (by_either (t == 2) _ _ (based r 2 (front_word bytes * 16) bytes h (omega (arith, word)))
    (by_either (t == 3) _ _ (by_either (count_of bytes == 4) (Ok r) (Err kind.BadLength) h tt)
    (by_either (t == 4) _ _ (based r 2 (front_word bytes * 65536) bytes h (omega (arith, word)))
    (by_either (t == 5) _ _ (by_either (count_of bytes == 4) (Ok r) (Err kind.BadLength) h tt) tt)))))

-- ---- lines

length_bytes : (bytes found : List ℕ) → of_its_length bytes ≡ Some found → IsBytes bytes → IsBytes found
length_bytes bytes found e all = by_length (length bytes == slice_index bytes 0 + 5) e
  where
    by_length : (b : Bool) → cond b (Some bytes) None ≡ Some found → IsBytes found
    by_length true e = (let same : bytes ≡ found = cc in subst (λ (x : List ℕ). IsBytes x) same all)
    by_length false e = absurd cc

decoded_bytes : (digits found : List ℕ) (d : Result (List ℕ) FromHexError) → decode_of digits ≡ d → decoded_record d ≡ Some found → IsBytes found
decoded_bytes digits found (Ok bytes) is e = length_bytes bytes found e (decode_of-ok digits bytes is).3
decoded_bytes digits found (Err x) is e = absurd cc

record_bytes : (line found : List ℕ) → record_of line ≡ Some found → IsBytes found
record_bytes [] found e = absurd cc
record_bytes (c ∷ digits) found e = by_colon (c == 58) e
  where
    by_colon : (b : Bool) → cond b (decoded_record (decode_of digits)) None ≡ Some found → IsBytes found
    by_colon true e = decoded_bytes digits found (decode_of digits) refl e
    by_colon false e = absurd cc

record_sound : (r : Reading) (line : List ℕ) (o : Option (List ℕ)) → IsSound r → record_of line ≡ o → IfOk (with_record r o) IsSound
record_sound r line None h is = tt
record_sound r line (Some bytes) h is = by_either (sum bytes % 256 == 0) _ _ (type_sound r bytes (type_of bytes) h (record_bytes line bytes is)) tt

line_sound : (r : Reading) (line : List ℕ) → IsSound r → IfOk (with_line r line) IsSound
line_sound r [] h = h
line_sound r (c ∷ rest) h = by_either r.is_ended (Err kind.AfterEnd) (with_record r (record_of (c ∷ rest))) tt (record_sound r (c ∷ rest) (record_of (c ∷ rest)) h refl)

-- ---- the text

read_sound : (ps : List Line) (r : Reading) (lines : ℕ) (found : Bytes) → IsSound r → read_on r lines ps ≡ Ok found → ImageIsInRange found
read_sound [] r lines found h e = by_end r.is_ended e
  where
    none : FaultAt
    none = record { kind = kind.NoEnd; line = lines }

    by_end : (b : Bool) → cond b (Ok r.image) (Err none) ≡ Ok found → ImageIsInRange found
    by_end true e = (let same : r.image ≡ found = cc in subst ImageIsInRange same h.image)
    by_end false e = absurd cc
read_sound (p ∷ ps) r lines found h e = by_line (with_line r (content_of p)) (line_sound r (content_of p) h) (λ next sound on. read_sound ps next (lines + 1) found sound on) e
  where
    by_line : (o : Result Reading ImageKind) → IfOk o IsSound → ((next : Reading) → IsSound next → read_on next (lines + 1) ps ≡ Ok found → ImageIsInRange found)
        → line_then o (λ next. read_on next (lines + 1) ps) (lines + 1) ≡ Ok found → ImageIsInRange found
    by_line (Ok next) sound on e = on next sound e
    by_line (Err k) sound on e = absurd cc

pub image_in_range : (text : List ℕ) (found : Bytes) → image text ≡ Ok found → ImageIsInRange found
image_in_range text found e =
    read_sound (lines_of text) at_start 0 found (record { image = record { rising = tt; fits = tt; few = omega arith }; base = omega arith }) e
