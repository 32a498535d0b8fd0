-- Lines and records.
use Rattle.std.proofs.Common.{◌≡◌, ◌∙◌, ◌≢◌, ℕ, zero, suc, ◌+◌, ◌-◌, ◌/◌, ◌%◌, ◌<◌, ◌==◌, ◌⊎◌, inl, inr, Bool, true, false, cond, List, [], ◌∷◌, length, take, slice_index, None, Some, Result, Ok, Err, refl, sym, ap, arith}
use Rattle.std.proofs.lemmas.Bool.{eqb-true}
use Rattle.std.proofs.Common.{eq-eqb, ne_eqb}
use Rattle.hex.specs.Hex.{decode_of, decode_sized, decode_pairs}
use Rattle.hex.specs.declared.error.FromHexError.{FromHexError}
use Rattle.hex.proofs.HexLemmas.{decode_of-ok}
use Rattle.hex_image.specs.Records.{decoded_record, of_its_length, without_return}

-- a carriage return at the end is left out
pub returned : (xs : List ℕ) (k : ℕ) → length xs ≡ suc k → without_return xs ≡ cond (slice_index xs k == 13) (take k xs) xs
returned [] k e = absurd (omega (arith, e))
returned (c ∷ []) zero e = refl
returned (c ∷ []) (suc k) e = absurd (omega (arith, e))
returned (c ∷ d ∷ rest) zero e = absurd (omega (arith, e))
returned (c ∷ d ∷ rest) (suc k) e = ap (λ (l : List ℕ). c ∷ l) (returned (d ∷ rest) k (omega (arith, e))) ∙ one (slice_index (d ∷ rest) k == 13)
  where
    one : (b : Bool) → c ∷ cond b (take k (d ∷ rest)) (d ∷ rest) ≡ cond b (c ∷ take k (d ∷ rest)) (c ∷ d ∷ rest)
    one true = refl
    one false = refl

long_by_one : (xs : List ℕ) → 0 < length xs → length xs ≡ suc (length xs - 1)
long_by_one xs some = omega (arith, some)

pub returned_here : (xs : List ℕ) → 0 < length xs → slice_index xs (length xs - 1) ≡ 13 → take (length xs - 1) xs ≡ without_return xs
returned_here xs some is =
    sym (returned xs (length xs - 1) (long_by_one xs some) ∙ ap (λ (b : Bool). cond b (take (length xs - 1) xs) xs) (eq-eqb (slice_index xs (length xs - 1)) 13 is))

pub returned_none : (xs : List ℕ) → (0 < length xs → slice_index xs (length xs - 1) ≢ 13) → xs ≡ without_return xs
returned_none [] other = refl
returned_none (x ∷ xs) other =
    let some : 0 < length (x ∷ xs) = omega arith in
    let differs : slice_index (x ∷ xs) (length (x ∷ xs) - 1) ≢ 13 = other some in
    sym (returned (x ∷ xs) (length (x ∷ xs) - 1) (long_by_one (x ∷ xs) some)
    ∙ ap (λ (b : Bool). cond b (take (length (x ∷ xs) - 1) (x ∷ xs)) (x ∷ xs)) (ne_eqb (slice_index (x ∷ xs) (length (x ∷ xs) - 1)) 13 differs))

-- digits that fill their room
pub sized : (s : List ℕ) (n : ℕ) → n ≡ length s / 2 → decode_sized s n ≡ decode_of s
sized s n e = rw e (one (length s % 2 == 1) (length s / 2 == length s / 2) (eq-eqb (length s / 2) (length s / 2) refl))
  where
    one : (odd same : Bool) → same ≡ true → cond odd (Err FromHexError.OddLength) (cond same (decode_pairs 0 s) (Err FromHexError.InvalidStringLength)) ≡ cond odd (Err FromHexError.OddLength) (decode_pairs 0 s)
    one odd true h = refl
    one odd false h = absurd cc

-- bytes that are not one more than their first says
of_no_length : (bytes : List ℕ) → (length bytes ≡ slice_index bytes 0 + 5 → ⊥) → of_its_length bytes ≡ None
of_no_length bytes differs = one (length bytes == slice_index bytes 0 + 5) refl
  where
    one : (b : Bool) → (length bytes == slice_index bytes 0 + 5) ≡ b → cond b (Some bytes) None ≡ None
    one true e = absurd (differs (eqb-true (length bytes) (slice_index bytes 0 + 5) e))
    one false e = refl

-- too few or too many digits
pub none_long : (s : List ℕ) → (length s < 10) ⊎ (520 < length s) → decoded_record (decode_of s) ≡ None
none_long s h = one (decode_of s) refl
  where
    one : (r : Result (List ℕ) FromHexError) → decode_of s ≡ r → decoded_record r ≡ None
    one (Err e) is = refl
    one (Ok bytes) is =
        let k = decode_of-ok s bytes is in
        let long = k.2 in
        let byte = k.3 0 in
        of_no_length bytes (λ same. elim h [ inl few ↦ omega (arith, long, byte, same, few) | inr many ↦ omega (arith, long, byte, same, many) ])
