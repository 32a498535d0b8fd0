-- What is written for a number is a token of this number.
use Rattle.std.proofs.Common.{◌≡◌, ℕ, ◌^◌, ◌<◌, true, false, List, [], ◌∷◌, length, Some, refl, ap, arith}
use Rattle.std.specs.Prelude.{nat_lt}
use Rattle.std.specs.List.{list_all}
use Rattle.std.specs.Char.{is_digit, digit_value}
use Rattle.std.specs.Str.Parse.{AllDigits, digits_value}
use Rattle.std.specs.Fmt.{digits}
use Rattle.std.proofs.lemmas.Bool.{lt-ltb}
use Rattle.std.proofs.lemmas.Fmt.{digits_is_IsNumeral}
use Rattle.dap_base.specs.Number.{number_value, digits_number}
use Rattle.text_lines.specs.Hex.{hex}

all_digits : (radix : ℕ) (ds : List ℕ) → AllDigits radix ds → list_all (λ c. is_digit c radix) ds ≡ true
all_digits radix [] h = refl
all_digits radix (c ∷ cs) h = rw (lt-ltb (digit_value c) radix h.0, all_digits radix cs h.1) refl

number_by : (radix v : ℕ) (ds : List ℕ) → 0 < length ds → AllDigits radix ds → digits_value radix ds ≡ v → v < 2 ^ 64 → digits_number radix ds ≡ Some v
number_by radix v [] pos all is small = absurd (omega (arith, pos))
number_by radix v (d ∷ ds) pos all is small =
    let every = all_digits radix (d ∷ ds) all in
    let fits : nat_lt (digits_value radix (d ∷ ds)) (2 ^ 64) ≡ true = lt-ltb (digits_value radix (d ∷ ds)) (2 ^ 64) (omega (arith, is, small)) in
    rw (every, fits) (ap (λ (n : ℕ). Some n) is)

pub hex_number : (v : ℕ) → v < 2 ^ 64 → number_value (hex v) ≡ Some v
hex_number v small =
    let n = digits_is_IsNumeral 16 false (omega arith) (omega arith) v (big v small) in
    number_by 16 v (digits 16 false v) n.0.0 n.0.1 n.1 small where
      big : (v : ℕ) → v < 2 ^ 64 → v < 16 ^ 64
      big v small = omega (arith, small)
