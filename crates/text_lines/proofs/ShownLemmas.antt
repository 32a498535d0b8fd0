-- Texts that are shown as they are.
use Rattle.std.proofs.Common.{◌≡◌, ℕ, ◌<◌, ◌≤◌, ◌^◌, ◌==◌, true, false, nat_le, List, [], ◌∷◌, decimal, refl, ap, arith}
use Rattle.std.proofs.lemmas.Bool.Decides.{nat_tests}
use Rattle.std.proofs.lemmas.Fmt.{decimal_is_IsNumeral}
use Rattle.std.proofs.lemmas.Str.Parse.{digit_from_value}
use Rattle.std.specs.Str.Parse.{AllDigits}
use Rattle.text_lines.specs.Shown.{shown_byte, shown_text}

digit_shown : (c : ℕ) → 48 ≤ c → c ≤ 57 → shown_byte c ≡ c ∷ []
digit_shown c low high =
    let plain : (c == 0x5C) ≡ false = grind (arith, nat_tests) in
    let above : nat_le 0x20 c ≡ true = grind (arith, nat_tests) in
    let below : nat_le c 0x7E ≡ true = grind (arith, nat_tests) in
    rw (plain, above, below) refl

digits_shown : (ds : List ℕ) → AllDigits 10 ds → shown_text ds ≡ ds
digits_shown [] all = refl
digits_shown (c ∷ cs) all =
    let digit = digit_from_value c all.0 in
    rw (digit_shown c digit.0 digit.1) (ap (λ rest. c ∷ rest) (digits_shown cs all.1))

-- a number in decimal is shown as it is
pub shown-decimal : (n : ℕ) → n < 2 ^ 64 → shown_text (decimal n) ≡ decimal n
shown-decimal n fits = digits_shown (decimal n) (decimal_is_IsNumeral n fits).0.1
