-- What a string of a JSON text says is a text itself, and has no more bytes than stand there.
use Rattle.std.proofs.Common.{◌≡◌, ℕ, zero, suc, ◌+◌, ◌*◌, ◌<◌, ◌≤◌, Bool, true, false, cond, ◌&&◌, ◌||◌, eqb, nat_lt, List, [], ◌∷◌, ◌++◌, length, drop, get_or, Option, Some, None, refl, sym, ap, subst, ◌∙◌, append_assoc, length-append, arith, IsUtf8}
use Rattle.std.specs.Option.{option_and_then}
use Rattle.std.specs.Char.{digit_value, is_digit, encode_utf8, IsScalar}
use Rattle.std.specs.Str.{IsAscii}
use Rattle.std.proofs.lemmas.Bool.{eqb-true, and_parts, ltb-true}
use Rattle.std.proofs.lemmas.Bool.Decides.{nat_tests}
use Rattle.std.proofs.lemmas.List.{get_or_at, take_at, drop_at, append-nil}
use Rattle.std.proofs.lemmas.Str.{IsUtf8-take, IsUtf8-drop, IsUtf8-append, IsUtf8-encode, IsUtf8-from_ascii, IsCharBoundary-before_ascii, IsCharBoundary-after_ascii, length-encode}
use Rattle.json.specs.Ascii as ascii
use Rattle.json.specs.Text.{code_unit, short_escape, is_high_surrogate, is_low_surrogate, surrogate_pair, plain, after_backslash, after_u, after_high, prepend, content}

-- ---- on both sides of an ASCII byte

module _ (pre : List ℕ) (x : ℕ) (xs : List ℕ) (utf8 : IsUtf8 (pre ++ x ∷ xs)) (low : x < 128) where
  within : length pre < length (pre ++ x ∷ xs)
  within = omega (arith, length-append pre (x ∷ xs))

  ascii_there : get_or (pre ++ x ∷ xs) (length pre) 0 < 128
  ascii_there = omega (arith, get_or_at pre x xs 0 (length pre) refl, low)

  pub before_ascii : IsUtf8 pre
  before_ascii = subst IsUtf8 (take_at pre (x ∷ xs) (length pre) refl) (IsUtf8-take (pre ++ x ∷ xs) (length pre) utf8 (IsCharBoundary-before_ascii (pre ++ x ∷ xs) (length pre) within ascii_there))

  pub after_ascii : IsUtf8 xs
  after_ascii =
      let whole : (pre ++ x ∷ []) ++ xs ≡ pre ++ x ∷ xs = append_assoc pre (x ∷ []) xs in
      let rest : drop (length pre + 1) (pre ++ x ∷ xs) ≡ xs = ap (drop (length pre + 1)) (sym whole) ∙ drop_at (pre ++ x ∷ []) xs (length pre + 1) (length-append pre (x ∷ [])) in
      subst IsUtf8 rest (IsUtf8-drop (pre ++ x ∷ xs) (length pre + 1) utf8 (IsCharBoundary-after_ascii (pre ++ x ∷ xs) (length pre) utf8 within ascii_there))

abbrev one : ℕ → List ℕ
one x = x ∷ []

low_utf8 : (x : ℕ) → x < 128 → IsUtf8 (x ∷ [])
low_utf8 x low = IsUtf8-from_ascii (x ∷ []) all where
  all : IsAscii (x ∷ [])
  all zero = low
  all (suc i) = omega arith

-- ---- what is put before

prepend_parts : (bytes : List ℕ) (o : Option (List ℕ)) (s : List ℕ) → prepend bytes o ≡ Some s → (r : List ℕ) × (o ≡ Some r) × (bytes ++ r ≡ s)
prepend_parts bytes None s e = absurd cc
prepend_parts bytes (Some r) s e = (r, refl, cc)

and_then_parts : {A B : Type 0} (o : Option A) (f : A → Option B) (y : B) → option_and_then f o ≡ Some y → (x : A) × (o ≡ Some x) × (f x ≡ Some y)
and_then_parts None f y e = absurd cc
and_then_parts (Some x) f y e = (x, refl, e)

cond_some : {A : Type 0} (b : Bool) (o : Option A) (y : A) → cond b o None ≡ Some y → (b ≡ true) × (o ≡ Some y)
cond_some true o y e = (refl, e)
cond_some false o y e = absurd cc

cond_none : {A : Type 0} (b : Bool) (o : Option A) (y : A) → cond b None o ≡ Some y → (b ≡ false) × (o ≡ Some y)
cond_none true o y e = absurd cc
cond_none false o y e = (refl, e)

-- ---- escapes

low_digit : (a : ℕ) → is_digit a 16 ≡ true → a < 128
low_digit a e = grind (arith, nat_tests)

small_digit : (a : ℕ) → is_digit a 16 ≡ true → digit_value a < 16
small_digit a e = ltb-true (digit_value a) 16 e

-- four digits and the unit that they spell
record Unit16 (a b c d u : ℕ) : Type 0 where
  first : a < 128
  second : b < 128
  third : c < 128
  fourth : d < 128
  small : u < 65536

unit_parts : (a b c d u : ℕ) → code_unit a b c d ≡ Some u → Unit16 a b c d u
unfolding code_unit
unit_parts a b c d u e =
    let all = cond_some (is_digit a 16 && is_digit b 16 && is_digit c 16 && is_digit d 16) _ u e in
    let abc = and_parts (is_digit a 16 && is_digit b 16 && is_digit c 16) (is_digit d 16) all.0 in
    let ab = and_parts (is_digit a 16 && is_digit b 16) (is_digit c 16) abc.0 in
    let two = and_parts (is_digit a 16) (is_digit b 16) ab.0 in
    let n = digit_value a * 4096 + digit_value b * 256 + digit_value c * 16 + digit_value d in
    let same : n ≡ u = cc in
    record {
      first = low_digit a two.0;
      second = low_digit b two.1;
      third = low_digit c ab.1;
      fourth = low_digit d abc.1;
      small = omega (arith, same, small_digit a two.0, small_digit b two.1, small_digit c ab.1, small_digit d abc.1);
    }

short_parts : (x c : ℕ) → short_escape x ≡ Some c → (x < 128) × (c < 128)
unfolding short_escape
short_parts x c e = by_quote (eqb x ascii.quote || eqb x ascii.backslash || eqb x ascii.slash) refl e where
  some_is : (a b : ℕ) → Some a ≡ Some b → a ≡ b
  some_is a b e = cc

  low_three : (y : ℕ) → (eqb y ascii.quote || eqb y ascii.backslash || eqb y ascii.slash) ≡ true → y < 128
  low_three y e = grind (arith, nat_tests)

  step : (y : ℕ) (k v : ℕ) (b : Bool) (o : Option ℕ) → eqb y k ≡ b → k < 128 → v < 128 → cond b (Some v) o ≡ Some c → (o ≡ Some c → (y < 128) × (c < 128)) → (y < 128) × (c < 128)
  step y k v true o is low small e later = (omega (arith, eqb-true y k is, low), omega (arith, some_is v c e, small))
  step y k v false o is low small e later = later e

  by_quote : (b : Bool) → (eqb x ascii.quote || eqb x ascii.backslash || eqb x ascii.slash) ≡ b
      → cond b (Some x) (cond (eqb x ascii.lower_b) (Some ascii.backspace) (cond (eqb x ascii.lower_f) (Some ascii.form_feed) (cond (eqb x ascii.lower_n) (Some ascii.line_feed) (cond (eqb x ascii.lower_r) (Some ascii.carriage_return) (cond (eqb x ascii.lower_t) (Some ascii.tab) None))))) ≡ Some c → (x < 128) × (c < 128)
  by_quote true is e = let low = low_three x is in (low, omega (arith, some_is x c e, low))
  by_quote false is e =
      step x ascii.lower_b ascii.backspace (eqb x ascii.lower_b) _ refl (omega arith) (omega arith) e (λ e1.
      step x ascii.lower_f ascii.form_feed (eqb x ascii.lower_f) _ refl (omega arith) (omega arith) e1 (λ e2.
      step x ascii.lower_n ascii.line_feed (eqb x ascii.lower_n) _ refl (omega arith) (omega arith) e2 (λ e3.
      step x ascii.lower_r ascii.carriage_return (eqb x ascii.lower_r) _ refl (omega arith) (omega arith) e3 (λ e4.
      step x ascii.lower_t ascii.tab (eqb x ascii.lower_t) _ refl (omega arith) (omega arith) e4 (λ e5. absurd cc)))))

most_bytes : (c : ℕ) → length (encode_utf8 c) ≤ 4
most_bytes c = omega (arith, length-encode c, most (nat_lt c 0x80) (nat_lt c 0x800) (nat_lt c 0x1_0000)) where
  most : (a b d : Bool) → cond a 1 (cond b 2 (cond d 3 4)) ≤ 4
  most true b d = omega arith
  most false true d = omega arith
  most false false true = omega arith
  most false false false = omega arith

plain_scalar : (u : ℕ) → u < 65536 → is_high_surrogate u ≡ false → is_low_surrogate u ≡ false → IsScalar u
plain_scalar u small high low = grind (arith, nat_tests)

pair_scalar : (h l : ℕ) → is_high_surrogate h ≡ true → is_low_surrogate l ≡ true → IsScalar (surrogate_pair h l)
pair_scalar h l high low = grind (arith, nat_tests)

-- ---- the content of a string

-- what is read is a text, with no more bytes than so many
record Good (n : ℕ) (s : List ℕ) : Type 0 where
  pub utf8 : IsUtf8 s
  pub few : length s ≤ n

joined : (n m : ℕ) (bytes r s : List ℕ) → IsUtf8 bytes → length bytes + n ≤ m → bytes ++ r ≡ s → Good n r → Good m s
joined n m bytes r s is fits e g = record { utf8 = subst IsUtf8 e (IsUtf8-append bytes r is g.utf8); few = omega (arith, ap length e, length-append bytes r, g.few, fits) }

abbrev Claim : ℕ → Type 0
Claim fuel = (xs pre s : List ℕ) → length xs ≤ fuel → IsUtf8 (pre ++ xs) → content plain xs ≡ Some s → IsUtf8 (pre ++ s) × (length s ≤ length xs)

module _ (fuel : ℕ) (claim : Claim fuel) where
  further : (xs s : List ℕ) → length xs ≤ fuel → IsUtf8 xs → content plain xs ≡ Some s → Good (length xs) s
  further xs s le utf8 e = let r = claim xs [] s le utf8 e in record { utf8 = r.0; few = r.1 }

  high_good : (h : ℕ) → is_high_surrogate h ≡ true → (xs s : List ℕ) → length xs ≤ fuel → IsUtf8 xs → content (after_high h) xs ≡ Some s → Good (length xs) s
  unfolding content
  high_good h high [] s le utf8 e = absurd cc
  high_good h high (x ∷ []) s le utf8 e = absurd cc
  high_good h high (x ∷ y ∷ []) s le utf8 e = absurd cc
  high_good h high (x ∷ y ∷ a ∷ []) s le utf8 e = absurd cc
  high_good h high (x ∷ y ∷ a ∷ b ∷ []) s le utf8 e = absurd cc
  high_good h high (x ∷ y ∷ a ∷ b ∷ c ∷ []) s le utf8 e = absurd cc
  high_good h high (x ∷ y ∷ a ∷ b ∷ c ∷ d ∷ xs) s le utf8 e =
      let opened = cond_some (eqb x ascii.backslash && eqb y ascii.lower_u) _ s e in
      let marks = and_parts (eqb x ascii.backslash) (eqb y ascii.lower_u) opened.0 in
      let unit = and_then_parts (code_unit a b c d) _ s opened.1 in
      let l = unit.0 in
      let low = cond_some (is_low_surrogate l) _ s unit.2 in
      let parts = prepend_parts (encode_utf8 (surrogate_pair h l)) (content plain xs) s low.1 in
      let digits = unit_parts a b c d l unit.1 in
      let u1 = after_ascii [] x (y ∷ a ∷ b ∷ c ∷ d ∷ xs) utf8 (omega (arith, eqb-true x ascii.backslash marks.0)) in
      let u2 = after_ascii [] y (a ∷ b ∷ c ∷ d ∷ xs) u1 (omega (arith, eqb-true y ascii.lower_u marks.1)) in
      let u3 = after_ascii [] a (b ∷ c ∷ d ∷ xs) u2 digits.first in
      let u4 = after_ascii [] b (c ∷ d ∷ xs) u3 digits.second in
      let u5 = after_ascii [] c (d ∷ xs) u4 digits.third in
      let u6 = after_ascii [] d xs u5 digits.fourth in
      joined (length xs) (length (x ∷ y ∷ a ∷ b ∷ c ∷ d ∷ xs)) (encode_utf8 (surrogate_pair h l)) parts.0 s (IsUtf8-encode (surrogate_pair h l) (pair_scalar h l high low.0))
      (omega (arith, most_bytes (surrogate_pair h l))) parts.2 (further xs parts.0 (omega (arith, le)) u6 parts.1)

  unit_by : (u : ℕ) (xs s : List ℕ) → u < 65536 → length xs ≤ fuel → IsUtf8 xs → (b : Bool) → is_high_surrogate u ≡ b
      → cond b (content (after_high u) xs) (cond (is_low_surrogate u) None (prepend (encode_utf8 u) (content plain xs))) ≡ Some s → Good (4 + length xs) s
  unit_by u xs s small le utf8 true is e = let g = high_good u is xs s le utf8 e in record { utf8 = g.utf8; few = omega (arith, g.few) }
  unit_by u xs s small le utf8 false is e =
      let low = cond_none (is_low_surrogate u) _ s e in
      let parts = prepend_parts (encode_utf8 u) (content plain xs) s low.1 in
      joined (length xs) (4 + length xs) (encode_utf8 u) parts.0 s (IsUtf8-encode u (plain_scalar u small is low.0)) (omega (arith, most_bytes u)) parts.2 (further xs parts.0 le utf8 parts.1)

  u_good : (xs s : List ℕ) → length xs ≤ fuel → IsUtf8 xs → content after_u xs ≡ Some s → Good (length xs) s
  unfolding content
  u_good [] s le utf8 e = absurd cc
  u_good (a ∷ []) s le utf8 e = absurd cc
  u_good (a ∷ b ∷ []) s le utf8 e = absurd cc
  u_good (a ∷ b ∷ c ∷ []) s le utf8 e = absurd cc
  u_good (a ∷ b ∷ c ∷ d ∷ xs) s le utf8 e =
      let unit = and_then_parts (code_unit a b c d) _ s e in
      let digits = unit_parts a b c d unit.0 unit.1 in
      let u1 = after_ascii [] a (b ∷ c ∷ d ∷ xs) utf8 digits.first in
      let u2 = after_ascii [] b (c ∷ d ∷ xs) u1 digits.second in
      let u3 = after_ascii [] c (d ∷ xs) u2 digits.third in
      let u4 = after_ascii [] d xs u3 digits.fourth in
      let g = unit_by unit.0 xs s digits.small (omega (arith, le)) u4 (is_high_surrogate unit.0) refl unit.2 in
      record { utf8 = g.utf8; few = omega (arith, g.few) }

  escape_by : (x : ℕ) (xs s : List ℕ) → length (x ∷ xs) ≤ fuel → IsUtf8 (x ∷ xs) → (b : Bool) → eqb x ascii.lower_u ≡ b
      → cond b (content after_u xs) (option_and_then (λ c. prepend (c ∷ []) (content plain xs)) (short_escape x)) ≡ Some s → Good (length (x ∷ xs)) s
  escape_by x xs s le utf8 true is e =
      let g = u_good xs s (omega (arith, le)) (after_ascii [] x xs utf8 (omega (arith, eqb-true x ascii.lower_u is))) e in
      record { utf8 = g.utf8; few = omega (arith, g.few) }
  escape_by x xs s le utf8 false is e =
      let short = and_then_parts (short_escape x) _ s e in
      let low = short_parts x short.0 short.1 in
      let parts = prepend_parts (short.0 ∷ []) (content plain xs) s short.2 in
      joined (length xs) (length (x ∷ xs)) (short.0 ∷ []) parts.0 s (low_utf8 short.0 low.1) (omega arith) parts.2 (further xs parts.0 (omega (arith, le)) (after_ascii [] x xs utf8 low.0) parts.1)

  escape_good : (xs s : List ℕ) → length xs ≤ fuel → IsUtf8 xs → content after_backslash xs ≡ Some s → Good (length xs) s
  unfolding content
  escape_good [] s le utf8 e = absurd cc
  escape_good (x ∷ xs) s le utf8 e = escape_by x xs s le utf8 (eqb x ascii.lower_u) refl e

  plain_by : (x : ℕ) (xs pre s : List ℕ) → length xs ≤ fuel → IsUtf8 (pre ++ x ∷ xs) → (b c : Bool) → eqb x ascii.quote ≡ b → eqb x ascii.backslash ≡ c
      → cond b (Some []) (cond c (content after_backslash xs) (cond (nat_lt x ascii.space) None (prepend (x ∷ []) (content plain xs)))) ≡ Some s → IsUtf8 (pre ++ s) × (length s ≤ length (x ∷ xs))
  plain_by x xs pre s le utf8 true c is slash e =
      let none : [] ≡ s = cc in
      let whole = before_ascii pre x xs utf8 (omega (arith, eqb-true x ascii.quote is)) in
      (subst (λ (t : List ℕ). IsUtf8 (pre ++ t)) none (subst IsUtf8 (sym (append-nil pre)) whole), omega (arith, ap length none))
  plain_by x xs pre s le utf8 false true is slash e =
      let low : x < 128 = omega (arith, eqb-true x ascii.backslash slash) in
      let g = escape_good xs s le (after_ascii pre x xs utf8 low) e in
      (IsUtf8-append pre s (before_ascii pre x xs utf8 low) g.utf8, omega (arith, g.few))
  plain_by x xs pre s le utf8 false false is slash e =
      let high = cond_none (nat_lt x ascii.space) _ s e in
      let parts = prepend_parts (x ∷ []) (content plain xs) s high.1 in
      let r = claim xs (pre ++ x ∷ []) parts.0 le (subst IsUtf8 (sym (append_assoc pre (x ∷ []) xs)) utf8) parts.1 in
      (subst (λ (t : List ℕ). IsUtf8 (pre ++ t)) parts.2 (subst IsUtf8 (append_assoc pre (x ∷ []) parts.0) r.0), omega (arith, r.1, ap length parts.2))

claimed : (fuel : ℕ) → Claim fuel
unfolding content
claimed fuel [] pre s le utf8 e = absurd cc
claimed zero (x ∷ xs) pre s le utf8 e = absurd (omega (arith, le))
claimed (suc fuel) (x ∷ xs) pre s le utf8 e = plain_by fuel (claimed fuel) x xs pre s (omega (arith, le)) utf8 (eqb x ascii.quote) (eqb x ascii.backslash) refl refl e

pub string_good : (xs s : List ℕ) → IsUtf8 xs → content plain xs ≡ Some s → IsUtf8 s × (length s ≤ length xs)
string_good xs s utf8 e = claimed (length xs) xs [] s (omega arith) utf8 e
