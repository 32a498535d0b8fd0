-- The lanes of a word: one byte of it replaced, all four of them, and what a read shows.
use Rattle.std.proofs.Common.{◌≡◌, ◌≢◌, ◌∙◌, ℕ, zero, suc, ◌+◌, ◌-◌, ◌*◌, ◌/◌, ◌%◌, ◌^◌, ◌<◌, refl, sym, ap, arith, bit_and}
use Rattle.std.proofs.lemmas.Nat.{and_assoc, and_block, and_comm, and_mask, and_shr, or_disjoint, pow_pos, shl-shr}
use Rattle.std.specs.Int.{w32, bit_not}
use Rattle.std.specs.Int.Bits.{and_zero_r}
use Rattle.target_machine.specs.Memory.{merged_word}
use Rattle.image_load.specs.Pieces.{byte_from_bit}
use Rattle.target_calls.proofs.NeedLemmas.{none_last}

-- ---- sums

-- lanes that a mask keeps, and those that it takes, share no bit
merged_sum : (old new mask : ℕ) → bit_and mask (bit_not w32 mask) ≡ 0 → merged_word old new mask ≡ bit_and old (bit_not w32 mask) + bit_and new mask
merged_sum old new mask apart = or_disjoint (bit_and old keep) (bit_and new mask) (and_assoc (bit_and new mask) old keep ∙ ap (bit_and old) none ∙ and_zero_r old)
  where
    keep : ℕ
    keep = bit_not w32 mask

    none : bit_and keep (bit_and new mask) ≡ 0
    none = and_comm keep (bit_and new mask) ∙ and_assoc keep new mask ∙ ap (bit_and new) apart ∙ and_zero_r new

-- a byte in its lane
in_lane : (b k : ℕ) → b < 256 → bit_and (b * 2 ^ k) (255 * 2 ^ k) ≡ b * 2 ^ k
in_lane b k lt =
    ap (λ (x : ℕ). bit_and x (255 * 2 ^ k)) (none_last (b * 2 ^ k))
    ∙ ap (λ (x : ℕ). bit_and (b * 2 ^ k + 0) x) (none_last (255 * 2 ^ k))
    ∙ and_block k b 255 0 0 (pow_pos k) (pow_pos k)
    ∙ sym (none_last (bit_and b 255 * 2 ^ k))
    ∙ (let low : bit_and b 255 ≡ b = and_mask b 8 ∙ omega (arith, lt) in ap (λ (x : ℕ). x * 2 ^ k) low)

split_8 : (n : ℕ) → n ≡ n / 2 ^ 8 * 2 ^ 8 + n % 2 ^ 8
split_8 n = omega arith

split_16 : (n : ℕ) → n ≡ n / 2 ^ 16 * 2 ^ 16 + n % 2 ^ 16
split_16 n = omega arith

split_24 : (n : ℕ) → n ≡ n / 2 ^ 24 * 2 ^ 24 + n % 2 ^ 24
split_24 n = omega arith

-- what is kept of a number without one of its lanes
kept_0 : (n : ℕ) → bit_and n 0xFFFF_FF00 ≡ (n / 2 ^ 8 % 2 ^ 24) * 2 ^ 8
kept_0 n =
    let high = and_mask (n / 2 ^ 8) 24 in
    let low = and_zero_r (n % 2 ^ 8) in
    ap (λ (x : ℕ). bit_and x 0xFFFF_FF00) (split_8 n) ∙ and_block 8 (n / 2 ^ 8) 0xFF_FFFF (n % 2 ^ 8) 0 (omega arith) (omega arith)
    ∙ ap (λ (x : ℕ). x * 2 ^ 8 + bit_and (n % 2 ^ 8) 0) high ∙ ap (λ (x : ℕ). n / 2 ^ 8 % 2 ^ 24 * 2 ^ 8 + x) low ∙ omega arith

kept_1 : (n : ℕ) → bit_and n 0xFFFF_00FF ≡ (n / 2 ^ 16 % 2 ^ 16) * 2 ^ 16 + n % 2 ^ 8
kept_1 n =
    let high = and_mask (n / 2 ^ 16) 16 in
    let low = and_mask (n % 2 ^ 16) 8 in
    ap (λ (x : ℕ). bit_and x 0xFFFF_00FF) (split_16 n) ∙ and_block 16 (n / 2 ^ 16) 0xFFFF (n % 2 ^ 16) 0xFF (omega arith) (omega arith)
    ∙ ap (λ (x : ℕ). x * 2 ^ 16 + bit_and (n % 2 ^ 16) 0xFF) high ∙ ap (λ (x : ℕ). n / 2 ^ 16 % 2 ^ 16 * 2 ^ 16 + x) low ∙ omega arith

kept_2 : (n : ℕ) → bit_and n 0xFF00_FFFF ≡ (n / 2 ^ 24 % 2 ^ 8) * 2 ^ 24 + n % 2 ^ 16
kept_2 n =
    let high = and_mask (n / 2 ^ 24) 8 in
    let low = and_mask (n % 2 ^ 24) 16 in
    ap (λ (x : ℕ). bit_and x 0xFF00_FFFF) (split_24 n) ∙ and_block 24 (n / 2 ^ 24) 0xFF (n % 2 ^ 24) 0xFFFF (omega arith) (omega arith)
    ∙ ap (λ (x : ℕ). x * 2 ^ 24 + bit_and (n % 2 ^ 24) 0xFFFF) high ∙ ap (λ (x : ℕ). n / 2 ^ 24 % 2 ^ 8 * 2 ^ 24 + x) low ∙ omega arith

kept_3 : (n : ℕ) → bit_and n 0xFF_FFFF ≡ n % 2 ^ 24
kept_3 n = and_mask n 24

-- ---- one byte

-- a number with one of its four bytes replaced
abbrev pub replaced : ℕ → ℕ → ℕ → ℕ
replaced n b lane = merged_word n (b * 2 ^ (8 * lane)) ((2 ^ (8 * 1) - 1) * 2 ^ (8 * lane))

with_0 : (n b : ℕ) → b < 256 → replaced n b 0 ≡ (n / 2 ^ 8 % 2 ^ 24) * 2 ^ 8 + b
with_0 n b lt = merged_sum n (b * 2 ^ 0) 0xFF refl ∙ ap (λ (x : ℕ). x + bit_and (b * 2 ^ 0) 0xFF) (kept_0 n) ∙ ap (λ (x : ℕ). n / 2 ^ 8 % 2 ^ 24 * 2 ^ 8 + x) (in_lane b 0 lt) ∙ omega arith

with_1 : (n b : ℕ) → b < 256 → replaced n b 1 ≡ (n / 2 ^ 16 % 2 ^ 16) * 2 ^ 16 + b * 2 ^ 8 + n % 2 ^ 8
with_1 n b lt = merged_sum n (b * 2 ^ 8) 0xFF00 refl ∙ ap (λ (x : ℕ). x + bit_and (b * 2 ^ 8) 0xFF00) (kept_1 n) ∙ ap (λ (x : ℕ). n / 2 ^ 16 % 2 ^ 16 * 2 ^ 16 + n % 2 ^ 8 + x) (in_lane b 8 lt) ∙ omega arith

with_2 : (n b : ℕ) → b < 256 → replaced n b 2 ≡ (n / 2 ^ 24 % 2 ^ 8) * 2 ^ 24 + b * 2 ^ 16 + n % 2 ^ 16
with_2 n b lt = merged_sum n (b * 2 ^ 16) 0xFF_0000 refl ∙ ap (λ (x : ℕ). x + bit_and (b * 2 ^ 16) 0xFF_0000) (kept_2 n) ∙ ap (λ (x : ℕ). n / 2 ^ 24 % 2 ^ 8 * 2 ^ 24 + n % 2 ^ 16 + x) (in_lane b 16 lt) ∙ omega arith

with_3 : (n b : ℕ) → b < 256 → replaced n b 3 ≡ b * 2 ^ 24 + n % 2 ^ 24
with_3 n b lt = merged_sum n (b * 2 ^ 24) 0xFF00_0000 refl ∙ ap (λ (x : ℕ). x + bit_and (b * 2 ^ 24) 0xFF00_0000) (kept_3 n) ∙ ap (λ (x : ℕ). n % 2 ^ 24 + x) (in_lane b 24 lt) ∙ omega arith

-- ---- by lanes

by_lane : (P : ℕ → Type 0) → P 0 → P 1 → P 2 → P 3 → (r : ℕ) → r < 4 → P r
by_lane P a b c d zero lt = a
by_lane P a b c d (suc zero) lt = b
by_lane P a b c d (suc (suc zero)) lt = c
by_lane P a b c d (suc (suc (suc zero))) lt = d
by_lane P a b c d (suc (suc (suc (suc r)))) lt = absurd (omega (arith, lt))

-- the byte that was replaced
pub same_lane : (n b r : ℕ) → b < 256 → r < 4 → byte_from_bit (replaced n b r) (8 * r) ≡ b
same_lane n b r lt within =
    by_lane (λ s. byte_from_bit (replaced n b s) (8 * s) ≡ b)
    (ap (λ (x : ℕ). byte_from_bit x 0) (with_0 n b lt) ∙ omega (arith, lt))
    (ap (λ (x : ℕ). byte_from_bit x 8) (with_1 n b lt) ∙ omega (arith, lt))
    (ap (λ (x : ℕ). byte_from_bit x 16) (with_2 n b lt) ∙ omega (arith, lt))
    (ap (λ (x : ℕ). byte_from_bit x 24) (with_3 n b lt) ∙ omega (arith, lt))
    r within

differ : {A : Type 0} (n : ℕ) → (n ≢ n) → A
differ n ne = absurd (ne refl)

-- the others stay
pub other_lane : (n b r s : ℕ) → b < 256 → r < 4 → s < 4 → r ≢ s → byte_from_bit (replaced n b r) (8 * s) ≡ byte_from_bit n (8 * s)
other_lane n b r s lt r_lt s_lt ne =
    by_lane (λ r. r ≢ s → byte_from_bit (replaced n b r) (8 * s) ≡ byte_from_bit n (8 * s))
    (λ ne. by_lane (λ s. 0 ≢ s → byte_from_bit (replaced n b 0) (8 * s) ≡ byte_from_bit n (8 * s)) (differ 0)
    (λ e. ap (λ (x : ℕ). byte_from_bit x 8) (with_0 n b lt) ∙ omega (arith, lt)) (λ e. ap (λ (x : ℕ). byte_from_bit x 16) (with_0 n b lt) ∙ omega (arith, lt)) (λ e. ap (λ (x : ℕ). byte_from_bit x 24) (with_0 n b lt) ∙ omega (arith, lt)) s s_lt ne)
    (λ ne. by_lane (λ s. 1 ≢ s → byte_from_bit (replaced n b 1) (8 * s) ≡ byte_from_bit n (8 * s)) (λ e. ap (λ (x : ℕ). byte_from_bit x 0) (with_1 n b lt) ∙ omega (arith, lt)) (differ 1)
    (λ e. ap (λ (x : ℕ). byte_from_bit x 16) (with_1 n b lt) ∙ omega (arith, lt)) (λ e. ap (λ (x : ℕ). byte_from_bit x 24) (with_1 n b lt) ∙ omega (arith, lt)) s s_lt ne)
    (λ ne. by_lane (λ s. 2 ≢ s → byte_from_bit (replaced n b 2) (8 * s) ≡ byte_from_bit n (8 * s)) (λ e. ap (λ (x : ℕ). byte_from_bit x 0) (with_2 n b lt) ∙ omega (arith, lt)) (λ e. ap (λ (x : ℕ). byte_from_bit x 8) (with_2 n b lt) ∙ omega (arith, lt))
    (differ 2) (λ e. ap (λ (x : ℕ). byte_from_bit x 24) (with_2 n b lt) ∙ omega (arith, lt)) s s_lt ne)
    (λ ne. by_lane (λ s. 3 ≢ s → byte_from_bit (replaced n b 3) (8 * s) ≡ byte_from_bit n (8 * s)) (λ e. ap (λ (x : ℕ). byte_from_bit x 0) (with_3 n b lt) ∙ omega (arith, lt)) (λ e. ap (λ (x : ℕ). byte_from_bit x 8) (with_3 n b lt) ∙ omega (arith, lt))
    (λ e. ap (λ (x : ℕ). byte_from_bit x 16) (with_3 n b lt) ∙ omega (arith, lt)) (differ 3) s s_lt ne)
    r r_lt ne

-- ---- a word

-- four bytes, one after the other
pub four_lanes : (n a b c d : ℕ) → a < 256 → b < 256 → c < 256 → d < 256 → replaced (replaced (replaced (replaced n a 0) b 1) c 2) d 3 ≡ a + b * 2 ^ 8 + c * 2 ^ 16 + d * 2 ^ 24
four_lanes n a b c d al bl cl dl =
    let x0 : ℕ = replaced n a 0 in
    let x1 : ℕ = replaced x0 b 1 in
    let x2 : ℕ = replaced x1 c 2 in
    let e0 : x0 % 2 ^ 8 ≡ a = ap (λ (x : ℕ). x % 2 ^ 8) (with_0 n a al) ∙ omega (arith, al) in
    let e1 : x1 % 2 ^ 16 ≡ b * 2 ^ 8 + x0 % 2 ^ 8 = ap (λ (x : ℕ). x % 2 ^ 16) (with_1 x0 b bl) ∙ omega (arith, bl) in
    let e2 : x2 % 2 ^ 24 ≡ c * 2 ^ 16 + x1 % 2 ^ 16 = ap (λ (x : ℕ). x % 2 ^ 24) (with_2 x1 c cl) ∙ omega (arith, cl) in
    with_3 x2 d dl ∙ ap (λ (x : ℕ). d * 2 ^ 24 + x) (e2 ∙ ap (λ (x : ℕ). c * 2 ^ 16 + x) (e1 ∙ ap (λ (x : ℕ). b * 2 ^ 8 + x) e0)) ∙ omega arith

-- all at once
pub whole_word : (n v : ℕ) → v < 2 ^ 32 → merged_word n (v * 2 ^ (8 * 0)) ((2 ^ (8 * 4) - 1) * 2 ^ (8 * 0)) ≡ v
whole_word n v lt =
    let none = and_zero_r n in
    let all : bit_and (v * 2 ^ 0) 0xFFFF_FFFF ≡ v = and_mask (v * 2 ^ 0) 32 ∙ omega (arith, lt) in
    merged_sum n (v * 2 ^ 0) 0xFFFF_FFFF refl ∙ ap (λ (x : ℕ). x + bit_and (v * 2 ^ 0) 0xFFFF_FFFF) none ∙ omega (arith, all)

-- ---- reads

-- one byte that a read shows
pub shown_byte : (v r : ℕ) → bit_and v ((2 ^ (8 * 1) - 1) * 2 ^ (8 * r)) / 2 ^ (8 * r) % 2 ^ (8 * 1) ≡ byte_from_bit v (8 * r)
shown_byte v r =
    ap (λ (x : ℕ). x % 2 ^ 8) (and_shr v (255 * 2 ^ (8 * r)) (8 * r) ∙ ap (bit_and (v / 2 ^ (8 * r))) (shl-shr 255 (8 * r)) ∙ and_mask (v / 2 ^ (8 * r)) 8)
    ∙ twice (v / 2 ^ (8 * r))
  where
    twice : (n : ℕ) → n % 2 ^ 8 % 2 ^ 8 ≡ n % 2 ^ 8
    twice n = omega arith

-- a word that a read shows, by its bytes
pub shown_word : (v a b c d : ℕ) → byte_from_bit v 0 ≡ a → byte_from_bit v 8 ≡ b → byte_from_bit v 16 ≡ c → byte_from_bit v 24 ≡ d
    → bit_and v ((2 ^ (8 * 4) - 1) * 2 ^ (8 * 0)) / 2 ^ (8 * 0) % 2 ^ (8 * 4) ≡ a + b * 2 ^ 8 + c * 2 ^ 16 + d * 2 ^ 24
shown_word v a b c d ea eb ec ed =
    let low : bit_and v 0xFFFF_FFFF ≡ v % 2 ^ 32 = and_mask v 32 in
    ap (λ (x : ℕ). x / 2 ^ 0 % 2 ^ 32) low ∙ omega (arith, ea, eb, ec, ed)
