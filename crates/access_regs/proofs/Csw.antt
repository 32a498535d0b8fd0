-- The numbers that CSW holds.
use Rattle.std.proofs.Common.{◌≡◌, ◌∙◌, ℕ, ◌+◌, ◌*◌, ◌/◌, ◌%◌, ◌^◌, ◌<◌, ◌⊎◌, inl, inr, Bool, true, false, cond, eqb, Some, refl, sym, ap, subst, arith, bit_and, bit_or, zero, suc}
use Rattle.std.proofs.lemmas.Nat.{and_block, and_assoc, and_or_apart}
use Rattle.std.proofs.lemmas.Nat.Bits.{and_pow, bit_at-lt}
use Rattle.std.specs.Int.Bits.{and_zero_r}
use Rattle.std.specs.Int.{bit_at}
use Rattle.target_machine.specs.Attempt.{stored_csw, size_of}
use Rattle.target_machine.specs.Plain.{size_code, csw_for}
use Rattle.access_regs.specs.Plan.{planned_csw, increment_off}

-- a number by its bits from 6 on and its low six
split : (n : ℕ) → (n / 64) * 2 ^ 6 + n % 64 ≡ n
split n = omega arith

masked : (n m : ℕ) → bit_and n m ≡ bit_and (n / 64) (m / 64) * 2 ^ 6 + bit_and (n % 64) (m % 64)
masked n m =
    ap (λ (x : ℕ). bit_and x m) (sym (split n))
    ∙ ap (λ (x : ℕ). bit_and ((n / 64) * 2 ^ 6 + n % 64) x) (sym (split m))
    ∙ and_block 6 (n / 64) (m / 64) (n % 64) (m % 64) (omega arith) (omega arith)

masked_at : (h l m : ℕ) → l < 64 → bit_and (h * 2 ^ 6 + l) m ≡ bit_and h (m / 64) * 2 ^ 6 + bit_and l (m % 64)
masked_at h l m lt =
    ap (λ (x : ℕ). bit_and (h * 2 ^ 6 + l) x) (sym (split m))
    ∙ and_block 6 h (m / 64) l (m % 64) lt (omega arith)

-- ---- by cases

codes_by : (b c : Bool) (P : ℕ → Type 0) → P 0 → P 1 → P 2 → P (cond b 0 (cond c 1 2))
codes_by true c P x y z = x
codes_by false true P x y z = y
codes_by false false P x y z = z

codes : (P : ℕ → Type 0) → P 0 → P 1 → P 2 → (size : ℕ) → P (size_code size)
codes P x y z size = codes_by (eqb size 1) (eqb size 2) P x y z

bit_by : (b : ℕ) → b < 2 → (P : ℕ → Type 0) → P 0 → P 8 → P (b * 8)
bit_by zero lt P x y = x
bit_by (suc zero) lt P x y = y
bit_by (suc (suc b)) lt P x y = absurd (omega arith)

eights : (P : ℕ → Type 0) → P 0 → P 8 → (l : ℕ) → P (bit_and l 8)
eights P x y l = subst P (sym (and_pow l 3)) (bit_by (bit_at l 3) (bit_at-lt l 3) P x y)

-- ---- the bits that memory units leave: 31:24 and 3

abbrev pub fixed : ℕ → ℕ
fixed c = bit_and c 0xFF00_0008

-- the low six bits that stay, with more
abbrev low : ℕ → ℕ
low c = bit_and (c % 64) 8

abbrev high : ℕ → ℕ
high c = bit_and (c / 64) 0x3FF_FFFF

fixed_is : (c : ℕ) → fixed c ≡ bit_and (c / 64) 0x3FC_0000 * 2 ^ 6 + low c
fixed_is c = masked c 0xFF00_0008

kept_is : (c : ℕ) → bit_and c 0xFFFF_FFC8 ≡ high c * 2 ^ 6 + low c
kept_is c = masked c 0xFFFF_FFC8

-- CSW with other low bits, under a mask
under : (c n m : ℕ) → low c + n < 64 → bit_and (bit_and c 0xFFFF_FFC8 + n) m ≡ bit_and (c / 64) (bit_and 0x3FF_FFFF (m / 64)) * 2 ^ 6 + bit_and (low c + n) (m % 64)
under c n m lt =
    let regrouped : bit_and c 0xFFFF_FFC8 + n ≡ high c * 2 ^ 6 + (low c + n) = omega (arith, kept_is c) in
    ap (λ (x : ℕ). bit_and x m) regrouped
    ∙ masked_at (high c) (low c + n) m lt
    ∙ ap (λ (x : ℕ). x * 2 ^ 6 + bit_and (low c + n) (m % 64)) (and_assoc (m / 64) (c / 64) 0x3FF_FFFF)

fits : (c size k : ℕ) → k ≡ 0 ⊎ k ≡ 16 → low c + (size_code size + k) < 64
fits c size k is =
    let small : size_code size < 3 = codes (λ n. n < 3) (omega arith) (omega arith) (omega arith) size in
    let less : low c < 9 = eights (λ n. n < 9) (omega arith) (omega arith) (c % 64) in
    elim is [ inl e ↦ omega arith | inr e ↦ omega arith ]

-- what remains of the low six bits under a mask, by cases
lows : (P : ℕ → ℕ → Type 0) → P 0 0 → P 0 1 → P 0 2 → P 8 0 → P 8 1 → P 8 2 → (c size : ℕ) → P (low c) (size_code size)
lows P a b d e f g c size = eights (λ l. P l (size_code size)) (codes (P 0) a b d size) (codes (P 8) e f g size) (c % 64)

pub stored_for : (c size : ℕ) → stored_csw (csw_for c size) ≡ fixed c + size_code size
stored_for c size =
    let small : size_code size < 3 = codes (λ n. n < 3) (omega arith) (omega arith) (omega arith) size in
    let less : low c < 9 = eights (λ n. n < 9) (omega arith) (omega arith) (c % 64) in
    let all : bit_and (low c + size_code size) 0x3F ≡ low c + size_code size = lows (λ l n. bit_and (l + n) 0x3F ≡ l + n) refl refl refl refl refl refl c size in
    let u = under c (size_code size) 0xFF00_003F (omega arith) in
    let f = fixed_is c in
    omega (arith, u, all, f)

pub stored_planned : (c size : ℕ) → stored_csw (planned_csw c size) ≡ fixed c + size_code size + 0x10
stored_planned c size =
    let small : size_code size < 3 = codes (λ n. n < 3) (omega arith) (omega arith) (omega arith) size in
    let less : low c < 9 = eights (λ n. n < 9) (omega arith) (omega arith) (c % 64) in
    let all : bit_and (low c + (size_code size + 0x10)) 0x3F ≡ low c + (size_code size + 0x10) = lows (λ l n. bit_and (l + (n + 0x10)) 0x3F ≡ l + (n + 0x10)) refl refl refl refl refl refl c size in
    let u = under c (size_code size + 0x10) 0xFF00_003F (omega arith) in
    let f = fixed_is c in
    let regrouped : planned_csw c size ≡ bit_and c 0xFFFF_FFC8 + (size_code size + 0x10) = omega arith in
    ap (λ (x : ℕ). stored_csw x) regrouped ∙ omega (arith, u, all, f)

-- settling writes what a plain unit writes
pub increment_off_planned : (c size : ℕ) → increment_off (planned_csw c size) ≡ csw_for c size
increment_off_planned c size =
    let small : size_code size < 3 = codes (λ n. n < 3) (omega arith) (omega arith) (omega arith) size in
    let less : low c < 9 = eights (λ n. n < 9) (omega arith) (omega arith) (c % 64) in
    let all : bit_and (low c + (size_code size + 0x10)) 0xF ≡ low c + size_code size = lows (λ l n. bit_and (l + (n + 0x10)) 0xF ≡ l + n) refl refl refl refl refl refl c size in
    let u = under c (size_code size + 0x10) 0xFFFF_FFCF (omega arith) in
    let k = kept_is c in
    let regrouped : planned_csw c size ≡ bit_and c 0xFFFF_FFC8 + (size_code size + 0x10) = omega arith in
    ap (λ (x : ℕ). increment_off x) regrouped ∙ omega (arith, u, all, k)

kept_planned : (c size : ℕ) → bit_and (planned_csw c size) 0xFFFF_FFC8 ≡ bit_and c 0xFFFF_FFC8
kept_planned c size =
    let small : size_code size < 3 = codes (λ n. n < 3) (omega arith) (omega arith) (omega arith) size in
    let less : low c < 9 = eights (λ n. n < 9) (omega arith) (omega arith) (c % 64) in
    let all : bit_and (low c + (size_code size + 0x10)) 8 ≡ low c = lows (λ l n. bit_and (l + (n + 0x10)) 8 ≡ l) refl refl refl refl refl refl c size in
    let u = under c (size_code size + 0x10) 0xFFFF_FFC8 (omega arith) in
    let k = kept_is c in
    let regrouped : planned_csw c size ≡ bit_and c 0xFFFF_FFC8 + (size_code size + 0x10) = omega arith in
    ap (λ (x : ℕ). bit_and x 0xFFFF_FFC8) regrouped ∙ omega (arith, u, all, k)

pub planned_again : (c size : ℕ) → planned_csw (planned_csw c size) size ≡ planned_csw c size
planned_again c size = ap (λ (x : ℕ). x + size_code size + 0x10) (kept_planned c size)

pub fixed_planned : (c size : ℕ) → fixed (planned_csw c size) ≡ fixed c
fixed_planned c size =
    sym (and_assoc 0xFF00_0008 (planned_csw c size) 0xFFFF_FFC8)
    ∙ ap (λ (x : ℕ). bit_and x 0xFF00_0008) (kept_planned c size)
    ∙ and_assoc 0xFF00_0008 c 0xFFFF_FFC8

pub fixed_stored : (c : ℕ) → fixed (stored_csw c) ≡ fixed c
fixed_stored c = and_assoc 0xFF00_0008 c 0xFF00_003F

pub fixed_increment_off : (c : ℕ) → fixed (increment_off c) ≡ fixed c
fixed_increment_off c = and_assoc 0xFF00_0008 c 0xFFFF_FFCF

pub fixed_read : (c : ℕ) → fixed (bit_or c 0x40) ≡ fixed c
fixed_read c = and_or_apart 0xFF00_0008 c 0x40 refl

-- ---- what DRW reads of CSW

low_three : (c size k : ℕ) → (k ≡ 0) ⊎ (k ≡ 0x10) → bit_and (fixed c + size_code size + k) 7 ≡ size_code size
low_three c size k is =
    let small : size_code size < 3 = codes (λ n. n < 3) (omega arith) (omega arith) (omega arith) size in
    let less : low c < 9 = eights (λ n. n < 9) (omega arith) (omega arith) (c % 64) in
    let h : ℕ = bit_and (c / 64) 0x3FC_0000 in
    let regrouped : fixed c + size_code size + k ≡ h * 2 ^ 6 + (low c + (size_code size + k)) = omega (arith, fixed_is c) in
    let below : low c + (size_code size + k) < 64 = elim is [ inl e ↦ omega arith | inr e ↦ omega arith ] in
    let tail : bit_and (low c + (size_code size + k)) 7 ≡ size_code size =
    elim is [
      | inl e ↦ subst (λ (j : ℕ). bit_and (low c + (size_code size + j)) 7 ≡ size_code size) (sym e) (lows (λ l n. bit_and (l + (n + 0)) 7 ≡ n) refl refl refl refl refl refl c size)
      | inr e ↦ subst (λ (j : ℕ). bit_and (low c + (size_code size + j)) 7 ≡ size_code size) (sym e) (lows (λ l n. bit_and (l + (n + 0x10)) 7 ≡ n) refl refl refl refl refl refl c size)
    ] in
    ap (λ (x : ℕ). bit_and x 7) regrouped
    ∙ masked_at h (low c + (size_code size + k)) 7 below
    ∙ ap (λ (x : ℕ). x * 2 ^ 6 + bit_and (low c + (size_code size + k)) 7) (and_zero_r h)
    ∙ omega (arith, tail)

inc_bits : (c size k : ℕ) → (k ≡ 0) ⊎ (k ≡ 0x10) → bit_and (fixed c + size_code size + k) 0x30 ≡ k
inc_bits c size k is =
    let small : size_code size < 3 = codes (λ n. n < 3) (omega arith) (omega arith) (omega arith) size in
    let less : low c < 9 = eights (λ n. n < 9) (omega arith) (omega arith) (c % 64) in
    let h : ℕ = bit_and (c / 64) 0x3FC_0000 in
    let regrouped : fixed c + size_code size + k ≡ h * 2 ^ 6 + (low c + (size_code size + k)) = omega (arith, fixed_is c) in
    let below : low c + (size_code size + k) < 64 = elim is [ inl e ↦ omega arith | inr e ↦ omega arith ] in
    let tail : bit_and (low c + (size_code size + k)) 0x30 ≡ k =
    elim is [
      | inl e ↦ subst (λ (j : ℕ). bit_and (low c + (size_code size + j)) 0x30 ≡ j) (sym e) (lows (λ l n. bit_and (l + (n + 0)) 0x30 ≡ 0) refl refl refl refl refl refl c size)
      | inr e ↦ subst (λ (j : ℕ). bit_and (low c + (size_code size + j)) 0x30 ≡ j) (sym e) (lows (λ l n. bit_and (l + (n + 0x10)) 0x30 ≡ 0x10) refl refl refl refl refl refl c size)
    ] in
    ap (λ (x : ℕ). bit_and x 0x30) regrouped
    ∙ masked_at h (low c + (size_code size + k)) 0x30 below
    ∙ ap (λ (x : ℕ). x * 2 ^ 6 + bit_and (low c + (size_code size + k)) 0x30) (and_zero_r h)
    ∙ omega (arith, tail)

-- the size that CSW has after a unit of this size
abbrev pub IsSize : ℕ → Type 0
IsSize size = (size ≡ 1) ⊎ ((size ≡ 2) ⊎ (size ≡ 4))

size_by : (size csw : ℕ) → IsSize size → bit_and csw 7 ≡ size_code size → size_of csw ≡ Some size
size_by size csw (inl s) e = let z : bit_and csw 7 ≡ 0 = e ∙ ap size_code s in rw z (ap (λ (n : ℕ). Some n) (sym s))
size_by size csw (inr (inl s)) e = let z : bit_and csw 7 ≡ 1 = e ∙ ap size_code s in rw z (ap (λ (n : ℕ). Some n) (sym s))
size_by size csw (inr (inr s)) e = let z : bit_and csw 7 ≡ 2 = e ∙ ap size_code s in rw z (ap (λ (n : ℕ). Some n) (sym s))

pub planned_size : (c size : ℕ) → IsSize size → size_of (fixed c + size_code size + 0x10) ≡ Some size
planned_size c size is = size_by size (fixed c + size_code size + 0x10) is (low_three c size 0x10 (inr refl))

pub plain_size : (c size : ℕ) → IsSize size → size_of (fixed c + size_code size) ≡ Some size
plain_size c size is =
    let e : fixed c + size_code size + 0 ≡ fixed c + size_code size = omega arith in
    size_by size (fixed c + size_code size) is (subst (λ (x : ℕ). bit_and x 7 ≡ size_code size) e (low_three c size 0 (inl refl)))

pub planned_inc : (c size : ℕ) → bit_and (fixed c + size_code size + 0x10) 0x30 ≡ 0x10
planned_inc c size = inc_bits c size 0x10 (inr refl)

pub plain_inc : (c size : ℕ) → bit_and (fixed c + size_code size) 0x30 ≡ 0
plain_inc c size =
    let e : fixed c + size_code size + 0 ≡ fixed c + size_code size = omega arith in
    subst (λ (x : ℕ). bit_and x 0x30 ≡ 0) e (inc_bits c size 0 (inl refl))
