-- Variables in a list, the newest last.
use Rattle.std.proofs.Common.{◌≡◌, ℕ, zero, suc, ◌-◌, ◌<◌, ◌≤◌, Bool, true, false, cond, List, [], ◌∷◌, length, drop, slice_set, slice_index_or, bytes_eq, None, Some, refl, sym, ap, arith}
use Rattle.sequence_rules.specs.declared.bindings.Binding.{Binding}
use Rattle.sequence_rules.specs.Variables.{has_in, newest_in, set_newest}

has_more : (p q : Bool) → cond p true q ≡ false → (p ≡ false) × (q ≡ false)
has_more true q h = absurd cc
has_more false q h = (refl, h)

module _ {V : Type 0} where
  has_at : (bs : List (Binding V)) (i : ℕ) (name : List ℕ) (e : Binding V) → i < length bs → bytes_eq name (slice_index_or bs i e).name ≡ true → has_in bs name ≡ true
  has_at [] i name e below same = absurd (omega arith)
  has_at (b ∷ bs) zero name e below same = rw same refl
  has_at (b ∷ bs) (suc i) name e below same = rw (has_at bs i name e (omega arith) same) (either (bytes_eq name b.name))
    where
      either : (p : Bool) → cond p true true ≡ true
      either true = refl
      either false = refl

  pub newest_none : (bs : List (Binding V)) (name : List ℕ) → has_in bs name ≡ false → newest_in bs name ≡ None
  newest_none [] name h = refl
  newest_none (b ∷ bs) name h = let q = has_more (bytes_eq name b.name) (has_in bs name) h in rw (newest_none bs name q.1) (rw q.0 refl)

  pub newest_at : (bs : List (Binding V)) (i : ℕ) (name : List ℕ) (d e : Binding V) → i < length bs → bytes_eq name (slice_index_or bs i e).name ≡ true → has_in (drop (suc i) bs) name ≡ false
      → newest_in bs name ≡ Some (slice_index_or bs i d).value
  newest_at [] i name d e below same none = absurd (omega arith)
  newest_at (b ∷ bs) zero name d e below same none = rw (newest_none bs name none) (rw same refl)
  newest_at (b ∷ bs) (suc i) name d e below same none = rw (newest_at bs i name d e (omega arith) same none) refl

  pub set_newest_none : (bs : List (Binding V)) (name : List ℕ) (v : V) → has_in bs name ≡ false → set_newest bs name v ≡ bs
  set_newest_none [] name v h = refl
  set_newest_none (b ∷ bs) name v h = let q = has_more (bytes_eq name b.name) (has_in bs name) h in rw (q.0, q.1) refl

  pub set_newest_at : (bs : List (Binding V)) (i : ℕ) (name : List ℕ) (v : V) (d e : Binding V) → i < length bs → bytes_eq name (slice_index_or bs i e).name ≡ true → has_in (drop (suc i) bs) name ≡ false
      → slice_set bs i (record { name = (slice_index_or bs i d).name; value = v }) ≡ set_newest bs name v
  set_newest_at [] i name v d e below same none = absurd (omega arith)
  set_newest_at (b ∷ bs) zero name v d e below same none = rw none (rw same refl)
  set_newest_at (b ∷ bs) (suc i) name v d e below same none =
      rw (has_at bs i name e (omega arith) same) (ap (λ xs. b ∷ xs) (set_newest_at bs i name v d e (omega arith) same none))

  -- one variable earlier
  pub none_more : (bs : List (Binding V)) (i : ℕ) (name : List ℕ) (e : Binding V) → i < length bs → bytes_eq name (slice_index_or bs i e).name ≡ false → has_in (drop (suc i) bs) name ≡ false → has_in (drop i bs) name ≡ false
  none_more [] i name e below differs none = absurd (omega arith)
  none_more (b ∷ bs) zero name e below differs none = rw differs none
  none_more (b ∷ bs) (suc i) name e below differs none = none_more bs i name e (omega arith) differs none

  -- ---- as a loop from the end comes to them

  pub has_found : (bs : List (Binding V)) (n : ℕ) (name : List ℕ) (e : Binding V) → n ≤ length bs → 0 < n → bytes_eq name (slice_index_or bs (n - 1) e).name ≡ true → has_in bs name ≡ true
  has_found bs zero name e within some same = absurd (omega arith)
  has_found bs (suc i) name e within some same =
      let less : suc i - 1 ≡ i = omega arith in
      has_at bs i name e (omega arith) (rw less at same)

  pub has_absent : (bs : List (Binding V)) (n : ℕ) (name : List ℕ) → n ≤ 0 → has_in (drop n bs) name ≡ false → has_in bs name ≡ false
  has_absent bs zero name end none = none
  has_absent bs (suc i) name end none = absurd (omega arith)

  pub newest_found : (bs : List (Binding V)) (n : ℕ) (name : List ℕ) (d e : Binding V) → n ≤ length bs → 0 < n → has_in (drop n bs) name ≡ false → bytes_eq name (slice_index_or bs (n - 1) e).name ≡ true
      → newest_in bs name ≡ Some (slice_index_or bs (n - 1) d).value
  newest_found bs zero name d e within some none same = absurd (omega arith)
  newest_found bs (suc i) name d e within some none same =
      let less : suc i - 1 ≡ i = omega arith in
      rw less (newest_at bs i name d e (omega arith) (rw less at same) none)

  pub newest_absent : (bs : List (Binding V)) (n : ℕ) (name : List ℕ) → n ≤ 0 → has_in (drop n bs) name ≡ false → newest_in bs name ≡ None
  newest_absent bs zero name end none = newest_none bs name none
  newest_absent bs (suc i) name end none = absurd (omega arith)

  pub set_newest_found : (bs : List (Binding V)) (n : ℕ) (name : List ℕ) (v : V) (d e : Binding V) → n ≤ length bs → 0 < n → has_in (drop n bs) name ≡ false → bytes_eq name (slice_index_or bs (n - 1) e).name ≡ true
      → slice_set bs (n - 1) (record { name = (slice_index_or bs (n - 1) d).name; value = v }) ≡ set_newest bs name v
  set_newest_found bs zero name v d e within some none same = absurd (omega arith)
  set_newest_found bs (suc i) name v d e within some none same =
      let less : suc i - 1 ≡ i = omega arith in
      rw less (set_newest_at bs i name v d e (omega arith) (rw less at same) none)

  pub set_newest_absent : (bs : List (Binding V)) (n : ℕ) (name : List ℕ) (v : V) → n ≤ 0 → has_in (drop n bs) name ≡ false → bs ≡ set_newest bs name v
  set_newest_absent bs zero name v end none = sym (set_newest_none bs name v none)
  set_newest_absent bs (suc i) name v end none = absurd (omega arith)
