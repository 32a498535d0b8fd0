-- Words that lie in a region, one region after another.
use Rattle.std.proofs.Common.{◌≡◌, ℕ, zero, suc, ◌+◌, ◌*◌, ◌<◌, ◌≤◌, Bool, true, false, cond, ◌&&◌, ◌||◌, List, [], ◌∷◌, Option, Some, None, ◌⊎◌, inl, inr, refl, ap, sym, subst, ◌∙◌, arith}
use Rattle.std.specs.List.{list_any}
use Rattle.std.specs.Prelude.{find}
use Rattle.target_machine.specs.declared.job.RegionJob.{RegionJob}
use Rattle.job_text.specs.Tests.{is_held, are_words_in}

-- ---- the first item that passes

found_case : {A : Type 0} (p : A → Bool) (y x : A) (rest : Option A) (b : Bool) → p y ≡ b → cond b (Some y) rest ≡ Some x → ((p y ≡ true) × (y ≡ x)) ⊎ (rest ≡ Some x)
found_case p y x rest true is e = inl (is, cc)
found_case p y x rest false is e = inr e

pub found-passes : {A : Type 0} (p : A → Bool) (xs : List A) (x : A) → find p xs ≡ Some x → p x ≡ true
found-passes p [] x e = absurd cc
found-passes p (y ∷ ys) x e =
    elim (found_case p y x (find p ys) (p y) refl e) [ inl h ↦ subst (λ z. p z ≡ true) h.1 h.0 | inr h ↦ found-passes p ys x h ]

or_true : (a b : Bool) → b ≡ true → a || b ≡ true
or_true true b e = refl
or_true false b e = e

pub any-found : {A : Type 0} (p q : A → Bool) (xs : List A) (x : A) → find p xs ≡ Some x → q x ≡ true → list_any q xs ≡ true
any-found p q [] x e here = absurd cc
any-found p q (y ∷ ys) x e here =
    elim (found_case p y x (find p ys) (p y) refl e) [
      | inl h ↦ ap (λ b. b || list_any q ys) (subst (λ z. q z ≡ true) (sym h.1) here)
      | inr h ↦ or_true (q y) (list_any q ys) (any-found p q ys x h here)
    ]

none_case : {A : Type 0} (b : Bool) (y : A) (rest : Option A) → cond b (Some y) rest ≡ None → (b ≡ false) × (rest ≡ None)
none_case true y rest e = absurd cc
none_case false y rest e = (refl, e)

pub none-found : {A : Type 0} (p : A → Bool) (xs : List A) → find p xs ≡ None → list_any p xs ≡ false
none-found p [] e = refl
none-found p (y ∷ ys) e = let a = none_case (p y) y (find p ys) e in rw (a.0, none-found p ys a.1) refl

-- ---- words one after another

pub no_word : (regions : List RegionJob) (at n : ℕ) → 0 < n → is_held regions at ≡ false → are_words_in regions at n ≡ false
no_word regions at zero h none = absurd (omega arith)
no_word regions at (suc n) h none = rw none refl

abbrev pub AreHeld : List RegionJob → ℕ → ℕ → Type 0
AreHeld regions at count = (i : ℕ) → i < count → is_held regions (at + 4 * i) ≡ true

-- the words that lie in a region are passed
pub passed : (regions : List RegionJob) (count at n to left : ℕ) → AreHeld regions at count → to ≡ at + 4 * count → n ≡ count + left → are_words_in regions at n ≡ are_words_in regions to left
passed regions zero at n to left held there sum =
    let same_at : at ≡ to = omega (arith, there) in
    let same_left : n ≡ left = omega (arith, sum) in
    ap (λ a. are_words_in regions a n) same_at ∙ ap (λ m. are_words_in regions to m) same_left
passed regions (suc count) at n to left held there sum =
    let opened : n ≡ suc (count + left) = omega (arith, sum) in
    let at_0 : at + 4 * 0 ≡ at = omega arith in
    let here : is_held regions at ≡ true = subst (λ a. is_held regions a ≡ true) at_0 (held 0 (omega arith)) in
    let there' : to ≡ (at + 4) + 4 * count = omega (arith, there) in
    let rest : AreHeld regions (at + 4) count = λ i lt. (let moved : at + 4 * suc i ≡ (at + 4) + 4 * i = omega arith in subst (λ a. is_held regions a ≡ true) moved (held (suc i) (omega (arith, lt)))) in
    ap (λ m. are_words_in regions at m) opened
    ∙ ap (λ b. b && are_words_in regions (at + 4) (count + left)) here
    ∙ passed regions count (at + 4) (count + left) to left rest there' refl

-- as many words as that lie in regions
pub all_words : (regions : List RegionJob) (count at n : ℕ) → AreHeld regions at count → n ≤ count → are_words_in regions at n ≡ true
all_words regions count at n held le = passed regions n at n (at + 4 * n) 0 (λ i lt. held i (omega (arith, lt, le))) refl (omega arith)
