-- The variables of a sequence, of which each part is a list of its own.
use Rattle.std.proofs.Common.{◌≡◌, ◌∙◌, ◌+◌, ◌-◌, ◌||◌, ℕ, zero, suc, Bool, true, false, cond, List, [], ◌∷◌, ◌++◌, length, take, bytes_eq, Option, None, Some, refl, sym, ap, arith}
use Rattle.std.proofs.lemmas.List.{length-append}
use Rattle.std.specs.Option.{option_or}
use Rattle.std.proofs.Math.Bool.{or-true, or-false}
use Rattle.sequence_rules.specs.declared.bindings.Binding.{Binding}
use Rattle.sequence_rules.specs.Variables.{bound_variable, has_in, newest_in, set_newest}
use Rattle.sequence_rules.proofs.VariableLemmas.{set_newest_none}

or_none : {X : Type 0} (o : Option X) → option_or o None ≡ o
or_none None = refl
or_none (Some x) = refl

or_or : {X : Type 0} (o p q : Option X) → option_or (option_or o p) q ≡ option_or o (option_or p q)
or_or None p q = refl
or_or (Some x) p q = refl

more_of : (p b c : Bool) → cond p true (b || c) ≡ (cond p true b || c)
more_of true b c = refl
more_of false b c = refl

module _ {V : Type 0} where
  pub has_both : (xs ys : List (Binding V)) (n : List ℕ) → has_in (xs ++ ys) n ≡ (has_in xs n || has_in ys n)
  has_both [] ys n = refl
  has_both (x ∷ xs) ys n = ap (λ b. cond (bytes_eq n x.name) true b) (has_both xs ys n) ∙ more_of (bytes_eq n x.name) (has_in xs n) (has_in ys n)

  pub newest_both : (xs ys : List (Binding V)) (n : List ℕ) → newest_in (xs ++ ys) n ≡ option_or (newest_in ys n) (newest_in xs n)
  newest_both [] ys n = sym (or_none (newest_in ys n))
  newest_both (x ∷ xs) ys n =
      ap (λ o. option_or o (cond (bytes_eq n x.name) (Some x.value) None)) (newest_both xs ys n)
      ∙ or_or (newest_in ys n) (newest_in xs n) (cond (bytes_eq n x.name) (Some x.value) None)

  -- where a later one has the name
  pub set_later : (xs ys : List (Binding V)) (n : List ℕ) (v : V) → has_in ys n ≡ true → set_newest (xs ++ ys) n v ≡ xs ++ set_newest ys n v
  set_later [] ys n v h = refl
  set_later (x ∷ xs) ys n v h =
      let there : has_in (xs ++ ys) n ≡ true = has_both xs ys n ∙ ap (λ b. has_in xs n || b) h ∙ or-true (has_in xs n) in
      rw there (ap (λ zs. x ∷ zs) (set_later xs ys n v h))

  -- where none of the later ones has it
  pub set_earlier : (xs ys : List (Binding V)) (n : List ℕ) (v : V) → has_in ys n ≡ false → set_newest (xs ++ ys) n v ≡ set_newest xs n v ++ ys
  set_earlier [] ys n v h = set_newest_none ys n v h
  set_earlier (x ∷ xs) ys n v h =
      let same : has_in (xs ++ ys) n ≡ has_in xs n = has_both xs ys n ∙ ap (λ b. has_in xs n || b) h ∙ or-false (has_in xs n) in
      rw same (one (has_in xs n) (bytes_eq n x.name) (set_earlier xs ys n v h))
    where
      one : (p q : Bool) → set_newest (xs ++ ys) n v ≡ set_newest xs n v ++ ys
          → cond p (x ∷ set_newest (xs ++ ys) n v) (cond q (bound_variable x.name v ∷ xs ++ ys) (x ∷ xs ++ ys)) ≡ cond p (x ∷ set_newest xs n v) (cond q (bound_variable x.name v ∷ xs) (x ∷ xs)) ++ ys
      one true q k = ap (λ zs. x ∷ zs) k
      one false true k = refl
      one false false k = refl

  -- ---- of three parts

  pub newest_of_last : (a b c : List (Binding V)) (n : List ℕ) (v : V) → Some v ≡ newest_in c n → Some v ≡ newest_in (a ++ b ++ c) n
  newest_of_last a b c n v h = sym (newest_both (a ++ b) c n ∙ ap (λ o. option_or o (newest_in (a ++ b) n)) (sym h))

  pub newest_of_middle : (a b c : List (Binding V)) (n : List ℕ) (v : V) → None ≡ newest_in c n → Some v ≡ newest_in b n → Some v ≡ newest_in (a ++ b ++ c) n
  newest_of_middle a b c n v none h =
      sym (newest_both (a ++ b) c n ∙ ap (λ o. option_or o (newest_in (a ++ b) n)) (sym none) ∙ newest_both a b n ∙ ap (λ o. option_or o (newest_in a n)) (sym h))

  pub newest_of_first : (a b c : List (Binding V)) (n : List ℕ) (o : Option V) → None ≡ newest_in c n → None ≡ newest_in b n → o ≡ newest_in a n → o ≡ newest_in (a ++ b ++ c) n
  newest_of_first a b c n o none none_before h =
      h ∙ sym (newest_both (a ++ b) c n ∙ ap (λ p. option_or p (newest_in (a ++ b) n)) (sym none) ∙ newest_both a b n ∙ ap (λ p. option_or p (newest_in a n)) (sym none_before))

  pub has_last : (a b c : List (Binding V)) (n : List ℕ) → has_in c n ≡ true → has_in (a ++ b ++ c) n ≡ true
  has_last a b c n h = has_both (a ++ b) c n ∙ ap (λ p. has_in (a ++ b) n || p) h ∙ or-true (has_in (a ++ b) n)

  pub has_middle : (a b c : List (Binding V)) (n : List ℕ) → has_in b n ≡ true → has_in (a ++ b ++ c) n ≡ true
  has_middle a b c n h = has_both (a ++ b) c n ∙ ap (λ p. p || has_in c n) (has_both a b n ∙ ap (λ p. has_in a n || p) h ∙ or-true (has_in a n))

  pub has_first : (a b c : List (Binding V)) (n : List ℕ) → has_in c n ≡ false → has_in b n ≡ false → has_in (a ++ b ++ c) n ≡ has_in a n
  has_first a b c n none none_before =
      has_both (a ++ b) c n ∙ ap (λ p. has_in (a ++ b) n || p) none ∙ or-false (has_in (a ++ b) n)
      ∙ has_both a b n ∙ ap (λ p. has_in a n || p) none_before ∙ or-false (has_in a n)

  pub set_last : (a b c : List (Binding V)) (n : List ℕ) (v : V) → has_in c n ≡ true → a ++ b ++ set_newest c n v ≡ set_newest (a ++ b ++ c) n v
  set_last a b c n v h = sym (set_later (a ++ b) c n v h)

  set_middle : (a b c : List (Binding V)) (n : List ℕ) (v : V) → has_in c n ≡ false → has_in b n ≡ true → a ++ set_newest b n v ++ c ≡ set_newest (a ++ b ++ c) n v
  set_middle a b c n v none h = sym (set_earlier (a ++ b) c n v none ∙ ap (λ zs. zs ++ c) (set_later a b n v h))

  set_first : (a b c : List (Binding V)) (n : List ℕ) (v : V) → has_in c n ≡ false → has_in b n ≡ false → set_newest a n v ++ b ++ c ≡ set_newest (a ++ b ++ c) n v
  set_first a b c n v none none_before = sym (set_earlier (a ++ b) c n v none ∙ ap (λ zs. zs ++ c) (set_earlier a b n v none_before))

  -- the same, where the later parts were gone through first
  pub set_middle_after : (a b c b' c' : List (Binding V)) (n : List ℕ) (v : V) → has_in c n ≡ false → c' ≡ set_newest c n v → has_in b n ≡ true → b' ≡ set_newest b n v
      → a ++ b' ++ c' ≡ set_newest (a ++ b ++ c) n v
  set_middle_after a b c b' c' n v none is h is_set =
      ap (λ zs. a ++ b' ++ zs) (is ∙ set_newest_none c n v none) ∙ ap (λ zs. a ++ zs ++ c) is_set ∙ set_middle a b c n v none h

  pub set_first_after : (a b c a' b' c' : List (Binding V)) (n : List ℕ) (v : V) → has_in c n ≡ false → c' ≡ set_newest c n v → has_in b n ≡ false → b' ≡ set_newest b n v → a' ≡ set_newest a n v
      → a' ++ b' ++ c' ≡ set_newest (a ++ b ++ c) n v
  set_first_after a b c a' b' c' n v none is none_before is_before is_set =
      ap (λ zs. a' ++ b' ++ zs) (is ∙ set_newest_none c n v none) ∙ ap (λ zs. a' ++ zs ++ c) (is_before ∙ set_newest_none b n v none_before)
      ∙ ap (λ zs. zs ++ b ++ c) is_set ∙ set_first a b c n v none none_before

  pub set_length : (xs : List (Binding V)) (n : List ℕ) (v : V) → length (set_newest xs n v) ≡ length xs
  set_length [] n v = refl
  set_length (x ∷ xs) n v = one (has_in xs n) (bytes_eq n x.name) (set_length xs n v)
    where
      one : (p q : Bool) → length (set_newest xs n v) ≡ length xs → length (cond p (x ∷ set_newest xs n v) (cond q (bound_variable x.name v ∷ xs) (x ∷ xs))) ≡ suc (length xs)
      one true q k = ap suc k
      one false true k = refl
      one false false k = refl

-- ---- the first ones

take_none : {X : Type 0} (n : ℕ) → take {A = X} n [] ≡ []
take_none zero = refl
take_none (suc n) = refl

take_both : {X : Type 0} (n : ℕ) (xs ys : List X) → take n (xs ++ ys) ≡ take n xs ++ take (n - length xs) ys
take_both {X} n [] ys = (let same : n - 0 ≡ n = omega arith in rw (take_none {X = X} n) (rw same refl))
take_both zero (x ∷ xs) ys = (let none : 0 - suc (length xs) ≡ 0 = omega arith in rw none refl)
take_both (suc n) (x ∷ xs) ys = (let less : suc n - suc (length xs) ≡ n - length xs = omega arith in rw less (ap (λ zs. x ∷ zs) (take_both n xs ys)))

pub take_three : {X : Type 0} (n : ℕ) (a b c : List X) → take n a ++ take (n - length a) b ++ take (n - length a - length b) c ≡ take n (a ++ b ++ c)
take_three n a b c =
    let left : n - (length a + length b) ≡ n - length a - length b = omega arith in
    sym (take_both n (a ++ b) c
    ∙ ap (λ zs. zs ++ take (n - length (a ++ b)) c) (take_both n a b)
    ∙ ap (λ k. take n a ++ take (n - length a) b ++ take k c) (ap (λ k. n - k) (length-append a b) ∙ left))
