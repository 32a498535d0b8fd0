-- Facts of tests, of lists and of texts that the standard library has under no name.
use Rattle.std.proofs.Common.{◌≡◌, ℕ, Bool, true, false, ◌&&◌, ◌||◌, nat_lt, List, [], ◌∷◌, length, drop, map, Contains, slice_index_or, zero, suc, ◌<◌, Some, None, Result, Ok, bytes_eq, refl, sym, ap, arith, Option}
use Rattle.std.proofs.lemmas.Bool.{and_parts, both_ways, false_from_ne_true, le-ltb}
use Rattle.std.proofs.lemmas.Slice.Eq.{bytes_eq-Decides}
use Rattle.std.proofs.Math.Bool.{or-false, or-true}
use Rattle.dap_base.specs.Causes.{IsQuiet, Rose}

-- ---- tests

pub first_true : (x y : Bool) → (x && y) ≡ true → x ≡ true
first_true x y e = (and_parts x y e).0

pub second_true : (x y : Bool) → (x && y) ≡ true → y ≡ true
second_true x y e = (and_parts x y e).1

pub or_none : (x : Bool) → x ≡ (x || false)
or_none x = sym (or-false x)

pub or_any : (x : Bool) → true ≡ (x || true)
or_any x = sym (or-true x)

-- a test that follows from another one may stand for it
pub or_weaker : (x y z : Bool) → (y ≡ true → z ≡ true) → (x || y) ≡ true → (x || z) ≡ true
or_weaker true y z h e = refl
or_weaker false y z h e = h e

pub lt_itself : (n : ℕ) → nat_lt n n ≡ false
lt_itself n = le-ltb n n (omega arith)

-- ---- lists

pub no_items : (xs : List ℕ) → length xs ≡ 0 → xs ≡ []
no_items [] e = refl
no_items (x ∷ xs) e = absurd (omega arith)

pub first_is : (x y : List ℕ) (xs ys : List (List ℕ)) → x ∷ xs ≡ y ∷ ys → (x ≡ y) × (xs ≡ ys)
first_is x y xs ys e = (ap (head_or x) e, ap (drop 1) e)
  where
    head_or : List ℕ → List (List ℕ) → List ℕ
    head_or d [] = d
    head_or d (z ∷ zs) = z

pub contains_at : {X Y : Type 0} (f : X → Y) (xs : List X) (x : X) (k : ℕ) → k < length xs → slice_index_or xs k x ≡ x → Contains (map f xs) (f x)
contains_at f [] x k lt is = absurd (omega arith)
contains_at f (y ∷ xs) x zero lt is = (0, omega arith, ap f is)
contains_at f (y ∷ xs) x (suc k) lt is = let r = contains_at f xs x k (omega arith) is in (suc r.0, omega (arith, r.1), r.2)

pub contains_map : {X Y : Type 0} (f : X → Y) (xs : List X) (x : X) → Contains xs x → Contains (map f xs) (f x)
contains_map f xs x k = contains_at f xs x k.0 k.1 k.2

pub same_Ok : {A E : Type 0} (x y : A) → ◌≡◌ {A = Result A E} (Ok x) (Ok y) → x ≡ y
same_Ok x y e = cc

pub some_none : {A : Type 0} (x : A) → Some x ≡ None → ⊥
some_none x e = cc

-- ---- texts

pub text_itself : (xs : List ℕ) → bytes_eq xs xs ≡ true
text_itself xs = (bytes_eq-Decides xs xs).1 refl

pub same_text : (xs ys : List ℕ) → bytes_eq xs ys ≡ true → xs ≡ ys
same_text xs ys e = (bytes_eq-Decides xs ys).0 e

pub other_text : (xs ys : List ℕ) → bytes_eq xs ys ≡ false → bytes_eq ys xs ≡ false
other_text xs ys e = false_from_ne_true (bytes_eq ys xs) (λ is. both_ways (bytes_eq xs ys) e ((bytes_eq-Decides xs ys).1 (sym (same_text ys xs is))))

-- ---- counts of faults

pub not_rose : (a b : ℕ) → IsQuiet a b → Rose a b → ⊥
not_rose a b quiet rose = let same = quiet.same in let below = quiet.below in omega (arith, same, below, rose)
