-- The keys of items that were seen.
use Rattle.std.proofs.Common.{◌≡◌, Bool, true, false, ◌||◌, List, [], ◌∷◌, ◌++◌, refl, ap, ◌∙◌, if◌then◌else◌}
use Rattle.std.specs.List.{list_any}

pub list_any-append : {A : Type 0} (p : A → Bool) (xs : List A) (x : A) → list_any p (xs ++ x ∷ []) ≡ (if p x then true else list_any p xs)
list_any-append p [] x = last (p x) where
  last : (b : Bool) → b || false ≡ (if b then true else false)
  last true = refl
  last false = refl
list_any-append p (y ∷ xs) x = ap (λ b. p y || b) (list_any-append p xs x) ∙ turned (p y) (p x) (list_any p xs) where
  turned : (a b c : Bool) → a || (if b then true else c) ≡ (if b then true else a || c)
  turned true true c = refl
  turned true false c = refl
  turned false b c = refl

pub ruleset seeing = (list_any-append)
