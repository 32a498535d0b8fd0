-- Lines of a list after a first line.
use Rattle.std.proofs.Common.{◌≡◌, ℕ, List, [], ◌∷◌, ◌++◌, Option, Result, map, ap, refl}
use Rattle.std.specs.Io.KnownBytes.{Appends}
use Rattle.std.specs.List.{flat_map}
use Rattle.dap_base.specs.Streams.{AppendsPrefix, PutAppends}
use Rattle.text_lines.proofs.PutLemmas.{prefix_first, put_after}

-- the lines of a list, joined
pub lines_joined : {X : Type 0} (g : X → List ℕ) (xs : List X) → flat_map (λ (line : List ℕ). line) (map g xs) ≡ flat_map g xs
lines_joined g [] = refl
lines_joined g (x ∷ xs) = ap (λ rest. g x ++ rest) (lines_joined g xs)

-- a first line, and then the others or a part of them
pub others_after : {X E : Type 0} (a b c : Option (List ℕ)) (r : Result (Unit {0}) E) (head : List ℕ) (g : X → List ℕ) (xs : List X) → Appends a b head → PutAppends b c r (flat_map g xs) → PutAppends a c r (flat_map (λ (line : List ℕ). line) (head ∷ map g xs))
others_after a b c r head g xs first second = rw (lines_joined g xs) (put_after a b c r head (flat_map g xs) first second)

-- a part of the first line
pub head_cut : {X : Type 0} (a b : Option (List ℕ)) (head : List ℕ) (g : X → List ℕ) (xs : List X) → AppendsPrefix a b head → AppendsPrefix a b (flat_map (λ (line : List ℕ). line) (head ∷ map g xs))
head_cut a b head g xs first = rw (lines_joined g xs) (prefix_first a b head (flat_map g xs) first)
