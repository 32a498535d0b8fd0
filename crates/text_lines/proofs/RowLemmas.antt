-- Lines that are put in a row.
use Rattle.std.proofs.Common.{◌≡◌, ◌+◌, ◌<◌, ℕ, zero, suc, List, [], ◌∷◌, ◌++◌, Option, Some, Err, length, take, drop, slice_get, get_or, ap, subst, refl, sym, ◌∙◌, arith, append-nil}
use Rattle.std.proofs.lemmas.Grind.{flat_map-append}
use Rattle.std.proofs.lemmas.List.{take-append-drop}
use Rattle.std.specs.Io.KnownBytes.{Appends}
use Rattle.std.proofs.KnownBytes.{Appends-trans}
use Rattle.std.specs.List.{flat_map}
use Rattle.dap_base.specs.Streams.{AppendsPrefix}
use Rattle.text_lines.proofs.PutLemmas.{prefix_first, put_after}

-- the first items and the one after them
pub take-at : {X : Type 0} (xs : List X) (i : ℕ) (x : X) → slice_get xs i ≡ Some x → take (i + 1) xs ≡ take i xs ++ x ∷ []
take-at [] zero x at = cc
take-at [] (suc i) x at = cc
take-at (y ∷ ys) zero x at = let same : y ≡ x = cc in rw same refl
take-at (y ∷ ys) (suc i) x at =
    let more : suc i + 1 ≡ suc (i + 1) = omega arith in
    rw more (ap (λ zs. y ∷ zs) (take-at ys i x at))

-- the item at a place within
pub slice_get-in : {X : Type 0} (xs : List X) (i : ℕ) (d : X) → i < length xs → slice_get xs i ≡ Some (get_or xs i d)
slice_get-in [] i d inside = let no : ⊥ = omega arith in absurd no
slice_get-in (x ∷ xs) zero d inside = refl
slice_get-in (x ∷ xs) (suc i) d inside = slice_get-in xs i d (omega arith)

pub item_at : {X : Type 0} (xs : List X) (i : ℕ) (x : X) → i < length xs → x ≡ get_or xs i x → slice_get xs i ≡ Some x
item_at xs i x inside at = slice_get-in xs i x inside ∙ ap (λ y. Some y) (sym at)

-- one row more
pub row_more : {X : Type 0} (a b c : Option (List ℕ)) (g : X → List ℕ) (xs : List X) (i : ℕ) (x : X) → slice_get xs i ≡ Some x → Appends a b (flat_map g (take i xs)) → Appends b c (g x) → Appends a c (flat_map g (take (i + 1) xs))
row_more a b c g xs i x at first second =
    rw (take-at xs i x at, flat_map-append g (take i xs) (x ∷ []), append-nil (g x)) (Appends-trans a b c (flat_map g (take i xs)) (g x) first second)

-- the rows before one, and a part of it
pub row_cut : {X : Type 0} (a b c : Option (List ℕ)) (g : X → List ℕ) (xs : List X) (i : ℕ) (x : X) → slice_get xs i ≡ Some x → Appends a b (flat_map g (take i xs)) → AppendsPrefix b c (g x) → AppendsPrefix a c (flat_map g xs)
row_cut a b c g xs i x at first second =
    let so_far : AppendsPrefix a c (flat_map g (take (i + 1) xs)) =
    rw (take-at xs i x at, flat_map-append g (take i xs) (x ∷ []), append-nil (g x)) (put_after {E = Unit {0}} a b c (Err tt) (flat_map g (take i xs)) (g x) first second) in
    subst (λ ys. AppendsPrefix a c (flat_map g ys)) (take-append-drop (i + 1) xs)
    (rw (flat_map-append g (take (i + 1) xs) (drop (i + 1) xs)) (prefix_first a c (flat_map g (take (i + 1) xs)) (flat_map g (drop (i + 1) xs)) so_far))
