-- Values that are made of items one after another.
use Rattle.std.proofs.Common.{◌≡◌, ◌<◌, ◌+◌, suc, ℕ, List, [], ◌∷◌, ◌++◌, length, drop, get_or, map, sym, ap, ◌∙◌, refl, append_assoc, add-one}
use Rattle.std.proofs.Math.Seq.{drop-cons}
use Rattle.serde_json.specs.Data.{Data}
use Rattle.serde_json.specs.View.{view}
use Rattle.serde_json.specs.declared.value.Value.{Value}

-- what is left begins with the item at the place
left_at : {X : Type 0} (xs : List X) (i : ℕ) (x : X) → i < length xs → x ≡ get_or xs i x → drop i xs ≡ x ∷ drop (i + 1) xs
left_at xs i x inside at = drop-cons xs i x inside ∙ (ap (λ y. y ∷ drop (suc i) xs) (sym at) ∙ ap (λ n. x ∷ drop n xs) (sym (add-one i)))

view_more : (vs : List Value) (v : Value) → map view (vs ++ v ∷ []) ≡ map view vs ++ (view v ∷ [])
view_more [] v = refl
view_more (w ∷ ws) v = ap (λ rest. view w ∷ rest) (view_more ws v)

-- one value more
pub row_more : {X : Type 0} (f : X → Data) (vs : List Value) (v : Value) (xs : List X) (i : ℕ) (x : X) → i < length xs → x ≡ get_or xs i x → map view vs ++ map f (drop i xs) ≡ map f xs → view v ≡ f x
    → map view (vs ++ v ∷ []) ++ map f (drop (i + 1) xs) ≡ map f xs
row_more f vs v xs i x inside at so_far is =
    ap (λ front. front ++ map f (drop (i + 1) xs)) (view_more vs v)
    ∙ (append_assoc (map view vs) (view v ∷ []) (map f (drop (i + 1) xs))
    ∙ (ap (λ d. map view vs ++ (d ∷ map f (drop (i + 1) xs))) is
    ∙ (ap (λ rest. map view vs ++ map f rest) (sym (left_at xs i x inside at)) ∙ so_far)))
