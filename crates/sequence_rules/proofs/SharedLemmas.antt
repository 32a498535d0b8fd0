-- Variables that all sequences share, and the values of some of them beside them.
use Rattle.std.proofs.Common.{◌≡◌, ◌∙◌, ℕ, Bool, true, false, cond, bytes_eq, List, [], ◌∷◌, Some, unwrap_or, refl, sym, ap, true≢false}
use Rattle.std.proofs.lemmas.Slice.Eq.{bytes_eq-Decides}
use Rattle.sequence_rules.specs.declared.bindings.Binding.{Binding}
use Rattle.sequence_rules.specs.Variables.{bound_variable, set_in, value_named}

-- a variable of another name keeps its value
pub elsewhere : {V : Type 0} (bs : List (Binding V)) (n m : List ℕ) (v : V) → bytes_eq n m ≡ false → value_named (set_in bs n v) m ≡ value_named bs m
elsewhere [] n m v h = refl
elsewhere {V} (b ∷ bs) n m v h = by_names (bytes_eq n b.name) (bytes_eq m b.name) refl refl (elsewhere bs n m v h)
  where
    not_here : bytes_eq n b.name ≡ true → bytes_eq m b.name ≡ true → true ≡ false
    not_here x y = sym ((bytes_eq-Decides n m).1 ((bytes_eq-Decides n b.name).0 x ∙ sym ((bytes_eq-Decides m b.name).0 y))) ∙ h

    by_names : (x y : Bool) → bytes_eq n b.name ≡ x → bytes_eq m b.name ≡ y → value_named (set_in bs n v) m ≡ value_named bs m → value_named (cond x (bound_variable b.name v ∷ bs) (b ∷ set_in bs n v)) m ≡ cond y (Some b.value) (value_named bs m)
    by_names true true e f rest = absurd (true≢false (not_here e f))
    by_names true false e f rest = ap (λ k. cond k (Some v) (value_named bs m)) f
    by_names false true e f rest = ap (λ k. cond k (Some b.value) (value_named (set_in bs n v) m)) f
    by_names false false e f rest = ap (λ k. cond k (Some b.value) (value_named (set_in bs n v) m)) f ∙ rest

-- a variable that is given the value that it has
pub set_same : {V : Type 0} (bs : List (Binding V)) (n : List ℕ) (v d : V) → v ≡ unwrap_or (value_named bs n) d → set_in bs n v ≡ bs
set_same [] n v d h = refl
set_same {V} (b ∷ bs) n v d h = by_name (bytes_eq n b.name) h (λ e. set_same bs n v d e)
  where
    by_name : (x : Bool) → v ≡ unwrap_or (cond x (Some b.value) (value_named bs n)) d → (v ≡ unwrap_or (value_named bs n) d → set_in bs n v ≡ bs) → cond x (bound_variable b.name v ∷ bs) (b ∷ set_in bs n v) ≡ b ∷ bs
    by_name true e rest = ap (λ u. bound_variable b.name u ∷ bs) e
    by_name false e rest = ap (λ k. b ∷ k) (rest e)
