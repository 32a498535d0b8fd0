-- The variables that a run answers.
use Rattle.std.proofs.Common.{◌≡◌, ◌≤◌, ℕ, zero, suc, ◌+◌, List, [], ◌∷◌, ◌++◌, take, length, slice_get, Some, refl, sym, ap, ◌∙◌, arith}
use Rattle.std.proofs.lemmas.List.{map-append}
use Rattle.target_machine.specs.declared.unit.Variable.{Variable}
use Rattle.sequence_rules.specs.declared.bindings.Binding.{Binding}
use Rattle.sequence_rules.specs.Runs.{variables_of}
use Rattle.sequence_rules.specs.Variables.{bound_variable}

pub answered_more : (bs : List (Binding ℕ)) (i : ℕ) (x : Binding ℕ) (old new : List Variable) (v : Variable) → Some x ≡ slice_get bs i → v.name ≡ x.name → v.value ≡ x.value → new ≡ old ++ v ∷ [] → variables_of old ≡ take i bs
    → variables_of new ≡ take (i + 1) bs
answered_more bs i x old new v at hn hv add was =
    ap variables_of add ∙ map-append (λ (y : Variable). record { name = y.name; value = y.value }) old (v ∷ []) ∙ ap (λ l. l ++ bound_variable v.name v.value ∷ []) was
    ∙ ap (λ n. take i bs ++ bound_variable n v.value ∷ []) hn ∙ ap (λ n. take i bs ++ bound_variable x.name n ∷ []) hv ∙ sym (ap (λ k. take k bs) next ∙ one_more bs i x at)
  where
    next : i + 1 ≡ suc i
    next = omega arith

    one_more : (cs : List (Binding ℕ)) (j : ℕ) (y : Binding ℕ) → Some y ≡ slice_get cs j → take (suc j) cs ≡ take j cs ++ y ∷ []
    one_more [] j y h = absurd cc
    one_more (z ∷ cs) zero y h = (let same : y ≡ z = cc in ap (λ k. k ∷ []) (sym same))
    one_more (z ∷ cs) (suc j) y h = ap (λ r. z ∷ r) (one_more cs j y h)

pub answered_all : (bs : List (Binding ℕ)) (i : ℕ) (vs : List Variable) → variables_of vs ≡ take i bs → i ≤ length bs → length bs ≤ i → variables_of vs ≡ bs
answered_all bs i vs same h k = same ∙ all bs i k
  where
    all : (cs : List (Binding ℕ)) (j : ℕ) → length cs ≤ j → take j cs ≡ cs
    all [] zero q = refl
    all [] (suc j) q = refl
    all (z ∷ cs) zero q = absurd (omega arith)
    all (z ∷ cs) (suc j) q = ap (λ r. z ∷ r) (all cs j (omega arith))
