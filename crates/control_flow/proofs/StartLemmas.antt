-- What a run starts with.
use Rattle.std.proofs.Common.{◌≡◌, ◌<◌, ℕ, zero, suc, ◌+◌, true, false, cond, List, [], ◌∷◌, ◌++◌, map, take, length, get_or, slice_get, Option, Some, refl, sym, ap, subst, ◌∙◌, arith, bytes_eq}
use Rattle.std.proofs.lemmas.List.{map-append, take_more}
use Rattle.function_table.specs.Variables.{names_of_predefined}
use Rattle.sequence_trees.specs.Trees.{SetTrees}
use Rattle.target_machine.specs.declared.unit.Variable.{Variable}
use Rattle.sequence_rules.proofs.StartLemmas.{new_name}
use Rattle.sequence_rules.specs.declared.bindings.Binding.{Binding}
use Rattle.target_calls.specs.NeedPoints.{Costs, nothing_asked}
use Rattle.target_calls.specs.Values.{number_of, IsAsked}
use Rattle.target_calls.specs.World.{World}
use Rattle.target_calls.specs.declared.calls.Ask.{Ask}
use Rattle.target_calls.specs.declared.calls.Value.{Value}
use Rattle.target_calls.specs.declared.calls.Value.TheVariants.{Number}
use Rattle.sequence_rules.specs.Late.{Late, late, late_of}
use Rattle.sequence_rules.specs.Machine.{State}
use Rattle.sequence_rules.specs.Runs as runs
use Rattle.sequence_rules.specs.Steps.{declared_names, start_state}
use Rattle.sequence_rules.specs.Variables.{bound_variable, has_in, with_new, with_all_new}
use Rattle.sequence_rules.specs.Runs.{variables_of}
use Rattle.control_flow.specs.Closing.{bindings_as_values, numbers_in, AreAsked}

-- ---- the predefined variables have names of their own

has_value : (bs : List (Binding ℕ)) (n : List ℕ) → has_in (bindings_as_values bs) n ≡ has_in bs n
has_value [] n = refl
has_value (b ∷ bs) n = ap (λ x. cond (bytes_eq n b.name) true x) (has_value bs n)

-- one more of them
pub start_more : (vs : List Variable) (i : ℕ) (d v : Variable) (old new : List (Binding Value)) → map (λ v. v.name) vs ≡ names_of_predefined → i < length vs → v ≡ get_or vs i d → old ≡ bindings_as_values (variables_of (take i vs)) → new ≡ with_new old v.name (Number v.value)
    → new ≡ bindings_as_values (variables_of (take (i + 1) vs))
start_more vs i d v old new same h is was add =
    let fresh : has_in old v.name ≡ false = ap (λ bs. has_in bs v.name) was ∙ ap (λ x. has_in (bindings_as_values (variables_of (take i vs))) x.name) is ∙ has_value (variables_of (take i vs)) (get_or vs i d).name ∙ new_name vs i d same h in
    add ∙ ap (λ b. cond b old (old ++ bound_variable v.name (Number v.value) ∷ [])) fresh ∙ ap (λ bs. bs ++ bound_variable v.name (Number v.value) ∷ []) was
    ∙ ap (λ x. bindings_as_values (variables_of (take i vs)) ++ bound_variable x.name (Number x.value) ∷ []) is
    ∙ sym (ap (λ l. bindings_as_values (variables_of l)) (take_more vs i d h)
    ∙ ap bindings_as_values (map-append (λ (x : Variable). record { name = x.name; value = x.value }) (take i vs) (get_or vs i d ∷ []))
    ∙ map-append (λ (b : Binding ℕ). record { name = b.name; value = Number b.value }) (variables_of (take i vs)) (bound_variable (get_or vs i d).name (get_or vs i d).value ∷ []))

-- ---- the variables of an answer

module _ (w : World) (calls : List Ask) where
  one_more : (cs : List (Binding Value)) (j : ℕ) (y : Binding Value) → Some y ≡ slice_get cs j → numbers_in w calls (take (suc j) cs) ≡ numbers_in w calls (take j cs) ++ bound_variable y.name (number_of w calls y.value) ∷ []
  one_more [] j y h = absurd cc
  one_more (z ∷ cs) zero y h = (let same : y ≡ z = cc in ap (λ k. bound_variable k.name (number_of w calls k.value) ∷ []) (sym same))
  one_more (z ∷ cs) (suc j) y h = ap (λ r. bound_variable z.name (number_of w calls z.value) ∷ r) (one_more cs j y h)

  pub variables_more : (bs : List (Binding Value)) (i n : ℕ) (x : Binding Value) (old new : List Variable) (v : Variable) → Some x ≡ slice_get bs i → v.name ≡ x.name → v.value ≡ n → n ≡ number_of w calls x.value → new ≡ old ++ v ∷ []
      → variables_of old ≡ numbers_in w calls (take i bs) → variables_of new ≡ numbers_in w calls (take (i + 1) bs)
  variables_more bs i n x old new v at hn hv value add was =
      ap variables_of add ∙ map-append (λ (y : Variable). record { name = y.name; value = y.value }) old (v ∷ []) ∙ ap (λ l. l ++ bound_variable v.name v.value ∷ []) was
      ∙ ap (λ k. numbers_in w calls (take i bs) ++ bound_variable k v.value ∷ []) hn ∙ ap (λ k. numbers_in w calls (take i bs) ++ bound_variable x.name k ∷ []) (hv ∙ value) ∙ sym (ap (λ k. numbers_in w calls (take k bs)) next ∙ one_more bs i x at)
    where
      next : i + 1 ≡ suc i
      next = omega arith

-- a value in a list of values that were asked
pub asked_at : (calls : ℕ) (bs : List (Binding Value)) (i : ℕ) (x : Binding Value) → AreAsked calls bs → Some x ≡ slice_get bs i → IsAsked calls x.value
asked_at calls [] i x all h = absurd cc
asked_at calls (b ∷ bs) zero x all h = let same : x ≡ b = cc in subst (λ k. IsAsked calls k.value) (sym same) all.0
asked_at calls (b ∷ bs) (suc i) x all h = asked_at calls bs i x all.1 h

-- ---- the state at the start

same_start : (cost : Costs) (w : World) (set : SetTrees) (bs : List (Binding ℕ)) → with_all_new (bindings_as_values bs) (declared_names set.debugvars) (Number 0) ≡ with_all_new (runs.as_values (late cost w) bs) (declared_names set.debugvars) ((late cost w).number 0)
unfolding late
same_start cost w set bs = refl

pub start_is : (cost : Costs) (w : World) (turn_us : ℕ) (set : SetTrees) (bs : List (Binding ℕ)) (gs : List (Binding Value)) (written : Option (List ℕ)) → gs ≡ with_all_new (bindings_as_values bs) (declared_names set.debugvars) (Number 0)
    → record { globals = gs; locals = []; units = 0; lines = 0; steps = 0; rest = late_of nothing_asked written } ≡ start_state (late cost w) turn_us set (runs.as_values (late cost w) bs) (late_of nothing_asked written)
start_is cost w turn_us set bs gs written h =
    ap (λ k. at k) (h ∙ same_start cost w set bs)
  where
    at : List (Binding Value) → State Value Late
    at k = record { globals = k; locals = []; units = 0; lines = 0; steps = 0; rest = late_of nothing_asked written }
