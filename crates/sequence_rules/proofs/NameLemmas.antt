-- The names of variables.
use Rattle.std.proofs.Common.{◌≡◌, ℕ, Bool, true, false, cond, ◌||◌, List, [], ◌∷◌, ◌++◌, length, take, bytes_eq, refl, ap, ◌∙◌}
use Rattle.expr_grammar.specs.Names.{has_name, with_name, with_names}
use Rattle.sequence_rules.specs.declared.bindings.Binding.{Binding}
use Rattle.sequence_rules.specs.Complete.{names_in}
use Rattle.sequence_rules.specs.Variables.{bound_variable, has_in, set_in, set_newest, with_new, with_all_new}

pub has_names : {V : Type 0} (bs : List (Binding V)) (name : List ℕ) → has_in bs name ≡ has_name (names_in bs) name
has_names [] name = refl
has_names (x ∷ bs) name = either (bytes_eq name x.name) (has_names bs name)
  where
    either : (p : Bool) → has_in bs name ≡ has_name (names_in bs) name → cond p true (has_in bs name) ≡ (p || has_name (names_in bs) name)
    either true e = refl
    either false e = e

pub set_names : {V : Type 0} (bs : List (Binding V)) (name : List ℕ) (v : V) → names_in (set_in bs name v) ≡ names_in bs
set_names [] name v = refl
set_names (x ∷ bs) name v = either (bytes_eq name x.name) (set_names bs name v)
  where
    either : (p : Bool) → names_in (set_in bs name v) ≡ names_in bs → names_in (cond p (bound_variable x.name v ∷ bs) (x ∷ set_in bs name v)) ≡ x.name ∷ names_in bs
    either true e = refl
    either false e = ap (λ ns. x.name ∷ ns) e

pub newest_names : {V : Type 0} (bs : List (Binding V)) (name : List ℕ) (v : V) → names_in (set_newest bs name v) ≡ names_in bs
newest_names [] name v = refl
newest_names (x ∷ bs) name v = either (has_in bs name) (bytes_eq name x.name) (newest_names bs name v)
  where
    either : (q p : Bool) → names_in (set_newest bs name v) ≡ names_in bs → names_in (cond q (x ∷ set_newest bs name v) (cond p (bound_variable x.name v ∷ bs) (x ∷ bs))) ≡ x.name ∷ names_in bs
    either true p e = ap (λ ns. x.name ∷ ns) e
    either false true e = refl
    either false false e = refl

pub last_names : {V : Type 0} (bs : List (Binding V)) (name : List ℕ) (v : V) → names_in (bs ++ bound_variable name v ∷ []) ≡ names_in bs ++ name ∷ []
last_names [] name v = refl
last_names (x ∷ bs) name v = ap (λ ns. x.name ∷ ns) (last_names bs name v)

pub front_names : {V : Type 0} (old bs : List (Binding V)) (more : List (List ℕ)) → names_in bs ≡ names_in old ++ more → names_in (take (length old) bs) ≡ names_in old
front_names [] bs more h = refl
front_names (x ∷ old) [] more h = absurd cc
front_names (x ∷ old) (y ∷ bs) more h = rw (ap (first_of []) h) (ap (λ ns. x.name ∷ ns) (front_names old bs more (ap rest_of_names h)))
  where
    first_of : List ℕ → List (List ℕ) → List ℕ
    first_of d [] = d
    first_of d (n ∷ ns) = n

    rest_of_names : List (List ℕ) → List (List ℕ)
    rest_of_names [] = []
    rest_of_names (n ∷ ns) = ns

pub new_names : {V : Type 0} (bs : List (Binding V)) (name : List ℕ) (v : V) → names_in (with_new bs name v) ≡ with_name (names_in bs) name
new_names bs name v = rw (has_names bs name) (either (has_name (names_in bs) name))
  where
    either : (p : Bool) → names_in (cond p bs (bs ++ bound_variable name v ∷ [])) ≡ cond p (names_in bs) (names_in bs ++ name ∷ [])
    either true = refl
    either false = last_names bs name v

pub all_new_names : {V : Type 0} (bs : List (Binding V)) (names : List (List ℕ)) (v : V) → names_in (with_all_new bs names v) ≡ with_names (names_in bs) names
all_new_names bs [] v = refl
all_new_names bs (name ∷ names) v = all_new_names (with_new bs name v) names v ∙ ap (λ ns. with_names ns names) (new_names bs name v)
