-- The variables of a table, as a list.
use Rattle.std.proofs.Common.{◌≡◌, ◌∙◌, ap, refl, sym, subst, true≢false, ℕ, zero, suc, slice_get, Bool, true, false, cond, List, [], ◌∷◌, ◌++◌, map, length, Option, None, Some, is_some, String, Global, bytes_eq, string_bytes, arith}
use Rattle.std.proofs.lemmas.List.{map-append}
use Rattle.std.proofs.lemmas.Slice.Eq.{bytes_eq-Decides}
use Rattle.std.specs.List.{AllByRecursion, IsDistinct}
use Rattle.std.specs.Map.{keys_of, lookup, set_value}
use Rattle.std.specs.Option.{option_or}
use Rattle.std.specs.String.{string_eq}
use Rattle.indexmap.specs.IndexMap.{IndexMap, insert_entry, set_value_at}
use Rattle.indexmap.proofs.CallerLemmas.{insert_entry-new}
use Rattle.sequence_rules.specs.Shared.{entry_binding}
use Rattle.sequence_rules.specs.Variables.{bound_variable, has_in, newest_in, value_named, set_in, set_newest, with_new}
use Rattle.sequence_rules.proofs.VariableLemmas.{newest_none, set_newest_none}

abbrev has_name : List ℕ → String Global → Bool
has_name name k = bytes_eq name (string_bytes k)

module _ {V : Type 0} (name : List ℕ) where
  pub value_found : (es : List (String Global × V)) → lookup (has_name name) es ≡ value_named (map entry_binding es) name
  value_found [] = refl
  value_found (e ∷ es) = ap (λ o. cond (has_name name e.0) (Some e.1) o) (value_found es)

  pub name_found : (es : List (String Global × V)) → is_some (lookup (has_name name) es) ≡ has_in (map entry_binding es) name
  name_found [] = refl
  name_found (e ∷ es) = some_of (has_name name e.0) (lookup (has_name name) es) ∙ ap (λ b. cond (has_name name e.0) true b) (name_found es)
    where
      some_of : (p : Bool) (o : Option V) → is_some (cond p (Some e.1) o) ≡ cond p true (is_some o)
      some_of true o = refl
      some_of false o = refl

  pub value_set : (es : List (String Global × V)) (v : V) → map entry_binding (set_value (has_name name) es v) ≡ set_in (map entry_binding es) name v
  value_set [] v = refl
  value_set (e ∷ es) v = either (has_name name e.0) (value_set es v)
    where
      either : (p : Bool) → map entry_binding (set_value (has_name name) es v) ≡ set_in (map entry_binding es) name v
          → map entry_binding (cond p ((e.0, v) ∷ es) (e ∷ set_value (has_name name) es v)) ≡ cond p (bound_variable (string_bytes e.0) v ∷ map entry_binding es) (entry_binding e ∷ set_in (map entry_binding es) name v)
      either true h = refl
      either false h = ap (λ bs. entry_binding e ∷ bs) h

  none_later : (p : Bool) (v : V) (o : Option V) → cond p (Some v) o ≡ None → (p ≡ false) × (o ≡ None)
  none_later true v o h = absurd cc
  none_later false v o h = (refl, h)

  pub none_set : (es : List (String Global × V)) (v : V) → lookup (has_name name) es ≡ None → map entry_binding es ≡ set_in (map entry_binding es) name v
  none_set [] v h = refl
  none_set (e ∷ es) v h =
      let q = none_later (has_name name e.0) e.1 (lookup (has_name name) es) h in
      rw q.0 (ap (λ bs. entry_binding e ∷ bs) (none_set es v q.1))

  none_found : (o : Option V) → is_some o ≡ false → o ≡ None
  none_found None h = refl
  none_found (Some x) h = absurd cc

  pub none_named : (es : List (String Global × V)) → has_in (map entry_binding es) name ≡ false → lookup (has_name name) es ≡ None
  none_named es h = none_found (lookup (has_name name) es) (name_found es ∙ h)

-- a variable of a new name goes last
pub added : {V S : Type 0} (m : IndexMap (String Global) V S) (k : String Global) (v : V) (name : List ℕ) → string_bytes k ≡ name → has_in (map entry_binding m.entries) name ≡ false
    → map entry_binding (insert_entry string_eq m.entries k v) ≡ with_new (map entry_binding m.entries) name v
added m k v name is new =
    let none : lookup (string_eq k) m.entries ≡ None = none_named (string_bytes k) m.entries (ap (has_in (map entry_binding m.entries)) is ∙ new) in
    rw new (ap (map entry_binding) (insert_entry-new string_eq m k v none) ∙ map-append entry_binding m.entries ((k, v) ∷ []) ∙ ap (λ n. map entry_binding m.entries ++ bound_variable n v ∷ []) is)

-- ---- a write by index

other_name : (name : List ℕ) (e k : String Global) → string_eq e k ≡ false → name ≡ string_bytes k → (b : Bool) → bytes_eq name (string_bytes e) ≡ b → b ≡ false
other_name name e k not is true h = absurd (true≢false (sym ((bytes_eq-Decides (string_bytes e) (string_bytes k)).1 (sym ((bytes_eq-Decides name (string_bytes e)).0 h) ∙ is)) ∙ not))
other_name name e k not is false h = refl

module _ {V : Type 0} where
  none_before : (es : List (String Global × V)) (first k : String Global) (i : ℕ) (w : V) → AllByRecursion (λ y. string_eq first y ≡ false) (keys_of es) → slice_get es i ≡ Some (k, w) → string_eq first k ≡ false
  none_before [] first k i w all at = absurd cc
  none_before (e ∷ es) first k zero w all at = (let same : e ≡ (k, w) = cc in subst (λ (p : String Global × V). string_eq first p.0 ≡ false) same all.0)
  none_before (e ∷ es) first k (suc i) w all at = none_before es first k i w all.1 at

  -- the variable at the index is the first of its name, since no two have one
  pub place_set : (name : List ℕ) (es : List (String Global × V)) (i : ℕ) (k : String Global) (w v : V) → IsDistinct string_eq (keys_of es) → slice_get es i ≡ Some (k, w) → string_bytes k ≡ name
      → map entry_binding (set_value_at es i v) ≡ set_in (map entry_binding es) name v
  unfolding IsDistinct
  place_set name [] i k w v unique at is = refl
  place_set name (e ∷ es) zero k w v unique at is =
      let same : e ≡ (k, w) = cc in
      let here : bytes_eq name (string_bytes e.0) ≡ true = (bytes_eq-Decides name (string_bytes e.0)).1 (sym is ∙ sym (ap (λ (p : String Global × V). string_bytes p.0) same)) in
      rw here refl
  place_set name (e ∷ es) (suc i) k w v unique at is =
      let not : bytes_eq name (string_bytes e.0) ≡ false = other_name name e.0 k (none_before es e.0 k i w unique.0 at) (sym is) (bytes_eq name (string_bytes e.0)) refl in
      rw not (ap (λ bs. entry_binding e ∷ bs) (place_set name es i k w v unique.1 at is))

  -- and it is there
  pub place_has : (name : List ℕ) (es : List (String Global × V)) (i : ℕ) (k : String Global) (w : V) → slice_get es i ≡ Some (k, w) → string_bytes k ≡ name → has_in (map entry_binding es) name ≡ true
  place_has name [] i k w at is = absurd cc
  place_has name (e ∷ es) zero k w at is =
      let same : e ≡ (k, w) = cc in
      let here : bytes_eq name (string_bytes e.0) ≡ true = (bytes_eq-Decides name (string_bytes e.0)).1 (sym is ∙ sym (ap (λ (p : String Global × V). string_bytes p.0) same)) in
      rw here refl
  place_has name (e ∷ es) (suc i) k w at is = rw (place_has name es i k w at is) (either (bytes_eq name (string_bytes e.0)))
    where
      either : (p : Bool) → cond p true true ≡ true
      either true = refl
      either false = refl

  -- and nothing changes where its own value is written
  pub same_value : (es : List (String Global × V)) (i : ℕ) (k : String Global) (w : V) → slice_get es i ≡ Some (k, w) → set_value_at es i w ≡ es
  same_value [] i k w at = refl
  same_value (e ∷ es) zero k w at =
      let same : e ≡ (k, w) = cc in
      ap (λ (p : String Global × V). (p.0, w) ∷ es) same ∙ sym (ap (λ (p : String Global × V). p ∷ es) same)
  same_value (e ∷ es) (suc i) k w at = ap (λ (l : List (String Global × V)). e ∷ l) (same_value es i k w at)

pub none_there : {V : Type 0} (name : List ℕ) (es : List (String Global × V)) → length es ≡ 0 → has_in (map entry_binding es) name ≡ false
none_there name [] h = refl
none_there name (e ∷ es) h = absurd (omega arith)

-- ---- no two have one name, so that the newest one is the only one

module _ {V : Type 0} (name : List ℕ) where
  none_like : (es : List (String Global × V)) (first : String Global) → AllByRecursion (λ y. string_eq first y ≡ false) (keys_of es) → name ≡ string_bytes first → has_in (map entry_binding es) name ≡ false
  none_like [] first all is = refl
  none_like (e ∷ es) first all is =
      let not : has_name name e.0 ≡ false = ap (λ n. bytes_eq n (string_bytes e.0)) is ∙ all.0 in
      rw not (none_like es first all.1 is)

  pub newest_once : (es : List (String Global × V)) → IsDistinct string_eq (keys_of es) → value_named (map entry_binding es) name ≡ newest_in (map entry_binding es) name
  unfolding IsDistinct
  newest_once [] unique = refl
  newest_once (e ∷ es) unique = either (has_name name e.0) refl (newest_once es unique.1)
    where
      or_none : (o : Option V) → o ≡ option_or o None
      or_none None = refl
      or_none (Some v) = refl

      either : (p : Bool) → has_name name e.0 ≡ p → value_named (map entry_binding es) name ≡ newest_in (map entry_binding es) name
          → cond p (Some e.1) (value_named (map entry_binding es) name) ≡ option_or (newest_in (map entry_binding es) name) (cond p (Some e.1) None)
      either true h k =
          let none : has_in (map entry_binding es) name ≡ false = none_like es e.0 unique.0 ((bytes_eq-Decides name (string_bytes e.0)).0 h) in
          rw (newest_none (map entry_binding es) name none) refl
      either false h k = k ∙ or_none (newest_in (map entry_binding es) name)

  pub set_once : (es : List (String Global × V)) (v : V) → IsDistinct string_eq (keys_of es) → set_in (map entry_binding es) name v ≡ set_newest (map entry_binding es) name v
  unfolding IsDistinct
  set_once [] v unique = refl
  set_once (e ∷ es) v unique = either (has_name name e.0) refl (set_once es v unique.1)
    where
      later : (p : Bool) → has_in (map entry_binding es) name ≡ p → set_in (map entry_binding es) name v ≡ set_newest (map entry_binding es) name v
          → entry_binding e ∷ set_in (map entry_binding es) name v ≡ cond p (entry_binding e ∷ set_newest (map entry_binding es) name v) (entry_binding e ∷ map entry_binding es)
      later true h k = ap (λ bs. entry_binding e ∷ bs) k
      later false h k = ap (λ bs. entry_binding e ∷ bs) (k ∙ set_newest_none (map entry_binding es) name v h)

      either : (p : Bool) → has_name name e.0 ≡ p → set_in (map entry_binding es) name v ≡ set_newest (map entry_binding es) name v
          → cond p (bound_variable (string_bytes e.0) v ∷ map entry_binding es) (entry_binding e ∷ set_in (map entry_binding es) name v)
          ≡ cond (has_in (map entry_binding es) name) (entry_binding e ∷ set_newest (map entry_binding es) name v) (cond p (bound_variable (string_bytes e.0) v ∷ map entry_binding es) (entry_binding e ∷ map entry_binding es))
      either true h k =
          let none : has_in (map entry_binding es) name ≡ false = none_like es e.0 unique.0 ((bytes_eq-Decides name (string_bytes e.0)).0 h) in
          rw none refl
      either false h k = later (has_in (map entry_binding es) name) refl k
