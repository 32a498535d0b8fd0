-- Properties of each value of a map.
use Rattle.std.proofs.Common.{◌≡◌, ℕ, Bool, true, false, cond, eqb, List, [], ◌∷◌, Option, Some, sym, subst, ◌∙◌}
use Rattle.std.specs.FinMap as map
use Rattle.std.specs.Ordering.{nat_cmp}
use Rattle.std.specs.List.{AllByRecursion}
use Rattle.target_machine.proofs.Maps.{found, found-cons, got, got_inserted}
use Rattle.target_machine.specs.InRange.{EachValue}

module _ {V : Type 0} (P : V → Type 0) where
  chosen : (b : Bool) (v x : V) (o : Option V) → cond b (Some v) o ≡ Some x → P v → (o ≡ Some x → P x) → P x
  chosen true v x o is here there = let same : v ≡ x = cc in subst P same here
  chosen false v x o is here there = there is

  -- another value at a key
  pub each_inserted : (m : map.FinMap nat_cmp V) (k : ℕ) (v : V) → EachValue P m → P v → EachValue P (map.insert m k v)
  each_inserted m k v h p q x is = chosen (eqb q k) v x (map.get m q) (sym (got_inserted m k v q) ∙ is) p (h q x)

  each_found : (es : List (ℕ × V)) → AllByRecursion (λ e. P e.1) es → (q : ℕ) (x : V) → found q es ≡ Some x → P x
  each_found [] h q x is = absurd (cc is)
  each_found (e ∷ es) h q x is = chosen (eqb q e.0) e.1 x (found q es) (sym (found-cons q e.0 e.1 es) ∙ is) h.0 (each_found es h.1 q x)

  -- the values of a map that is made of entries
  pub each_entry : (es : List (ℕ × V)) → AllByRecursion (λ e. P e.1) es → EachValue P (map.from_entries es)
  each_entry es h q x is = each_found es h q x (sym (got es q) ∙ is)
