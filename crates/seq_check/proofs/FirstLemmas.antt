-- The first fault of parts in order.
use Rattle.std.proofs.Common.{◌≡◌, ◌∙◌, sym, subst, Bool, false, Option, Some, None, IfSome, IsSomeAnd, option_map}
use Rattle.std.specs.Option.{option_or}
use Rattle.code_check.specs.First.{IsFirst, Nowhere, InEither, here, there}

module _ {F : Type 0} (before : F → F → Bool) where
  pub first_of_none : IsFirst before Nowhere None
  first_of_none = record { holds = tt; none_before = λ g s. elim s [ ] }

  -- where there are the same faults, the first is the same
  pub first_of_same : (P Q : F → Type 0) (r : Option F) → ((f : F) → P f → Q f) → ((f : F) → Q f → P f) → IsFirst before P r → IsFirst before Q r
  first_of_same P Q r to from h = record { holds = carried r h.holds; none_before = λ g s. h.none_before g (from g s) } where
    carried : (o : Option F) → IfSome o P → IfSome o Q
    carried None q = tt
    carried (Some f) q = to f q

  -- the first part has a fault, and none of the other part is before one of its
  pub first_here : (P Q : F → Type 0) (f : F) → ((p q : F) → P p → Q q → before q p ≡ false) → IsFirst before P (Some f) → IsFirst before (InEither P Q) (Some f)
  first_here P Q f order h = record { holds = here h.holds; none_before = λ g s. elim s [ here p ↦ h.none_before g p | there q ↦ order f g h.holds q ] }

  -- the first part has none
  pub first_there : (P Q : F → Type 0) (r : Option F) → IsFirst before P None → IsFirst before Q r → IsFirst before (InEither P Q) r
  first_there P Q r h k = record { holds = carried r k.holds; none_before = λ g s. elim s [ here p ↦ absurd (h.none_before g p) | there q ↦ k.none_before g q ] } where
    carried : (o : Option F) → IfSome o Q → IfSome o (InEither P Q)
    carried None q = tt
    carried (Some f) q = there q

  first_either : (P Q : F → Type 0) (a b : Option F) → ((p q : F) → P p → Q q → before q p ≡ false) → IsFirst before P a → IsFirst before Q b → IsFirst before (InEither P Q) (option_or a b)
  first_either P Q None b order h k = first_there P Q b h k
  first_either P Q (Some f) b order h k = first_here P Q f order h

  pub first_or : (P Q : F → Type 0) (r a b : Option F) → ((p q : F) → P p → Q q → before q p ≡ false) → r ≡ option_or a b → IsFirst before P a → IsFirst before Q b → IsFirst before (InEither P Q) r
  first_or P Q r a b order e h k = subst (IsFirst before (InEither P Q)) (sym e) (first_either P Q a b order h k)

-- seen through a map that keeps the order
pub first_mapped : {F G : Type 0} (before : F → F → Bool) (before' : G → G → Bool) (m : F → G) (P : F → Type 0) (Q : G → Type 0) (r : Option F)
    → ((f g : F) → before' (m f) (m g) ≡ before f g) → ((f : F) → P f → Q (m f)) → ((g : G) → Q g → (f : F) × P f × (g ≡ m f)) → IsFirst before P r → IsFirst before' Q (option_map m r)
first_mapped {F} {G} before before' m P Q r keeps to from h = record { holds = carried r h.holds; none_before = λ g s. (let x = from g s in subst (λ y. IsSomeAnd (option_map m r) (λ f. before' y f ≡ false)) (sym x.2) (later r x.0 (h.none_before x.0 x.1))) } where
  carried : (o : Option F) → IfSome o P → IfSome (option_map m o) Q
  carried None p = tt
  carried (Some f) p = to f p

  later : (o : Option F) (g : F) → IsSomeAnd o (λ f. before g f ≡ false) → IsSomeAnd (option_map m o) (λ f. before' (m g) f ≡ false)
  later None g p = p
  later (Some f) g p = keeps g f ∙ p
