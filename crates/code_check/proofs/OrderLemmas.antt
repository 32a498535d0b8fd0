-- The first fault of what is put together from parts.
use Rattle.std.proofs.Common.{◌≡◌, sym, subst, ◌||◌, ◌&&◌, ◌==◌, ℕ, Bool, true, false, cond, nat_lt, Option, Some, None, IfSome, refl, arith}
use Rattle.std.proofs.lemmas.Bool.Decides.{nat_tests}
use Rattle.dap_base.specs.declared.text.Place.{Place}
use Rattle.code_check.specs.declared.fault.FaultKind.{FaultKind}
use Rattle.code_check.specs.declared.fault.CodeFault.{CodeFault}
use Rattle.code_check.specs.Order.{rank, is_before, earlier}
use Rattle.code_check.specs.First.{IsFirst, Nowhere, InEither, here, there, FaultWhere, Where}

-- ---- the order

-- numbers by threes, in the order of lexicons
abbrev pub lexical : ℕ → ℕ → ℕ → ℕ → ℕ → ℕ → Bool
lexical a b c x y z = nat_lt a x || a == x && (nat_lt b y || b == y && nat_lt c z)

lexical-irrefl : (a b c : ℕ) → lexical a b c a b c ≡ false
lexical-irrefl a b c = grind (arith, nat_tests)

lexical-not_trans : (a b c p q r x y z : ℕ) → lexical a b c p q r ≡ false → lexical p q r x y z ≡ false → lexical a b c x y z ≡ false
lexical-not_trans a b c p q r x y z h k = grind (arith, nat_tests)

lexical-asym : (a b c x y z : ℕ) → lexical a b c x y z ≡ true → lexical x y z a b c ≡ false
lexical-asym a b c x y z h = grind (arith, nat_tests)

pub is_before-irrefl : (f : CodeFault) → is_before f f ≡ false
is_before-irrefl f = lexical-irrefl f.place.line f.place.column (rank f.kind)

pub is_before-asym : (f g : CodeFault) → is_before f g ≡ true → is_before g f ≡ false
is_before-asym f g = lexical-asym f.place.line f.place.column (rank f.kind) g.place.line g.place.column (rank g.kind)

pub is_before-not_trans : (f g h : CodeFault) → is_before f g ≡ false → is_before g h ≡ false → is_before f h ≡ false
is_before-not_trans f g h = lexical-not_trans f.place.line f.place.column (rank f.kind) g.place.line g.place.column (rank g.kind) h.place.line h.place.column (rank h.kind)

-- ---- two parts

after_either : (f g x : CodeFault) (b : Bool) → is_before g f ≡ b → (is_before x f ≡ false) → is_before x (cond b g f) ≡ false
after_either f g x true e h = is_before-not_trans x f g h (is_before-asym g f e)
after_either f g x false e h = h

after_other : (f g x : CodeFault) (b : Bool) → is_before g f ≡ b → (is_before x g ≡ false) → is_before x (cond b g f) ≡ false
after_other f g x true e h = h
after_other f g x false e h = is_before-not_trans x g f h e

module _ (P Q : CodeFault → Type 0) where
  found_here : (r : Option CodeFault) → IfSome r P → IfSome r (InEither P Q)
  found_here None h = tt
  found_here (Some f) h = here h

  found_there : (r : Option CodeFault) → IfSome r Q → IfSome r (InEither P Q)
  found_there None h = tt
  found_there (Some f) h = there h

  found_either : (f g : CodeFault) (b : Bool) → P f → Q g → InEither P Q (cond b g f)
  found_either f g true p q = there q
  found_either f g false p q = here p

  first_at : (a b : Option CodeFault) → IsFirst is_before P a → IsFirst is_before Q b → IsFirst is_before (InEither P Q) (earlier a b)
  first_at None b h k = record {
    holds = found_there b k.holds;
    none_before = λ x s. elim s [ here p ↦ absurd (h.none_before x p) | there q ↦ k.none_before x q ];
  }
  first_at (Some f) None h k = record {
    holds = here h.holds;
    none_before = λ x s. elim s [ here p ↦ h.none_before x p | there q ↦ absurd (k.none_before x q) ];
  }
  first_at (Some f) (Some g) h k = record {
    holds = found_either f g (is_before g f) h.holds k.holds;
    none_before = λ x s. elim s [ here p ↦ after_either f g x (is_before g f) refl (h.none_before x p) | there q ↦ after_other f g x (is_before g f) refl (k.none_before x q) ];
  }

-- the earlier of the first ones of two parts is the first of both
pub first_of_two : {P Q : CodeFault → Type 0} (r a b : Option CodeFault) → r ≡ earlier a b → IsFirst is_before P a → IsFirst is_before Q b → IsFirst is_before (InEither P Q) r
first_of_two {P} {Q} r a b e h k = subst (IsFirst is_before (InEither P Q)) (sym e) (first_at P Q a b h k)

pub first_of_here : {P Q : CodeFault → Type 0} {r : Option CodeFault} → IsFirst is_before P r → IsFirst is_before Q None → IsFirst is_before (InEither P Q) r
first_of_here {P} {Q} {r} h k = first_of_two r r None (alone r) h k where
  alone : (o : Option CodeFault) → o ≡ earlier o None
  alone None = refl
  alone (Some f) = refl

pub first_of_there : {P Q : CodeFault → Type 0} {r : Option CodeFault} → IsFirst is_before P None → IsFirst is_before Q r → IsFirst is_before (InEither P Q) r
first_of_there {P} {Q} {r} h k = first_of_two r None r refl h k

-- where there are the same faults, the first is the same
pub first_of_same : {P Q : CodeFault → Type 0} {r : Option CodeFault} → ((f : CodeFault) → P f → Q f) → ((f : CodeFault) → Q f → P f) → IsFirst is_before P r → IsFirst is_before Q r
first_of_same {P} {Q} {r} to from h = record { holds = carried r h.holds; none_before = λ g s. h.none_before g (from g s) } where
  carried : (o : Option CodeFault) → IfSome o P → IfSome o Q
  carried None q = tt
  carried (Some f) q = to f q

-- ---- single faults

pub first_of_none : IsFirst is_before Nowhere None
first_of_none = record { holds = tt; none_before = λ g s. elim s [ ] }

pub first_where : (Cause : Type 0) (place : Place) (kind : FaultKind) → Cause → IsFirst is_before (FaultWhere Cause place kind) (Some (record { place = place; kind = kind }))
first_where Cause place kind c = record {
  holds = record { cause = c; is = refl };
  none_before = λ g s. subst (λ x. is_before x (record { place = place; kind = kind }) ≡ false) (sym s.is) (is_before-irrefl (record { place = place; kind = kind }));
}

pub first_where_not : (Cause : Type 0) (place : Place) (kind : FaultKind) → (Cause → ⊥) → IsFirst is_before (FaultWhere Cause place kind) None
first_where_not Cause place kind c = record { holds = tt; none_before = λ g s. absurd (c s.cause) }

where_of : (Cause : Type 0) (P : CodeFault → Type 0) (r : Option CodeFault) → Cause → IfSome r P → IfSome r (Where Cause P)
where_of Cause P None c h = tt
where_of Cause P (Some f) c h = record { cause = c; holds = h }

pub first_of_where : {Cause : Type 0} {P : CodeFault → Type 0} {r : Option CodeFault} → Cause → IsFirst is_before P r → IsFirst is_before (Where Cause P) r
first_of_where {Cause} {P} {r} c h = record { holds = where_of Cause P r c h.holds; none_before = λ g s. h.none_before g s.holds }

pub first_of_where_not : {Cause : Type 0} {P : CodeFault → Type 0} → (Cause → ⊥) → IsFirst is_before (Where Cause P) None
first_of_where_not c = record { holds = tt; none_before = λ g s. absurd (c s.cause) }
