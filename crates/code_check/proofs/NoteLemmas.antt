-- What is noted, one part after another.
use Rattle.std.proofs.Common.{◌≡◌, ◌∙◌, sym, ap, subst, Bool, true, false, cond, Option, Some, None, refl, true≢false}
use Rattle.dap_base.specs.declared.text.Place.{Place}
use Rattle.code_check.specs.declared.fault.FaultKind.{FaultKind}
use Rattle.code_check.specs.declared.fault.CodeFault.{CodeFault}
use Rattle.code_check.specs.Order.{is_before, earlier}
use Rattle.code_check.specs.First.{IsFirst, Nowhere, InEither, FaultWhere}
use Rattle.code_check.specs.Notes.{Notes}
use Rattle.code_check.proofs.OrderLemmas.{is_before-asym, is_before-not_trans, first_of_two, first_of_none, first_where, first_where_not}

-- ---- the earlier of two

earlier-none : (a : Option CodeFault) → earlier a None ≡ a
earlier-none None = refl
earlier-none (Some f) = refl

trans_at : (f g h : CodeFault) (b : Bool) → is_before h f ≡ b → is_before g f ≡ true → is_before h g ≡ true → b ≡ true
trans_at f g h true e p q = refl
trans_at f g h false e p q = absurd (true≢false (sym q ∙ is_before-not_trans h f g e (is_before-asym g f p)))

is_before-trans : (f g h : CodeFault) → is_before g f ≡ true → is_before h g ≡ true → is_before h f ≡ true
is_before-trans f g h p q = trans_at f g h (is_before h f) refl p q

assoc_at : (f g h : CodeFault) (p q : Bool) → is_before g f ≡ p → is_before h g ≡ q → cond (is_before h (cond p g f)) h (cond p g f) ≡ cond (is_before (cond q h g) f) (cond q h g) f
assoc_at f g h true true e d = ap (λ b. cond b h g) d ∙ sym (ap (λ b. cond b h f) (is_before-trans f g h e d))
assoc_at f g h true false e d = ap (λ b. cond b h g) d ∙ sym (ap (λ b. cond b g f) e)
assoc_at f g h false true e d = refl
assoc_at f g h false false e d = ap (λ b. cond b h f) (is_before-not_trans h g f d e) ∙ sym (ap (λ b. cond b g f) e)

earlier-assoc : (a b c : Option CodeFault) → earlier (earlier a b) c ≡ earlier a (earlier b c)
earlier-assoc None b c = refl
earlier-assoc (Some f) None c = refl
earlier-assoc (Some f) (Some g) None = refl
earlier-assoc (Some f) (Some g) (Some h) = ap (λ x. Some x) (assoc_at f g h (is_before g f) (is_before h g) refl refl)

-- ---- nothing, and one fault

pub notes_none : {P : CodeFault → Type 0} {old : Option CodeFault} → IsFirst is_before P None → Notes P old old
notes_none {P} {old} h = record { first = None; is_first = h; kept = sym (earlier-none old) }

pub notes_one : {P : CodeFault → Type 0} {old new : Option CodeFault} (f : CodeFault) → IsFirst is_before P (Some f) → new ≡ earlier old (Some f) → Notes P old new
notes_one f h e = record { first = Some f; is_first = h; kept = e }

pub notes_nowhere : (old : Option CodeFault) → Notes Nowhere old old
notes_nowhere old = notes_none first_of_none

pub notes_where : (Cause : Type 0) (place : Place) (kind : FaultKind) (old new : Option CodeFault) → Cause → new ≡ earlier old (Some (record { place = place; kind = kind })) → Notes (FaultWhere Cause place kind) old new
notes_where Cause place kind old new c e = notes_one (record { place = place; kind = kind }) (first_where Cause place kind c) e

pub notes_where_not : (Cause : Type 0) (place : Place) (kind : FaultKind) (old : Option CodeFault) → (Cause → ⊥) → Notes (FaultWhere Cause place kind) old old
notes_where_not Cause place kind old c = notes_none (first_where_not Cause place kind c)

-- ---- the same faults, said otherwise

pub notes_as : {P Q : CodeFault → Type 0} {old new : Option CodeFault} → ((r : Option CodeFault) → IsFirst is_before P r → IsFirst is_before Q r) → Notes P old new → Notes Q old new
notes_as to n = record { first = n.first; is_first = to n.first n.is_first; kept = n.kept }

-- with nothing found before, the first is noted
pub notes_first : {P : CodeFault → Type 0} {new : Option CodeFault} → Notes P None new → IsFirst is_before P new
notes_first {P} {new} n = subst (IsFirst is_before P) (sym n.kept) n.is_first

-- ---- one part after another

-- where the first of the whole is the earlier of the first ones of the parts
pub notes_joined : {P Q R : CodeFault → Type 0} {old mid new : Option CodeFault}
    → ((r a b : Option CodeFault) → r ≡ earlier a b → IsFirst is_before P a → IsFirst is_before Q b → IsFirst is_before R r) → Notes P old mid → Notes Q mid new → Notes R old new
notes_joined {P} {Q} {R} {old} {mid} {new} join n m = record {
  first = earlier n.first m.first;
  is_first = join (earlier n.first m.first) n.first m.first refl n.is_first m.is_first;
  kept = m.kept ∙ ap (λ x. earlier x m.first) n.kept ∙ earlier-assoc old n.first m.first;
}

pub notes_two : {P Q : CodeFault → Type 0} {old mid new : Option CodeFault} → Notes P old mid → Notes Q mid new → Notes (InEither P Q) old new
notes_two n m = notes_joined first_of_two n m

pub ruleset notes = (notes_nowhere, notes_where, notes_where_not, notes_two)
