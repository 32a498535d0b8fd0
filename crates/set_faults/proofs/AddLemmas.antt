-- What is added, one part after another.
use Rattle.std.proofs.Common.{◌≡◌, ◌∙◌, sym, subst, ◌↔◌, Bool, true, false, not, IsTrue, List, [], ◌∷◌, ◌++◌, refl, true≢false, inl, inr}
use Rattle.std.specs.Prelude.{Contains}
use Rattle.std.proofs.lemmas.List.{append-nil}
use Rattle.std.proofs.lemmas.List.Elements.{Contains-append_left, Contains-append_right, Contains-append_cases}
use Rattle.std.proofs.lemmas.Bool.{not-true, not_from_false}
use Rattle.dap_base.specs.declared.text.Place.{Place}
use Rattle.code_check.specs.declared.fault.FaultKind.{FaultKind}
use Rattle.code_check.specs.declared.fault.CodeFault.{CodeFault}
use Rattle.code_check.specs.Order.{is_before}
use Rattle.code_check.specs.First.{Nowhere, InEither, here, there, FaultWhere, Where}
use Rattle.code_check.proofs.CallLemmas.{is_so}
use Rattle.set_faults.specs.Listed.{IsListOf, found_if, Adds}
use Rattle.set_faults.proofs.ListLemmas.{contains_none, contains_cases, contains_first}

pub adds_none : (P : CodeFault → Type 0) (old : List CodeFault) → ((f : CodeFault) → P f → ⊥) → Adds P old old
adds_none P old none = record { kept = λ f c. c; added = λ f p. absurd (none f p); only = λ f c. inl c }

pub adds_nowhere : (old : List CodeFault) → Adds Nowhere old old
adds_nowhere old = adds_none Nowhere old (λ f s. elim s [ ])

pub adds_same : {P Q : CodeFault → Type 0} {old new : List CodeFault} → ((f : CodeFault) → P f → Q f) → ((f : CodeFault) → Q f → P f) → Adds P old new → Adds Q old new
adds_same to from h = record {
  kept = h.kept;
  added = λ f q. h.added f (from f q);
  only = λ f c. elim (h.only f c) [ inl was ↦ inl was | inr p ↦ inr (to f p) ];
}

pub adds_two : {P Q : CodeFault → Type 0} {old mid new : List CodeFault} → Adds P old mid → Adds Q mid new → Adds (InEither P Q) old new
adds_two h k = record {
  kept = λ f c. k.kept f (h.kept f c);
  added = λ f s. elim s [ here p ↦ k.kept f (h.added f p) | there q ↦ k.added f q ];
  only = λ f c. elim (k.only f c) [ inl mid ↦ elim (h.only f mid) [ inl was ↦ inl was | inr p ↦ inr (here p) ] | inr q ↦ inr (there q) ];
}

adds_one : (P : CodeFault → Type 0) (old : List CodeFault) (f : CodeFault) → P f → ((g : CodeFault) → P g → g ≡ f) → Adds P old (old ++ f ∷ [])
adds_one P old f p one = record {
  kept = λ g c. Contains-append_left old (f ∷ []) g c;
  added = λ g q. subst (λ x. Contains (old ++ f ∷ []) x) (sym (one g q)) (Contains-append_right old (f ∷ []) f (contains_first f []));
  only = λ g c. elim (Contains-append_cases old (f ∷ []) g c) [
    | inl was ↦ inl was
    | inr now ↦ elim (contains_cases f [] g now) [ inl e ↦ inr (subst P e p) | inr more ↦ absurd (contains_none g more) ]
  ];
}

adds_at : (Cause : Type 0) (place : Place) (kind : FaultKind) (b : Bool) (old : List CodeFault) → (b ≡ true → Cause) → (Cause → b ≡ true) → Adds (FaultWhere Cause place kind) old (old ++ found_if b place kind)
adds_at Cause place kind true old to from = adds_one (FaultWhere Cause place kind) old (record { place = place; kind = kind }) (record { cause = to refl; is = refl }) (λ g w. w.is)
adds_at Cause place kind false old to from = rw (append-nil old) (adds_none (FaultWhere Cause place kind) old (λ f w. true≢false (sym (from w.cause))))

-- a test, and the fault that there is where it passes
pub adds_cause : {Cause : Type 0} {place : Place} {kind : FaultKind} {old new : List CodeFault} (b : Bool) → (b ≡ true → Cause) → (Cause → b ≡ true) → new ≡ old ++ found_if b place kind → Adds (FaultWhere Cause place kind) old new
adds_cause {Cause} {place} {kind} {old} {new} b to from e = subst (Adds (FaultWhere Cause place kind) old) (sym e) (adds_at Cause place kind b old to from)

pub adds_if : {place : Place} {kind : FaultKind} {old new : List CodeFault} (b : Bool) → new ≡ old ++ found_if b place kind → Adds (FaultWhere (b ≡ true) place kind) old new
adds_if b e = adds_cause b (λ h. h) (λ h. h) e

-- a test that gives what is said
pub adds_test : {place : Place} {kind : FaultKind} {old new : List CodeFault} (b d : Bool) → b ≡ d → new ≡ old ++ found_if b place kind → Adds (FaultWhere (d ≡ true) place kind) old new
adds_test b d same e = adds_cause b (λ h. sym same ∙ h) (λ h. same ∙ h) e

pub adds_where : {Cause : Type 0} {place : Place} {kind : FaultKind} {old new : List CodeFault} → Cause → new ≡ old ++ found_if true place kind → Adds (FaultWhere Cause place kind) old new
adds_where c e = adds_cause true (λ h. c) (λ h. refl) e

pub adds_unless : {place : Place} {kind : FaultKind} {old new : List CodeFault} (b : Bool) → new ≡ old ++ found_if (not b) place kind → Adds (FaultWhere (b ≡ false) place kind) old new
adds_unless b e = adds_cause (not b) (not-true b) (not_from_false b) e

-- what a test decides is not so
unsaid : (b : Bool) (P : Type 0) → (IsTrue b ↔ P) → not b ≡ true → P → ⊥
unsaid true P h e p = true≢false (sym e)
unsaid false P h e p = true≢false (sym (h.1 p))

said_not : (b : Bool) (P : Type 0) → (IsTrue b ↔ P) → (P → ⊥) → not b ≡ true
said_not true P h e = absurd (e (h.0 refl))
said_not false P h e = refl

pub adds_not : {P : Type 0} {place : Place} {kind : FaultKind} {old new : List CodeFault} (b : Bool) → (IsTrue b ↔ P) → new ≡ old ++ found_if (not b) place kind → Adds (FaultWhere (P → ⊥) place kind) old new
adds_not {P} b h e = adds_cause (not b) (unsaid b P h) (said_not b P h) e

pub is_said : (b : Bool) (P : Type 0) → (IsTrue b ↔ P) → P → b ≡ true
is_said true P h p = refl
is_said false P h p = absurd (true≢false (sym (h.1 p)))

pub adds_so : {P : Type 0} {place : Place} {kind : FaultKind} {old new : List CodeFault} (b : Bool) → (IsTrue b ↔ P) → new ≡ old ++ found_if b place kind → Adds (FaultWhere P place kind) old new
adds_so {P} b h e = adds_cause b (is_so b P h) (is_said b P h) e

pub adds_of_where : {Cause : Type 0} {P : CodeFault → Type 0} {old new : List CodeFault} → Cause → Adds P old new → Adds (Where Cause P) old new
adds_of_where {Cause} {P} c h = adds_same (λ f p. record { cause = c; holds = p }) (λ f w. w.holds) h

-- only one of the parts has faults
pub adds_here : {P Q : CodeFault → Type 0} {old new : List CodeFault} → ((f : CodeFault) → Q f → ⊥) → Adds P old new → Adds (InEither P Q) old new
adds_here {P} {Q} none h = adds_same (λ f p. here p) (λ f s. elim s [ here p ↦ p | there q ↦ absurd (none f q) ]) h

pub adds_there : {P Q : CodeFault → Type 0} {old new : List CodeFault} → ((f : CodeFault) → P f → ⊥) → Adds Q old new → Adds (InEither P Q) old new
adds_there {P} {Q} none h = adds_same (λ f q. there q) (λ f s. elim s [ here p ↦ absurd (none f p) | there q ↦ q ]) h

-- all that was added to nothing, in order
pub adds_listed : {P : CodeFault → Type 0} {all list : List CodeFault} → Adds P [] all → IsListOf is_before (Contains all) list → IsListOf is_before P list
adds_listed h k = record {
  rises = k.rises;
  holds = λ f c. elim (h.only f (k.holds f c)) [ inl was ↦ absurd (contains_none f was) | inr p ↦ p ];
  has = λ f p. k.has f (h.added f p);
}

pub ruleset adding = (adds_nowhere, adds_if, adds_unless, adds_so, adds_not, adds_two, adds_where)
