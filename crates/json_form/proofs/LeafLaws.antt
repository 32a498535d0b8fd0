-- Reading texts, flags, choices and numbers.
use Rattle.std.proofs.Common.{◌≡◌, ℕ, ◌≤◌, ◌&&◌, Bool, true, false, cond, nat_le, List, [], Option, Some, None, Result, Ok, Err, refl, ap, sym, subst, ◌∙◌, inl, inr, ◌⊎◌, le-leb, bytes_eq}
use Rattle.std.proofs.lemmas.Bool.{leb-true}
use Rattle.std.specs.Option.{ok_or}
use Rattle.serde_json.specs.Data.{Data, null, boolean, number, string, array, object, Num, unsigned, negative, float}
use Rattle.dap_base.specs.Number.{number_value}
use Rattle.dap_base.proofs.Basics.{text_itself, same_text}
use Rattle.json_form.specs.declared.fault.JobFault.{JobFault}
use Rattle.json_form.specs.declared.fault.JobFault.TheVariants.{WrongKind, BadNumber}
use Rattle.json_form.specs.Reading.{text, flag, one_of_two, any_number, number as number_in, such}
use Rattle.json_form.specs.Form.{IsText, IsFlag, IsChoice, IsAnyNumber, IsNumber, Such}
use Rattle.json_form.proofs.ReadingLaws.{Reads, done, bind_ok}

text_sound : (d : Data) (x : List ℕ) → text d ≡ Ok x → IsText d x
text_sound null x e = absurd cc
text_sound (boolean b) x e = absurd cc
text_sound (number n) x e = absurd cc
text_sound (string s) x e = (let same : s ≡ x = cc in ap string same)
text_sound (array ds) x e = absurd cc
text_sound (object ms) x e = absurd cc

pub text_reads : Reads text IsText
text_reads = record { sound = text_sound; complete = λ d x p. rw p refl }

flag_sound : (d : Data) (x : Bool) → flag d ≡ Ok x → IsFlag d x
flag_sound null x e = absurd cc
flag_sound (boolean b) x e = (let same : b ≡ x = cc in ap boolean same)
flag_sound (number n) x e = absurd cc
flag_sound (string s) x e = absurd cc
flag_sound (array ds) x e = absurd cc
flag_sound (object ms) x e = absurd cc

pub flag_reads : Reads flag IsFlag
flag_reads = record { sound = flag_sound; complete = λ d x p. rw p refl }

-- ---- one of two texts

abbrev Chosen : List ℕ → List ℕ → List ℕ → Bool → Type 0
Chosen first second word x = ((word ≡ first) × (x ≡ false)) ⊎ ((word ≡ second) × (x ≡ true))

chosen_at : (a b : Bool) (x : Bool) → cond a (done false) (cond b (done true) (Err (WrongKind []))) ≡ Ok x → ((a ≡ true) × (x ≡ false)) ⊎ ((b ≡ true) × (x ≡ true))
chosen_at true b x e = inl (refl, (let same : false ≡ x = cc in sym same))
chosen_at false true x e = inr (refl, (let same : true ≡ x = cc in sym same))
chosen_at false false x e = absurd cc

pub choice_reads : (first second : List ℕ) → bytes_eq second first ≡ false → Reads (one_of_two first second) (IsChoice first second)
unfolding one_of_two
choice_reads first second apart = record {
  sound = λ d x e. (
      let a = bind_ok _ _ x e in
      let is = text_sound d a.0 a.1 in
      elim (chosen_at (bytes_eq a.0 first) (bytes_eq a.0 second) x a.2) [
        | inl h ↦ inl (is ∙ ap string (same_text a.0 first h.0), h.1)
        | inr h ↦ inr (is ∙ ap string (same_text a.0 second h.0), h.1)
      ]);
  complete = λ d x p. (elim p [ inl h ↦ rw (h.0, h.1, text_itself first) refl | inr h ↦ rw (h.0, h.1, apart, text_itself second) refl ]);
}

-- ---- numbers

some_ok : {A : Type 0} (o : Option A) (fault : JobFault) (x : A) → ok_or o fault ≡ Ok x → o ≡ Some x
some_ok None fault x e = absurd cc
some_ok (Some y) fault x e = (let same : y ≡ x = cc in ap (λ z. Some z) same)

unsigned_ok : (n : Num) (x : ℕ) → any_number (number n) ≡ Ok x → n ≡ unsigned x
unfolding any_number
unsigned_ok (unsigned n) x e = (let same : n ≡ x = cc in ap unsigned same)
unsigned_ok (negative z) x e = absurd cc
unsigned_ok (float f) x e = absurd cc

any_number_sound : (d : Data) (x : ℕ) → any_number d ≡ Ok x → IsAnyNumber d x
unfolding any_number
any_number_sound null x e = absurd cc
any_number_sound (boolean b) x e = absurd cc
any_number_sound (number n) x e = inl (ap number (unsigned_ok n x e))
any_number_sound (string s) x e = inr (s, refl, some_ok (number_value s) (BadNumber []) x e)
any_number_sound (array ds) x e = absurd cc
any_number_sound (object ms) x e = absurd cc

any_number_complete : (d : Data) (x : ℕ) → IsAnyNumber d x → any_number d ≡ Ok x
unfolding any_number
any_number_complete d x (inl is) = rw is refl
any_number_complete d x (inr s) = rw (s.1, s.2) refl

range_ok : (a b : Bool) (n x : ℕ) → cond (a && b) (done n) (Err (BadNumber [])) ≡ Ok x → (a ≡ true) × (b ≡ true) × (n ≡ x)
range_ok true true n x e = (refl, refl, cc)
range_ok true false n x e = absurd cc
range_ok false b n x e = absurd cc

pub number_reads : (low high : ℕ) → Reads (number_in low high) (IsNumber low high)
unfolding number_in
number_reads low high = record {
  sound = λ d x e. (
      let a = bind_ok (any_number d) (λ n. cond (nat_le low n && nat_le n high) (Ok n) (Err (BadNumber []))) x e in
      let b = range_ok (nat_le low a.0) (nat_le a.0 high) a.0 x a.2 in
      subst (λ n. IsAnyNumber d n × (low ≤ n) × (n ≤ high)) b.2 (any_number_sound d a.0 a.1, leb-true low a.0 b.0, leb-true a.0 high b.1));
  complete = λ d x p. rw (any_number_complete d x p.0, le-leb low x p.1, le-leb x high p.2) refl;
}

passes_ok : (b : Bool) (n x : ℕ) → cond b (done n) (Err (BadNumber [])) ≡ Ok x → (b ≡ true) × (n ≡ x)
passes_ok true n x e = (refl, cc)
passes_ok false n x e = absurd cc

pub such_reads : (passes : ℕ → Bool) (reads : Data → Result ℕ JobFault) (R : Data → ℕ → Type 0) → Reads reads R → Reads (such passes reads) (Such passes R)
unfolding such
such_reads passes reads R law = record {
  sound = λ d x e. (
      let a = bind_ok (reads d) (λ n. cond (passes n) (Ok n) (Err (BadNumber []))) x e in
      let b = passes_ok (passes a.0) a.0 x a.2 in
      subst (λ n. R d n × (passes n ≡ true)) b.1 (law.sound d a.0 a.1, b.0));
  complete = λ d x p. rw (law.complete d x p.0, p.1) refl;
}
