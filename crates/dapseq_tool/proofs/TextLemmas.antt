-- A line that is made piece by piece.
use Rattle.std.proofs.Common.{◌≡◌, ◌∙◌, ℕ, List, ◌++◌, Result, Ok, Err, refl, sym, ap, append_assoc}
use Rattle.std.specs.Prelude.{IfOk}

same_ok : {E : Type 0} (r : Result (List ℕ) E) (p q : List ℕ) → p ≡ q → IfOk r (λ x. x ≡ p) → IfOk r (λ x. x ≡ q)
same_ok (Ok x) p q is h = h ∙ is
same_ok (Err e) p q is h = tt

four : (l0 a b c d : List ℕ) → (((l0 ++ a) ++ b) ++ c) ++ d ≡ l0 ++ (a ++ b ++ c ++ d)
four l0 a b c d = simp append_assoc

five : (l0 a b c d e : List ℕ) → ((((l0 ++ a) ++ b) ++ c) ++ d) ++ e ≡ l0 ++ (a ++ b ++ c ++ d ++ e)
five l0 a b c d e = simp append_assoc

-- four pieces
pub made_of_four : {E : Type 0} (r : Result (List ℕ) E) (l0 l1 l2 l3 a b c d : List ℕ) → l1 ≡ l0 ++ a → l2 ≡ l1 ++ b → l3 ≡ l2 ++ c → IfOk r (λ x. x ≡ l3 ++ d)
    → IfOk r (λ x. x ≡ l0 ++ (a ++ b ++ c ++ d))
made_of_four r l0 l1 l2 l3 a b c d e1 e2 e3 h =
    same_ok r (l3 ++ d) (l0 ++ (a ++ b ++ c ++ d))
    (ap (λ l. l ++ d) (e3 ∙ ap (λ l. l ++ c) (e2 ∙ ap (λ l. l ++ b) e1)) ∙ four l0 a b c d) h

-- five pieces
pub made_of_five : {E : Type 0} (r : Result (List ℕ) E) (l0 l1 l2 l3 l4 a b c d e : List ℕ) → l1 ≡ l0 ++ a → l2 ≡ l1 ++ b → l3 ≡ l2 ++ c → l4 ≡ l3 ++ d → IfOk r (λ x. x ≡ l4 ++ e)
    → IfOk r (λ x. x ≡ l0 ++ (a ++ b ++ c ++ d ++ e))
made_of_five r l0 l1 l2 l3 l4 a b c d e e1 e2 e3 e4 h =
    same_ok r (l4 ++ e) (l0 ++ (a ++ b ++ c ++ d ++ e))
    (ap (λ l. l ++ e) (e4 ∙ ap (λ l. l ++ d) (e3 ∙ ap (λ l. l ++ c) (e2 ∙ ap (λ l. l ++ b) e1))) ∙ five l0 a b c d e) h
