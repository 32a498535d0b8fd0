-- Texts that are added one after the other.
use Rattle.std.proofs.Common.{◌≡◌, ◌∙◌, ℕ, List, ◌++◌, Result, sym, ap, subst, append_assoc}
use Rattle.std.specs.Prelude.{IfOk}
use Rattle.dap_base.specs.declared.text.OutOfMemory.{OutOfMemory}

abbrev Added : Result (List ℕ) OutOfMemory → List ℕ → Type 0
Added r text = IfOk r (λ x. x ≡ text)

-- two texts
pub two : (l m a b : List ℕ) (r : Result (List ℕ) OutOfMemory) → m ≡ l ++ a → Added r (m ++ b) → Added r (l ++ (a ++ b))
two l m a b r first h = subst (λ (t : List ℕ). Added r t) (ap (λ (t : List ℕ). t ++ b) first ∙ append_assoc l a b) h

-- three texts
pub three : (l m n a b c : List ℕ) (r : Result (List ℕ) OutOfMemory) → m ≡ l ++ a → n ≡ m ++ b → Added r (n ++ c) → Added r (l ++ (a ++ b ++ c))
three l m n a b c r first second h = two l n (a ++ b) c r (second ∙ ap (λ (t : List ℕ). t ++ b) first ∙ append_assoc l a b) h

-- four texts
pub four : (l m n o a b c d : List ℕ) (r : Result (List ℕ) OutOfMemory) → m ≡ l ++ a → n ≡ m ++ b → o ≡ n ++ c → Added r (o ++ d) → Added r (l ++ (a ++ b ++ c ++ d))
four l m n o a b c d r first second third h =
    three l n o (a ++ b) c d r (second ∙ ap (λ (t : List ℕ). t ++ b) first ∙ append_assoc l a b) third h

-- a text that is equal to another one
pub added : (r : Result (List ℕ) OutOfMemory) (s t : List ℕ) → Added r s → s ≡ t → Added r t
added r s t h e = subst (λ (x : List ℕ). Added r x) e h
