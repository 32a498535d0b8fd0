-- The list of a plan.
use Rattle.std.proofs.Common.{◌≡◌, ◌∙◌, List, ◌++◌, append_assoc, ap}
use Rattle.target_machine.specs.declared.access.RegAccess.{RegAccess}

pub memory_listed : (s a b c d : List RegAccess) → (((s ++ a) ++ b) ++ c) ++ d ≡ (s ++ (a ++ (b ++ c))) ++ d
memory_listed s a b c d =
    ap (λ (l : List RegAccess). l ++ d) (ap (λ (l : List RegAccess). l ++ c) (append_assoc s a b) ∙ append_assoc s (a ++ b) c ∙ ap (λ (l : List RegAccess). s ++ l) (append_assoc a b c))
