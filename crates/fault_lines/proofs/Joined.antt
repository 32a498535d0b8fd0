-- Pieces that are added to a line one after another.
use Rattle.std.proofs.Common.{◌≡◌, ℕ, List, ◌++◌, ap, ◌∙◌, append_assoc}

pub three : (line first second third a b c : List ℕ) → first ≡ line ++ a → second ≡ first ++ b → third ≡ second ++ c → third ≡ line ++ (a ++ b ++ c)
three line first second third a b c is_first is_second is_third =
    is_third ∙ (ap (λ x. x ++ c) (is_second ∙ ap (λ x. x ++ b) is_first) ∙ simp append_assoc)
