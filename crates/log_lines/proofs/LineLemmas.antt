-- The blanks before a line.
use Rattle.std.proofs.Common.{◌≡◌, ◌∙◌, ℕ, zero, suc, ◌+◌, ◌≤◌, List, [], ◌++◌, codes, refl, ap, arith}
use Rattle.log_lines.specs.LogText.{margin}

margin_suc : (k : ℕ) → margin k ++ codes "  " ≡ margin (suc k)
unfolding margin
margin_suc zero = refl
margin_suc (suc k) = ap (λ t. codes "  " ++ t) (margin_suc k)

pub margin_more : (line more : List ℕ) (k : ℕ) → line ≡ margin k → more ≡ line ++ codes "  " → more ≡ margin (k + 1)
margin_more line more k is next =
    let one : suc k ≡ k + 1 = omega arith in
    next ∙ ap (λ t. t ++ codes "  ") is ∙ margin_suc k ∙ ap margin one

pub margin_none : (line : List ℕ) → line ≡ [] → line ≡ margin 0
unfolding margin
margin_none line is = is

pub margin_all : (line : List ℕ) (k depth : ℕ) → line ≡ margin k → k ≤ depth → depth ≤ k → line ≡ margin depth
margin_all line k depth is h i =
    let same : k ≡ depth = omega arith in
    is ∙ ap margin same
