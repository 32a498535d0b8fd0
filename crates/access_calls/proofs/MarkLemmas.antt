-- A mark of the last call.
use Rattle.std.proofs.Common.{◌≡◌, ℕ, zero, suc, true, List, [], ◌∷◌, length, set, get_or, ap, arith}
use Rattle.target_calls.specs.Asks.{settled_last}
use Rattle.target_calls.specs.declared.calls.Ask.{Ask}

-- the last call is the one that is set
pub marked_here : (calls : List Ask) (x d : Ask) (i : ℕ) → suc i ≡ length calls → x ≡ record (get_or calls i d) { settled = true } → set calls i x ≡ settled_last calls
marked_here [] x d i e is = absurd (cc)
marked_here (ask ∷ []) x d zero e is = ap (λ y. y ∷ []) is
marked_here (ask ∷ []) x d (suc i) e is = let no : ⊥ = omega (arith, e) in absurd no
marked_here (ask ∷ second ∷ calls) x d zero e is = let no : ⊥ = omega (arith, e) in absurd no
marked_here (ask ∷ second ∷ calls) x d (suc i) e is = ap (λ ys. ask ∷ ys) (marked_here (second ∷ calls) x d i (omega (arith, e)) is)
