-- Calls that go on from others, with or without a mark between.
use Rattle.std.proofs.Common.{◌≡◌, ◌∙◌, ◌⊎◌, inl, inr, ℕ, ◌+◌, ◌≤◌, List, [], ◌∷◌, ◌++◌, append-nil, length, refl, ap, arith}
use Rattle.std.proofs.lemmas.List.{length-append}
use Rattle.target_calls.specs.Asks.{settled_last}
use Rattle.target_calls.specs.declared.calls.Ask.{Ask}
use Rattle.target_calls.proofs.MarkLemmas.{length_marked}
use Rattle.sequels.specs.Limits.{GoesOnFrom}

-- nothing is left
none_left : {A : Type 0} (few : ℕ) (rest : List A) → few + length rest ≤ few → rest ≡ []
none_left few [] le = refl
none_left few (x ∷ rest) le = absurd (omega (arith, le))

-- they are no fewer
pub from_length : (a b : List Ask) → GoesOnFrom a b → length a ≤ length b
from_length a b g = by_mark g.so
  where
    by_mark : (b ≡ a ++ g.more) ⊎ (b ≡ settled_last a ++ g.more) → length a ≤ length b
    by_mark (inl e) = (let long = ap length e ∙ length-append a g.more in omega (arith, long))
    by_mark (inr e) = (let long = ap length e ∙ length-append (settled_last a) g.more in let same = length_marked a in omega (arith, long, same))

-- where they are no more, they are the same, or a mark is added
pub from_few : (a b : List Ask) → GoesOnFrom a b → length b ≤ length a → (b ≡ a) ⊎ (b ≡ settled_last a)
from_few a b g few = by_mark g.so
  where
    by_mark : (b ≡ a ++ g.more) ⊎ (b ≡ settled_last a ++ g.more) → (b ≡ a) ⊎ (b ≡ settled_last a)
    by_mark (inl e) =
        let none : g.more ≡ [] = none_left (length a) g.more (let long = ap length e ∙ length-append a g.more in omega (arith, long, few)) in
        inl (e ∙ ap (λ (l : List Ask). a ++ l) none ∙ append-nil a)
    by_mark (inr e) =
        let none : g.more ≡ [] = none_left (length a) g.more (let long = ap length e ∙ length-append (settled_last a) g.more in let same = length_marked a in omega (arith, long, same, few)) in
        inr (e ∙ ap (λ (l : List Ask). settled_last a ++ l) none ∙ append-nil (settled_last a))
