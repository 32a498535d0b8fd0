-- The mark of a `finish` after the last call, and the calls without it.
use Rattle.std.specs.Prelude.{◌≡◌, ℕ, zero, suc, ◌<◌, false, List, [], ◌∷◌, ◌++◌, length, take, refl}
use Rattle.std.proofs.Common.{◌∙◌, sym, ap, arith}
use Rattle.target_calls.specs.Asks.{is_settled, settled_last}
use Rattle.target_calls.specs.declared.calls.Ask.{Ask}
use Rattle.target_calls.proofs.MarkLemmas.{settled_append}

-- The last call has no mark: its own entries are all that it has.
abbrev pub unmarked_last : List Ask → List Ask
unmarked_last [] = []
unmarked_last (ask ∷ []) = record ask { settled = false } ∷ []
unmarked_last (ask ∷ next ∷ asks) = ask ∷ unmarked_last (next ∷ asks)

-- where it has none the calls are the same
pub unmarked_same : (calls : List Ask) → is_settled calls ≡ false → unmarked_last calls ≡ calls
unmarked_same [] h = refl
unmarked_same (a ∷ []) h = ap (λ m. record a { settled = m } ∷ []) (sym h)
unmarked_same (a ∷ b ∷ calls) h = ap (λ cs. a ∷ cs) (unmarked_same (b ∷ calls) h)

-- a lemma: calls are the same, where the last of them has no mark
pub unmarked_append : (calls : List Ask) (ask : Ask) → ask.settled ≡ false → unmarked_last (calls ++ ask ∷ []) ≡ calls ++ ask ∷ []
unmarked_append calls ask unmarked = unmarked_same (calls ++ ask ∷ []) (settled_append calls ask ∙ unmarked)

-- a mark is taken off, and put on again
pub unmarked_marked : (calls : List Ask) → unmarked_last (settled_last calls) ≡ unmarked_last calls
unmarked_marked [] = refl
unmarked_marked (a ∷ []) = refl
unmarked_marked (a ∷ b ∷ []) = refl
unmarked_marked (a ∷ b ∷ c ∷ calls) = ap (λ cs. a ∷ cs) (unmarked_marked (b ∷ c ∷ calls))

-- a lemma: a mark that is taken off and put on again is there
pub marked_unmarked : (calls : List Ask) → settled_last (unmarked_last calls) ≡ settled_last calls
marked_unmarked [] = refl
marked_unmarked (a ∷ []) = refl
marked_unmarked (a ∷ b ∷ []) = refl
marked_unmarked (a ∷ b ∷ c ∷ calls) = ap (λ cs. a ∷ cs) (marked_unmarked (b ∷ c ∷ calls))

-- a lemma: there are as many calls
pub length_unmarked : (calls : List Ask) → length (unmarked_last calls) ≡ length calls
length_unmarked [] = refl
length_unmarked (a ∷ []) = refl
length_unmarked (a ∷ b ∷ calls) = ap suc (length_unmarked (b ∷ calls))

-- the calls before the last are the same
pub take_unmarked : (n : ℕ) (calls : List Ask) → n < length calls → take n (unmarked_last calls) ≡ take n calls
take_unmarked zero calls less = refl
take_unmarked (suc n) [] less = refl
take_unmarked (suc n) (a ∷ []) less = absurd (omega (arith, less))
take_unmarked (suc n) (a ∷ b ∷ calls) less = ap (λ cs. a ∷ cs) (take_unmarked n (b ∷ calls) (omega (arith, less)))
