-- What is decided of numbers; and the least number of a range that passes, or none does.
use Rattle.std.proofs.Common.{◌≡◌, ◌⊎◌, inl, inr, ℕ, zero, suc, ◌+◌, ◌<◌, ◌≤◌, subst, arith}
use Rattle.std.proofs.lemmas.Bool.{cases_lt}
use Rattle.std.proofs.lemmas.Bool.Decides.{eqb_tells}

-- it is so, or it is not so
abbrev pub Decided : Type 0 → Type 0
Decided P = P ⊎ (P → ⊥)

pub at_most : (n m : ℕ) → Decided (n ≤ m)
at_most n m = elim (cases_lt m n) [ inl lt ↦ inr (λ le. absurd (omega (arith, lt, le))) | inr le ↦ inl le ]

pub less : (n m : ℕ) → Decided (n < m)
less n m = elim (cases_lt n m) [ inl lt ↦ inl lt | inr le ↦ inr (λ lt. absurd (omega (arith, lt, le))) ]

pub same_number : (n m : ℕ) → Decided (n ≡ m)
same_number n m = elim (eqb_tells n m) [ inl w ↦ inl w.1 | inr w ↦ inr w.1 ]

-- the least such number of so many from one on
pub record Least (P : ℕ → Type 0) (from count : ℕ) : Type 0 where
  pub at : ℕ
  pub low : from ≤ at
  pub high : at < from + count
  pub holds : P at
  pub none_before : (j : ℕ) → from ≤ j → j < at → P j → ⊥

-- no such number
abbrev pub NoneOf : (ℕ → Type 0) → ℕ → ℕ → Type 0
NoneOf P from count = (j : ℕ) → from ≤ j → j < from + count → P j → ⊥

module _ (P : ℕ → Type 0) where
  least_here : (from count : ℕ) → P from → Least P from (suc count)
  least_here from count is = record {
    at = from;
    low = omega arith;
    high = omega arith;
    holds = is;
    none_before = λ j ge lt p. absurd (omega (arith, ge, lt));
  }

  none_more : (from j : ℕ) → (P from → ⊥) → from ≤ j → ((from + 1 ≤ j) → P j → ⊥) → P j → ⊥
  none_more from j not ge later p = elim (cases_lt from j) [
    | inl lt ↦ later (omega (arith, lt)) p
    | inr le ↦ let same : j ≡ from = omega (arith, ge, le) in not (subst P same p)
  ]

  pub least : ((k : ℕ) → Decided (P k)) → (count from : ℕ) → Least P from count ⊎ NoneOf P from count
  least decided zero from = inr (λ j ge lt p. absurd (omega (arith, ge, lt)))
  least decided (suc count) from = elim (decided from) [
    | inl is ↦ inl (least_here from count is)
    | inr not ↦ elim (least decided count (from + 1)) [
      | inl l ↦ inl (record {
        at = l.at;
        low = omega (arith, l.low);
        high = omega (arith, l.high);
        holds = l.holds;
        none_before = λ j ge lt p. none_more from j not ge (λ more q. l.none_before j more lt q) p;
      })
      | inr none ↦ inr (λ j ge lt p. none_more from j not ge (λ more q. none j more (omega (arith, lt)) q) p)
    ]
  ]
