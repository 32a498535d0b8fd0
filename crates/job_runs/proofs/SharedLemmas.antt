-- What is true of entries of the calls that were asked is true of those that they share with the journal of the outcome's calls.
use Rattle.std.proofs.Common.{◌≡◌, ◌∙◌, ◌⊎◌, inl, inr, ℕ, zero, suc, ◌+◌, ◌<◌, ◌≤◌, max, List, [], ◌∷◌, ◌++◌, length, take, drop, refl, sym, ap, subst, arith}
use Rattle.std.specs.List.{AllByRecursion}
use Rattle.std.proofs.lemmas.Bool.{cases_lt}
use Rattle.std.proofs.lemmas.List.{length-append, length-drop, length-take-le, take-append-le, take-take}
use Rattle.target_machine.specs.State.{TargetState}
use Rattle.probe_core.specs.declared.job.Limits.{Limits}
use Rattle.target_calls.specs.Journal.{Entry, Passes}
use Rattle.target_calls.specs.Weights.{entries_performed, weight_in}
use Rattle.target_calls.proofs.EntryLemmas.{performed_fits, performed_most}
use Rattle.access_calls.specs.Standing.{AreTogether, IsMade, flight_accesses}

-- ---- lists that come first in one list

-- Both come first in one list.
pub record Common (theirs own : List Entry) : Type 0 where
  pub all : List Entry
  pub their_rest : List Entry
  pub own_rest : List Entry
  pub their_all : all ≡ theirs ++ their_rest
  pub own_all : all ≡ own ++ own_rest

-- ---- entries that were handed over together

all_front : (P : Entry → Type 0) (xs ys : List Entry) → AllByRecursion P (xs ++ ys) → AllByRecursion P xs
all_front P [] ys h = tt
all_front P (x ∷ xs) ys h = (h.0, all_front P xs ys h.1)

together_front : (limits : Limits) (xs more : List Entry) → AreTogether limits (xs ++ more) → AreTogether limits xs
together_front limits xs more (inl h) = inl (all_front (λ e. IsMade e.action) xs more h.0, (let l = length-append xs more in let k = h.1 in omega (arith, l, k)))
together_front limits [] more (inr one) = inl (tt, omega arith)
together_front limits (x ∷ xs) more (inr one) = inr (let l = length-append (x ∷ xs) more in omega (arith, l, one))

-- a part of the first of two lists comes first in that part of both
part_of_both : (c i : ℕ) (xs ys : List Entry) → (more : List Entry) × (drop c (take i (xs ++ ys)) ≡ drop c (take i xs) ++ more)
part_of_both zero zero [] ys = ([], refl)
part_of_both zero (suc i) [] ys = (take (suc i) ys, refl)
part_of_both (suc c) zero [] ys = ([], refl)
part_of_both (suc c) (suc i) [] ys = (drop (suc c) (take (suc i) ys), refl)
part_of_both zero zero (x ∷ xs) ys = ([], refl)
part_of_both (suc c) zero (x ∷ xs) ys = ([], refl)
part_of_both zero (suc i) (x ∷ xs) ys = (let h = part_of_both zero i xs ys in (h.0, ap (λ (l : List Entry). x ∷ l) h.1))
part_of_both (suc c) (suc i) (x ∷ xs) ys = part_of_both c i xs ys

pub same_together : (limits : Limits) (theirs own : List Entry) (c i : ℕ) → Common theirs own → i ≤ length theirs → AreTogether limits (drop c (take i theirs)) → AreTogether limits (drop c (take i own))
same_together limits theirs own c i h le both =
    let part = part_of_both c i own h.own_rest in
    together_front limits (drop c (take i own)) part.0
    (subst (AreTogether limits) (ap (drop c) (sym (take-append-le i theirs h.their_rest le) ∙ ap (take i) (sym h.their_all ∙ h.own_all)) ∙ part.1) both)

-- how far the two numbers lie apart
pub near_by : (limits : Limits) (theirs : List Entry) (issued confirmed : ℕ) → confirmed ≤ issued → issued ≤ length theirs → AreTogether limits (drop confirmed (take issued theirs))
    → issued ≤ confirmed + max 1 (flight_accesses limits)
near_by limits theirs issued confirmed low within both = by_kind both
  where
    count : length (drop confirmed (take issued theirs)) + confirmed ≡ issued
    count = (let d = length-drop confirmed (take issued theirs) in let t = length-take-le issued theirs within in omega (arith, d, t, low))

    by_kind : AreTogether limits (drop confirmed (take issued theirs)) → issued ≤ confirmed + max 1 (flight_accesses limits)
    by_kind (inl h) = (let k = h.1 in let n = count in omega (arith, k, n))
    by_kind (inr one) = (let n = count in omega (arith, one, n))

-- ---- work

module _ (t : TargetState) (theirs : List Entry) (count work : ℕ) (is : count ≡ entries_performed t theirs work) where
  -- they weigh no more than the work
  pub work_least : (ours : List Entry) → take count theirs ≡ take count ours → weight_in t (take count ours) ≤ work
  work_least ours same =
      subst (λ (l : List Entry). weight_in t l ≤ work) same (subst (λ (n : ℕ). weight_in t (take n theirs) ≤ work) (sym is) (performed_fits t theirs work))

  -- and with one more weigh more
  pub work_less : (begun : ℕ) → count < begun → begun ≤ length theirs → work < weight_in t (take begun theirs)
  work_less begun more long = by_order (cases_lt work (weight_in t (take begun theirs)))
    where
      by_order : (work < weight_in t (take begun theirs)) ⊎ (weight_in t (take begun theirs) ≤ work) → work < weight_in t (take begun theirs)
      by_order (inl less) = less
      by_order (inr fits) = absurd (let k = performed_most t theirs work begun long fits in omega (arith, k, is, more))

-- ---- faults

-- fewer of them are the same too
pub first_same : (m n : ℕ) (theirs ours : List Entry) → m ≤ n → take n theirs ≡ take n ours → take m theirs ≡ take m ours
first_same m n theirs ours le same = sym (take-take m n theirs le) ∙ ap (take m) same ∙ take-take m n ours le

-- entries that pass come first in a list that begins so
pub passes_same : (t : TargetState) (n m : ℕ) (theirs ours : List Entry) → m ≤ n → take n theirs ≡ take n ours → Passes t (take m theirs) → Passes t (take m ours)
passes_same t n m theirs ours le same h =
    subst (Passes t) (first_same m n theirs ours le same) h
