-- What a sort and a `dedup` leave of the faults of one text.
use Rattle.std.proofs.Common.{◌≡◌, ◌∙◌, sym, subst, ℕ, suc, ◌<◌, ◌≤◌, Bool, true, false, not, cond, List, [], ◌∷◌, length, get_or, refl, arith, true≢false, inl, inr}
use Rattle.std.proofs.lemmas.Bool.{not-true, not-false}
use Rattle.std.specs.Prelude.{Contains}
use Rattle.std.specs.Cmp.{IsStrictWeakOrder}
use Rattle.std.specs.List.{AllByRecursion, dedup, dedup_from}
use Rattle.std.specs.List.Sorted.{IsSortedBy, IsPermutation}
use Rattle.std.proofs.lemmas.List.Sorted.{sorted_far, Contains-permutation, IsPermutation-sym}
use Rattle.std.proofs.lemmas.List.Kept.{Contains-from_dedup}
use Rattle.code_check.specs.declared.fault.CodeFault.{CodeFault}
use Rattle.code_check.specs.Order.{is_before}
use Rattle.code_check.proofs.OrderLemmas.{is_before-irrefl, is_before-asym, is_before-not_trans}
use Rattle.code_check.proofs.OneFirst.{is_before-total}
use Rattle.set_faults.specs.Listed.{Rises, IsListOf}
use Rattle.set_faults.proofs.ListLemmas.{contains_first, contains_more, contains_cases, all_from, all_at}

pub is_order : IsStrictWeakOrder is_before
is_order = record { one_way = λ f g h. is_before-asym f g h; chain = is_before-not_trans }

-- none of those after it is before it
abbrev Stands : CodeFault → List CodeFault → Type 0
Stands f more = AllByRecursion (λ g. is_before g f ≡ false) more

abbrev StandsEach : List CodeFault → Type 0
StandsEach [] = Unit {0}
StandsEach (f ∷ more) = Stands f more × StandsEach more

stands_each : (xs : List CodeFault) → ((i j : ℕ) (d : CodeFault) → i ≤ j → j < length xs → is_before (get_or xs j d) (get_or xs i d) ≡ false) → StandsEach xs
stands_each [] far = tt
stands_each (x ∷ xs) far = (
  all_from (λ g. is_before g x ≡ false) xs (λ y c. (let lt = c.1 in subst (λ z. is_before z x ≡ false) c.2 (far 0 (suc c.0) y (omega arith) (omega arith)))),
  stands_each xs (λ i j d le lt. far (suc i) (suc j) d (omega arith) (omega arith)),
)

-- a fault is dropped where the last one kept is not before it
abbrev pub is_again : CodeFault → CodeFault → Bool
is_again f kept = not (is_before kept f)

not_again : (k x : CodeFault) → is_again x k ≡ false → is_before k x ≡ true
not_again k x e = not-false (is_before k x) e

again : (k x : CodeFault) → is_again x k ≡ true → is_before k x ≡ false
again k x e = not-true (is_before k x) e

-- the faults that are left were there
left : (k : CodeFault) (xs : List CodeFault) (y : CodeFault) → Contains (dedup_from is_again k xs) y → Contains (k ∷ xs) y
left k xs y c = Contains-from_dedup is_again (k ∷ xs) y c

-- what is before x is before what does not stand before x
past : (k x y : CodeFault) (b : Bool) → is_before k y ≡ b → is_before k x ≡ true → is_before y x ≡ false → b ≡ true
past k x y true e first later = refl
past k x y false e first later = absurd (true≢false (sym first ∙ is_before-not_trans k y x e later))

later : (x : CodeFault) (xs : List CodeFault) → Stands x xs → (y : CodeFault) → Contains (x ∷ xs) y → is_before y x ≡ false
later x xs h y c = elim (contains_cases x xs y c) [ inl e ↦ subst (λ z. is_before z x ≡ false) e (is_before-irrefl x) | inr more ↦ all_at (λ g. is_before g x ≡ false) xs h y more ]

picked : (k x : CodeFault) (xs : List CodeFault) (b : Bool) → is_again x k ≡ b → StandsEach (k ∷ x ∷ xs) → Rises is_before (dedup_from is_again k xs) → Rises is_before (dedup_from is_again x xs)
    → Rises is_before (cond b (dedup_from is_again k xs) (k ∷ dedup_from is_again x xs))
picked k x xs true e h without rest = without
picked k x xs false e h without rest =
    (all_from (λ g. is_before k g ≡ true) (dedup_from is_again x xs) (λ y c. past k x y (is_before k y) refl (not_again k x e) (later x xs h.1.0 y (left x xs y c))), rest)

rises_left : (k : CodeFault) (xs : List CodeFault) → StandsEach (k ∷ xs) → Rises is_before (dedup_from is_again k xs)
rises_left k [] h = (tt, tt)
rises_left k (x ∷ xs) h = picked k x xs (is_again x k) refl h (rises_left k xs (h.0.1, h.1.1)) (rises_left x xs h.1)

rises_dedup : (xs : List CodeFault) → StandsEach xs → Rises is_before (dedup is_again xs)
rises_dedup [] h = tt
rises_dedup (k ∷ xs) h = rises_left k xs h

-- each fault is left, since only what is the same is dropped
kept_at : (k x : CodeFault) (xs : List CodeFault) (y : CodeFault) (b : Bool) → is_again x k ≡ b → is_before x k ≡ false → (Contains (k ∷ xs) y → Contains (dedup_from is_again k xs) y)
    → (Contains (x ∷ xs) y → Contains (dedup_from is_again x xs) y) → Contains (k ∷ x ∷ xs) y → Contains (cond b (dedup_from is_again k xs) (k ∷ dedup_from is_again x xs)) y
kept_at k x xs y true e stands without rest c =
    let same : k ≡ x = is_before-total k x (again k x e) stands in
    without (elim (contains_cases k (x ∷ xs) y c) [
      | inl first ↦ subst (Contains (k ∷ xs)) first (contains_first k xs)
      | inr more ↦ elim (contains_cases x xs y more) [ inl it ↦ subst (Contains (k ∷ xs)) (same ∙ it) (contains_first k xs) | inr after ↦ contains_more k xs y after ]
    ])
kept_at k x xs y false e stands without rest c = elim (contains_cases k (x ∷ xs) y c) [
  | inl first ↦ subst (Contains (k ∷ dedup_from is_again x xs)) first (contains_first k (dedup_from is_again x xs))
  | inr more ↦ contains_more k (dedup_from is_again x xs) y (rest more)
]

kept_from : (k : CodeFault) (xs : List CodeFault) → StandsEach (k ∷ xs) → (y : CodeFault) → Contains (k ∷ xs) y → Contains (dedup_from is_again k xs) y
kept_from k [] h y c = c
kept_from k (x ∷ xs) h y c = kept_at k x xs y (is_again x k) refl h.0.0 (kept_from k xs (h.0.1, h.1.1) y) (kept_from x xs h.1 y) c

kept : (xs : List CodeFault) → StandsEach xs → (y : CodeFault) → Contains xs y → Contains (dedup is_again xs) y
kept [] h y c = c
kept (k ∷ xs) h y c = kept_from k xs h y c

-- the faults, in order, each once
pub listed_sorted : (all sorted list : List CodeFault) → IsPermutation all sorted → IsSortedBy is_before sorted → list ≡ dedup is_again sorted → IsListOf is_before (Contains all) list
listed_sorted all sorted list moved up e =
    let stands = stands_each sorted (sorted_far is_before is_order sorted up) in
    rw e (record {
      rises = rises_dedup sorted stands;
      holds = λ f c. Contains-permutation sorted all f (IsPermutation-sym all sorted moved) (Contains-from_dedup is_again sorted f c);
      has = λ f c. kept sorted stands f (Contains-permutation all sorted f moved c);
    })
