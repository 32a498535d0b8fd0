-- Actions in order: what two lists in a row come to.
use Rattle.std.proofs.Common.{◌≡◌, ◌∙◌, ℕ, true, false, List, [], ◌∷◌, ◌++◌, map, drop, get_or, length, ◌<◌, ◌≤◌, ◌+◌, zero, suc, arith, sym, subst, refl, ap}
use Rattle.std.proofs.lemmas.List.{drop_more}
use Rattle.target_machine.proofs.ActionLists.{order_from, order_fault, order_next}
use Rattle.target_machine.specs.Attempt.{Attempt, done_attempt}
use Rattle.target_machine.specs.Plain.{Action, Makes, action_attempt, then_acted, in_order, is_fault}
use Rattle.target_machine.specs.State.{TargetState}
use Rattle.target_machine.specs.declared.access.RegAccess.{RegAccess}

order_append : (m : Attempt) (xs ys : List Action) → order_from m (xs ++ ys) ≡ order_from (order_from m xs) ys
order_append m [] ys = refl
order_append m (x ∷ xs) ys = order_append (then_acted m x) xs ys

-- the first list ends at a fault
pub joined_fault : (t : TargetState) (xs ys : List Action) (x : Attempt) → x ≡ in_order t xs → is_fault x.outcome ≡ true → x ≡ in_order t (xs ++ ys)
joined_fault t xs ys x is bad =
    is ∙ sym (order_append (done_attempt t) xs ys ∙ order_fault (in_order t xs) ys (subst (λ (y : Attempt). is_fault y.outcome ≡ true) is bad))

-- it does not, and the second one follows
pub joined_pass : (t : TargetState) (xs zs : List Action) (x y : Attempt) → (zs ≡ [] → ⊥) → x ≡ in_order t xs → is_fault x.outcome ≡ false → y ≡ in_order x.next zs → y ≡ in_order t (xs ++ zs)
joined_pass t xs [] x y some is good next = absurd (some refl)
joined_pass t xs (a ∷ ys) x y some is good next =
    next ∙ sym (order_append (done_attempt t) xs (a ∷ ys) ∙ ap (λ (z : Attempt). order_from z (a ∷ ys)) (sym is) ∙ order_next x a ys good)

-- ---- accesses one after the other

pub more_accesses : (xs : List RegAccess) (i : ℕ) (d : RegAccess) (m x : Attempt) (whole : Attempt) → whole ≡ order_from m (map Makes (drop i xs)) → is_fault m.outcome ≡ false → i < length xs
    → x ≡ action_attempt m.next (Makes (get_or xs i d)) → whole ≡ order_from x (map Makes (drop (i + 1) xs))
more_accesses xs i d m x whole same good below is =
    same ∙ ap (λ (l : List RegAccess). order_from m (map Makes l)) (drop_more xs i d below)
    ∙ order_next m (Makes (get_or xs i d)) (map Makes (drop (i + 1) xs)) good
    ∙ ap (λ (y : Attempt). order_from y (map Makes (drop (i + 1) xs))) (sym is)

-- the next access faults, and is the last
pub fault_access : (xs : List RegAccess) (i : ℕ) (d : RegAccess) (m x : Attempt) (whole : Attempt) → whole ≡ order_from m (map Makes (drop i xs)) → is_fault m.outcome ≡ false → i < length xs
    → x ≡ action_attempt m.next (Makes (get_or xs i d)) → true ≡ is_fault x.outcome → x ≡ whole
fault_access xs i d m x whole same good below is bad =
    sym (more_accesses xs i d m x whole same good below is ∙ order_fault x (map Makes (drop (i + 1) xs)) (sym bad))

pub end_access : (xs : List RegAccess) (i : ℕ) (m : Attempt) (whole : Attempt) → whole ≡ order_from m (map Makes (drop i xs)) → length xs ≤ i → m ≡ whole
end_access xs i m whole same past = sym (same ∙ ap (λ (l : List RegAccess). order_from m (map Makes l)) (drop_end xs i past))
  where
    drop_end : (ys : List RegAccess) (j : ℕ) → length ys ≤ j → drop j ys ≡ []
    drop_end [] zero h = refl
    drop_end [] (suc j) h = refl
    drop_end (y ∷ ys) zero h = absurd (omega arith)
    drop_end (y ∷ ys) (suc j) h = drop_end ys j (omega arith)
