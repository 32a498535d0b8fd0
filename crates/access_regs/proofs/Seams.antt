-- Lists that are joined in two ways, and the first entry that faults.
use Rattle.std.proofs.Common.{◌≡◌, ◌⊎◌, inl, inr, Bool, true, false, not, ◌&&◌, List, [], ◌∷◌, ◌++◌, refl, sym, ap, subst}
use Rattle.target_calls.specs.Journal.{Entry, Passes, actions_in}
use Rattle.target_machine.specs.Lists.{after}
use Rattle.target_machine.specs.State.{TargetState}
use Rattle.target_machine.specs.Plain.{action_attempt, is_fault}

-- where a joint lies in one of two lists
pub record InFirst {A : Type 0} (xs front : List A) (e : A) : Type 0 where
  pub more : List A
  pub is : xs ≡ front ++ e ∷ more

pub record InSecond {A : Type 0} (xs ys front : List A) (e : A) (more : List A) : Type 0 where
  pub back : List A
  pub front_is : front ≡ xs ++ back
  pub is : ys ≡ back ++ e ∷ more

pub seam_in : {A : Type 0} → (xs ys front : List A) (e : A) (more : List A) → xs ++ ys ≡ front ++ e ∷ more → InFirst xs front e ⊎ InSecond xs ys front e more
seam_in [] ys front e more is = inr (record { back = front; front_is = refl; is = is })
seam_in (x ∷ xs) ys [] e more is =
    let head : x ≡ e = cc in
    inl (record { more = xs; is = ap (λ y. y ∷ xs) head })
seam_in (x ∷ xs) ys (y ∷ front) e more is =
    let head : x ≡ y = cc in
    let tail : xs ++ ys ≡ front ++ e ∷ more = cc in
    by_place x xs ys y front e more head (seam_in xs ys front e more tail)
  where
    by_place : {A : Type 0} → (x : A) (xs ys : List A) (y : A) (front : List A) (e : A) (more : List A) → x ≡ y → InFirst xs front e ⊎ InSecond xs ys front e more → InFirst (x ∷ xs) (y ∷ front) e ⊎ InSecond (x ∷ xs) ys (y ∷ front) e more
    by_place x xs ys y front e more head (inl h) = inl (record { more = h.more; is = (λ j. head j ∷ h.is j) })
    by_place x xs ys y front e more head (inr h) = inr (record { back = h.back; front_is = (λ j. sym head j ∷ h.front_is j); is = h.is })

-- ---- entries that pass

pub passes_second : (u : TargetState) (xs ys : List Entry) → Passes u (xs ++ ys) → Passes (after u (actions_in xs)) ys
passes_second u [] ys h = h
passes_second u (x ∷ xs) ys h = passes_second (action_attempt u x.action).next xs ys h.1

pub passes_both : (u : TargetState) (xs ys : List Entry) → Passes u xs → Passes (after u (actions_in xs)) ys → Passes u (xs ++ ys)
passes_both u [] ys h k = k
passes_both u (x ∷ xs) ys h k = (h.0, passes_both (action_attempt u x.action).next xs ys h.1 k)

-- an entry that faults where its unit does not forgive
pub record Breaks (u : TargetState) (e : Entry) : Type 0 where
  pub bad : is_fault (action_attempt u e.action).outcome ≡ true
  pub strict : e.forgiving ≡ false

breaks_not : (b c : Bool) → b ≡ true → c ≡ false → (b && not c) ≡ false → ⊥
breaks_not true false e f h = absurd (cc)
breaks_not true true e f h = absurd (cc)
breaks_not false c e f h = absurd (cc)

pub none_breaks : (u : TargetState) (e : Entry) → Breaks u e → (is_fault (action_attempt u e.action).outcome && not e.forgiving) ≡ false → ⊥
none_breaks u e h pass = breaks_not _ _ h.bad h.strict pass

-- entries that pass hold none that breaks
pub passes_none : (u : TargetState) (xs : List Entry) (front : List Entry) (e : Entry) (more : List Entry) → Passes u xs → xs ≡ front ++ e ∷ more → Breaks (after u (actions_in front)) e → ⊥
passes_none u xs front e more pass is bad =
    let all : Passes u (front ++ e ∷ more) = subst (Passes u) is pass in
    let here : Passes (after u (actions_in front)) (e ∷ more) = passes_second u front (e ∷ more) all in
    none_breaks (after u (actions_in front)) e bad here.0

-- the first that breaks is one
pub record SameFirst (front front' : List Entry) (e e' : Entry) : Type 0 where
  pub front_is : front ≡ front'
  pub entry_is : e ≡ e'

pub one_first : (u : TargetState) (front front' : List Entry) (e e' : Entry) (more more' : List Entry) → front ++ e ∷ more ≡ front' ++ e' ∷ more' → Passes u front → Passes u front' → Breaks (after u (actions_in front)) e → Breaks (after u (actions_in front')) e' → SameFirst front front' e e'
one_first u [] [] e e' more more' is pass pass' bad bad' = record { front_is = refl; entry_is = cc }
one_first u [] (y ∷ front') e e' more more' is pass pass' bad bad' =
    let head : e ≡ y = cc in
    absurd (none_breaks u y (subst (Breaks u) head bad) pass'.0)
one_first u (x ∷ front) [] e e' more more' is pass pass' bad bad' =
    let head : e' ≡ x = cc in
    absurd (none_breaks u x (subst (Breaks u) head bad') pass.0)
one_first u (x ∷ front) (y ∷ front') e e' more more' is pass pass' bad bad' =
    let head : x ≡ y = cc in
    let tail : front ++ e ∷ more ≡ front' ++ e' ∷ more' = cc in
    let v : TargetState = (action_attempt u x.action).next in
    let back : (action_attempt u y.action).next ≡ v = ap (λ (z : Entry). (action_attempt u z.action).next) (sym head) in
    let rest : SameFirst front front' e e' = one_first v front front' e e' more more' tail pass.1 (subst (λ (s : TargetState). Passes s front') back pass'.1) bad (subst (λ (s : TargetState). Breaks (after s (actions_in front')) e') back bad') in
    record { front_is = (λ j. head j ∷ rest.front_is j); entry_is = rest.entry_is }

pub after_split : (u : TargetState) (xs ys : List Entry) → after u (actions_in (xs ++ ys)) ≡ after (after u (actions_in xs)) (actions_in ys)
after_split u [] ys = refl
after_split u (x ∷ xs) ys = after_split (action_attempt u x.action).next xs ys
