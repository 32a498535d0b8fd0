-- Lists of actions: which of them are made, what the last one answers, and the target after them.
use Rattle.std.proofs.Common.{◌≡◌, ◌∙◌, Bool, true, false, cond, List, [], ◌∷◌, ◌++◌, refl, sym, ap, subst, fold}
use Rattle.target_machine.specs.Attempt.{Attempt, done_attempt}
use Rattle.target_machine.specs.Lists.{after, PassTo}
use Rattle.target_machine.specs.Plain.{Action, action_attempt, then_acted, in_order, is_fault, issued_actions}
use Rattle.target_machine.specs.State.{TargetState}

pub after_append : (t : TargetState) (xs ys : List Action) → after t (xs ++ ys) ≡ after (after t xs) ys
after_append t [] ys = refl
after_append t (x ∷ xs) ys = after_append (action_attempt t x).next xs ys

pub pass_append : (t u v : TargetState) (xs ys : List Action) → PassTo t xs u → PassTo u ys v → PassTo t (xs ++ ys) v
pass_append t u v [] ys h k = subst (λ (s : TargetState). PassTo s ys v) h k
pass_append t u v (x ∷ xs) ys h k = (h.0, pass_append (action_attempt t x).next u v xs ys h.1 k)

pub pass_after : (t u : TargetState) (xs : List Action) → PassTo t xs u → after t xs ≡ u
pass_after t u [] h = sym h
pass_after t u (x ∷ xs) h = pass_after (action_attempt t x).next u xs h.1

abbrev pub order_from : Attempt → List Action → Attempt
order_from m actions = fold then_acted m actions

pub order_fault : (m : Attempt) (xs : List Action) → is_fault m.outcome ≡ true → order_from m xs ≡ m
order_fault m [] e = refl
order_fault m (x ∷ xs) e =
    let same : then_acted m x ≡ m = ap (λ (b : Bool). cond b m (action_attempt m.next x)) e in
    ap (λ (y : Attempt). order_from y xs) same ∙ order_fault m xs e

pub order_next : (m : Attempt) (a : Action) (ys : List Action) → is_fault m.outcome ≡ false → order_from m (a ∷ ys) ≡ order_from (action_attempt m.next a) ys
order_next m a ys good = ap (λ (b : Bool). order_from (cond b m (action_attempt m.next a)) ys) good

-- the actions in order are those that follow ones that pass
pub pass_order : (m : Attempt) (t u : TargetState) (xs : List Action) (a : Action) (ys : List Action) → is_fault m.outcome ≡ false → m.next ≡ t → PassTo t xs u →
    order_from m (xs ++ a ∷ ys) ≡ order_from (action_attempt u a) ys
pass_order m t u [] a ys good at h = order_next m a ys good ∙ ap (λ (s : TargetState). order_from (action_attempt s a) ys) (at ∙ sym h)
pass_order m t u (x ∷ xs) a ys good at h =
    order_next m x (xs ++ a ∷ ys) good
    ∙ ap (λ (s : TargetState). order_from (action_attempt s x) (xs ++ a ∷ ys)) at
    ∙ pass_order (action_attempt t x) (action_attempt t x).next u xs a ys h.0 refl h.1

pub pass_last : (t u : TargetState) (xs : List Action) (a : Action) → PassTo t xs u → in_order t (xs ++ a ∷ []) ≡ action_attempt u a
pass_last t u xs a h = pass_order (done_attempt t) t u xs a [] refl refl h

pub pass_then_fault : (t u : TargetState) (xs : List Action) (a : Action) (ys : List Action) → PassTo t xs u → is_fault (action_attempt u a).outcome ≡ true →
    in_order t (xs ++ a ∷ ys) ≡ action_attempt u a
pass_then_fault t u xs a ys h bad = pass_order (done_attempt t) t u xs a ys refl refl h ∙ order_fault (action_attempt u a) ys bad

-- ---- what is issued

issued_by : (m : Attempt) (x : Action) (xs : List Action) → is_fault m.outcome ≡ false →
    (is_fault (action_attempt m.next x).outcome ≡ false → after (action_attempt m.next x).next (issued_actions (action_attempt m.next x).next xs) ≡ (order_from (action_attempt m.next x) xs).next) →
    (b : Bool) → is_fault (action_attempt m.next x).outcome ≡ b → after m.next (issued_actions m.next (x ∷ xs)) ≡ (order_from m (x ∷ xs)).next
issued_by m x xs good more true e =
    ap (λ (b : Bool). after (action_attempt m.next x).next (cond b [] (issued_actions (action_attempt m.next x).next xs))) e
    ∙ sym (ap (λ (y : Attempt). y.next) (order_next m x xs good ∙ order_fault (action_attempt m.next x) xs e))
issued_by m x xs good more false e =
    ap (λ (b : Bool). after (action_attempt m.next x).next (cond b [] (issued_actions (action_attempt m.next x).next xs))) e
    ∙ more e
    ∙ sym (ap (λ (y : Attempt). y.next) (order_next m x xs good))

issued_after : (xs : List Action) (m : Attempt) → is_fault m.outcome ≡ false → after m.next (issued_actions m.next xs) ≡ (order_from m xs).next
issued_after [] m good = refl
issued_after (x ∷ xs) m good = issued_by m x xs good (λ e. issued_after xs (action_attempt m.next x) e) (is_fault (action_attempt m.next x).outcome) refl

pub after_issued : (xs : List Action) (t : TargetState) → after t (issued_actions t xs) ≡ (in_order t xs).next
after_issued xs t = issued_after xs (done_attempt t) refl

pass_by : (m : Attempt) (x : Action) (xs : List Action) → is_fault m.outcome ≡ false → is_fault (order_from m (x ∷ xs)).outcome ≡ false →
    (is_fault (action_attempt m.next x).outcome ≡ false → (issued_actions (action_attempt m.next x).next xs ≡ xs) × PassTo (action_attempt m.next x).next xs (order_from (action_attempt m.next x) xs).next) →
    (b : Bool) → is_fault (action_attempt m.next x).outcome ≡ b → (issued_actions m.next (x ∷ xs) ≡ x ∷ xs) × PassTo m.next (x ∷ xs) (order_from m (x ∷ xs)).next
pass_by m x xs good all more true e =
    let bad : is_fault (order_from m (x ∷ xs)).outcome ≡ true = ap (λ (y : Attempt). is_fault y.outcome) (order_next m x xs good ∙ order_fault (action_attempt m.next x) xs e) ∙ e in
    let no : true ≡ false = sym bad ∙ all in absurd (cc)
pass_by m x xs good all more false e =
    let h = more e in (
      ap (λ (b : Bool). x ∷ cond b [] (issued_actions (action_attempt m.next x).next xs)) e ∙ ap (λ (l : List Action). x ∷ l) h.0,
      (e, subst (λ (y : Attempt). PassTo (action_attempt m.next x).next xs y.next) (sym (order_next m x xs good)) h.1),
    )

pass_from : (xs : List Action) (m : Attempt) → is_fault m.outcome ≡ false → is_fault (order_from m xs).outcome ≡ false →
    (issued_actions m.next xs ≡ xs) × PassTo m.next xs (order_from m xs).next
pass_from [] m good all = (refl, refl)
pass_from (x ∷ xs) m good all =
    pass_by m x xs good all (λ e. pass_from xs (action_attempt m.next x) e (ap (λ (y : Attempt). is_fault y.outcome) (sym (order_next m x xs good)) ∙ all)) (is_fault (action_attempt m.next x).outcome) refl

-- where the actions in order do not fault, all of them are issued and pass
pub issued_pass : (xs : List Action) (t : TargetState) → is_fault (in_order t xs).outcome ≡ false → (issued_actions t xs ≡ xs) × PassTo t xs (in_order t xs).next
issued_pass xs t good = pass_from xs (done_attempt t) refl good
