-- Actions of which none faults, and what follows them.
use Rattle.std.proofs.Common.{◌≡◌, ◌∙◌, false, List, [], ◌∷◌, ◌++◌, sym, refl, ap}
use Rattle.target_machine.proofs.ActionLists.{order_from, pass_order}
use Rattle.target_machine.specs.Attempt.{Attempt, done_attempt}
use Rattle.target_machine.specs.Lists.{PassTo}
use Rattle.target_machine.specs.Plain.{Action, action_attempt, in_order, is_fault}
use Rattle.target_machine.specs.State.{TargetState}

-- one action
pub pass_one : (t : TargetState) (a : Action) (x : Attempt) → action_attempt t a ≡ x → is_fault x.outcome ≡ false → PassTo t (a ∷ []) x.next
pass_one t a x e good = (ap (λ (y : Attempt). is_fault y.outcome) e ∙ good, ap (λ (y : Attempt). y.next) (sym e))

-- the actions in order are those that follow ones that pass
pub pass_on : (t u : TargetState) (xs : List Action) (a : Action) (ys : List Action) → PassTo t xs u → in_order t (xs ++ a ∷ ys) ≡ order_from (action_attempt u a) ys
pass_on t u xs a ys h = pass_order (done_attempt t) t u xs a ys refl refl h
