-- Lists of actions.
use Rattle.std.specs.Prelude.{◌≡◌, ℕ, false, List, [], ◌∷◌, fold, ⊤}
use Rattle.std.specs.FinMap as map
use Rattle.std.specs.List.{AllByRecursion}
use Rattle.std.specs.Ordering.{nat_cmp}
use Rattle.target_machine.specs.Attempt.{gives_rdbuff}
use Rattle.target_machine.specs.Plain.{Action, Makes, Polls, Commands, action_attempt, is_fault}
use Rattle.target_machine.specs.State.{TargetState}
use Rattle.target_machine.specs.declared.ap.ApState.{ApState}

-- the target after these actions, each of which is made whatever the ones before it answered
abbrev pub after : TargetState → List Action → TargetState
after t actions = fold (λ u a. (action_attempt u a).next) t actions

-- From t all these actions are made, none of them faults, and u is the target after them.
abbrev pub PassTo : TargetState → List Action → TargetState → Type 0
PassTo t [] u = u ≡ t
PassTo t (a ∷ rest) u = (is_fault (action_attempt t a).outcome ≡ false) × PassTo (action_attempt t a).next rest u

-- the action does not ask for RDBUFF
abbrev pub SparesRdbuff : Action → Type 0
SparesRdbuff (Makes a) = gives_rdbuff a ≡ false
SparesRdbuff (Polls mask requested turns) = ⊤
SparesRdbuff (Commands c) = ⊤

-- none of the actions asks for RDBUFF
abbrev pub SpareRdbuff : List Action → Type 0
SpareRdbuff actions = AllByRecursion SparesRdbuff actions

-- the target with another RDBUFF and other APs
abbrev pub with_ports : TargetState → ℕ → map.FinMap nat_cmp ApState → TargetState
with_ports t rdbuff aps = record t { rdbuff = rdbuff; aps = aps }

-- the action is no access of an AP, and does not ask for RDBUFF
abbrev pub SparesAps : Action → Type 0
SparesAps (Makes a) = (a.ap ≡ false) × (gives_rdbuff a ≡ false)
SparesAps (Polls mask requested turns) = ⊤
SparesAps (Commands c) = ⊤
