-- How a call goes that is made by what it issues, against the same call alone and at once.
use Rattle.std.specs.Prelude.{◌≡◌, ◌≢◌, Bool, true, false, ◌&&◌, List, [], ◌∷◌, ◌++◌, ⊤}
use Rattle.target_machine.specs.Lists.{after, PassTo}
use Rattle.target_machine.specs.Plain.{Action, Commands, action_attempt, forgives, given_number, is_fault, result_of, CallDone, Answered, Skipped, Faulted, Small}
use Rattle.target_machine.specs.State.{TargetState}
use Rattle.target_machine.specs.declared.unit.Call.{Call}
use Rattle.target_calls.specs.Journal.{settles}
use Rattle.target_calls.specs.declared.journal.Part.TheVariants.{Settles, Ends, Skips}
use Rattle.access_regs.specs.Follows.{Follows}
use Rattle.access_regs.specs.Journal.{Issue, Step, actions_of}

-- It has the result of the call by its last step, and no step faults.
pub record IsAnswered (i : Issue) (d : CallDone) (call : Call) (u : TargetState) : Type 0 where
  pub leads : List Step
  pub action : Action
  pub at : TargetState
  pub steps : i.steps ≡ leads ++ record { part = Ends; action = action } ∷ []
  pub pass : PassTo u (actions_of leads) at
  pub good : is_fault (action_attempt at action).outcome ≡ false
  pub end : d.end ≡ Answered (result_of call (given_number (action_attempt at action).outcome))
  pub follows : Follows i.kept d.large d.next (action_attempt at action).next

-- The first step that faults is an own one, the call ends at a fault, and the memory is the same.
pub record IsStopped (i : Issue) (d : CallDone) (u : TargetState) : Type 0 where
  pub leads : List Step
  pub step : Step
  pub more : List Step
  pub at : TargetState
  pub steps : i.steps ≡ leads ++ step ∷ more
  pub own : step.part ≢ Settles
  pub pass : PassTo u (actions_of leads) at
  pub bad : is_fault (action_attempt at step.action).outcome ≡ true
  pub end : d.end ≡ Faulted
  pub words : (action_attempt at step.action).next.words ≡ d.next.words

-- The call ends as its AP has no large addresses, and no step faults.
pub record IsSmall (i : Issue) (d : CallDone) (u : TargetState) : Type 0 where
  pub at : TargetState
  pub pass : PassTo u (actions_of i.steps) at
  pub end : d.end ≡ Small
  pub follows : Follows i.kept d.large d.next at

-- no step that settles faults
abbrev pub IsPassing : TargetState → List Step → Type 0
IsPassing u [] = ⊤
IsPassing u (s ∷ steps) = ((is_fault (action_attempt u s.action).outcome && settles s.part) ≡ false) × IsPassing (action_attempt u s.action).next steps

-- The call is skipped, as it forgives a fault of its own: one step faults, and the write of ABORT comes right after it and last.
pub record IsSkipped (i : Issue) (d : CallDone) (u : TargetState) : Type 0 where
  pub leads : List Step
  pub step : Step
  pub early : Bool
  pub at : TargetState
  pub steps : i.steps ≡ leads ++ step ∷ record { part = Skips early; action = Commands forgives } ∷ []
  pub own : step.part ≢ Settles
  pub pass : PassTo u (actions_of leads) at
  pub bad : is_fault (action_attempt at step.action).outcome ≡ true
  pub end : d.end ≡ Skipped
  pub passes : IsPassing u i.steps
  pub follows : Follows i.kept d.large d.next (after u (actions_of i.steps))

-- One of these, by the end of the call alone.
pub data Course (i : Issue) (d : CallDone) (call : Call) (u : TargetState) : Type 0 where
  answered : IsAnswered i d call u → Course i d call u
  stopped : IsStopped i d u → Course i d call u
  small : IsSmall i d u → Course i d call u
  skipped : IsSkipped i d u → Course i d call u
