-- Which forgiving calls are skipped, by the steps that they issue.
use Rattle.std.specs.Prelude.{◌≡◌, ◌≢◌, true, List, [], ◌∷◌, ◌++◌}
use Rattle.target_machine.specs.Fresh.{IsFresh}
use Rattle.target_machine.specs.Lists.{PassTo}
use Rattle.target_machine.specs.Plain.{Faulted, Skipped, action_attempt, is_fault}
use Rattle.target_machine.specs.State.{TargetState}
use Rattle.target_calls.specs.Asks.{AreAskable, is_forgiving}
use Rattle.target_calls.specs.declared.calls.Ask.{Ask}
use Rattle.access_regs.specs.Alone.{NoneFaults, call_alone, alone_after, large_of_all}
use Rattle.access_regs.specs.Entries.{kept_by, target_by}
use Rattle.access_regs.specs.Journal.{Step, actions_of, issue_of}
use Rattle.access_regs.specs.declared.planner.Planner.{Planner}

-- the steps of a call that is asked after others
abbrev pub own_steps : Planner → TargetState → List Ask → Ask → List Step
own_steps p t asks ask = (issue_of p (target_by p t asks) (kept_by p t asks) ask).steps

-- After calls of which none ends at a fault, a call that forgives one is skipped where a step of its own faults.
abbrev pub FaultSkips : Type 0
FaultSkips = (p : Planner) (t : TargetState) (asks : List Ask) (ask : Ask) (leads : List Step) (step : Step) (more : List Step) (at : TargetState) →
    IsFresh t → AreAskable (asks ++ ask ∷ []) → NoneFaults t [] asks → is_forgiving ask ≡ true → own_steps p t asks ask ≡ leads ++ step ∷ more →
    PassTo (target_by p t asks) (actions_of leads) at → is_fault (action_attempt at step.action).outcome ≡ true →
    (call_alone (alone_after t [] asks) (large_of_all t [] asks) ask).end ≡ Skipped

-- Where none of its steps faults, a call is neither skipped, nor does it end at a fault.
abbrev pub PassingIsMade : Type 0
PassingIsMade = (p : Planner) (t : TargetState) (asks : List Ask) (ask : Ask) (at : TargetState) → IsFresh t → AreAskable (asks ++ ask ∷ []) → NoneFaults t [] asks →
    PassTo (target_by p t asks) (actions_of (own_steps p t asks ask)) at →
    ((call_alone (alone_after t [] asks) (large_of_all t [] asks) ask).end ≢ Skipped)
    × ((call_alone (alone_after t [] asks) (large_of_all t [] asks) ask).end ≢ Faulted)
