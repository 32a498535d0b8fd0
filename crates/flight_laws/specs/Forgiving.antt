-- Into which flights the accesses of a unit made alone are cut.
use Rattle.std.specs.Prelude.{◌≡◌, Bool, true, false, if◌then◌else◌, List, [], ◌∷◌, ◌++◌, map}
use Rattle.target_machine.specs.Lists.{after}
use Rattle.target_machine.specs.Plain.{Action, Commands, Makes, action_attempt, call_actions, forgives, is_fault, may_forgive}
use Rattle.target_machine.specs.State.{TargetState}
use Rattle.target_machine.specs.declared.access.RegAccess.{RegAccess}
use Rattle.target_machine.specs.declared.unit.Call.TheVariants.{Access}
use Rattle.target_machine.specs.declared.unit.Unit.{Unit as AccessUnit}
use Rattle.target_calls.specs.declared.journal.Part.TheVariants.{Ends, Leads, Skips}
use Rattle.access_regs.specs.Entries.{NoneFault}
use Rattle.access_regs.specs.Journal.{Step, alone_at, is_early, is_last, large_of, making}
use Rattle.access_regs.specs.Kept.{Kept}

-- accesses of a unit as steps: the one that it is for, and those that lead to it
abbrev pub steps_of_unit : AccessUnit → List RegAccess → List Step
steps_of_unit asked accesses = map (λ a. record { part = if is_last asked a then Ends else Leads; action = Makes a }) accesses

-- the write of ABORT after accesses of which the last faulted
abbrev pub abort_after : AccessUnit → List RegAccess → Step
abort_after asked accesses = record { part = Skips (is_early asked (making accesses)); action = Commands forgives }

-- these accesses come first among the steps, and nothing follows them where the unit has no more actions
pub record BeginsWithAccesses (steps : List Step) (asked : AccessUnit) (accesses : List RegAccess) (rest : List Action) : Type 0 where
  pub more : List Step
  pub is : steps ≡ steps_of_unit asked accesses ++ more
  pub end : rest ≡ [] → more ≡ []

-- what follows accesses of which the last faulted: the write of ABORT, where the unit forgives the fault
abbrev pub after_fault : Bool → AccessUnit → List RegAccess → List Step
after_fault forgive asked accesses = if forgive then abort_after asked accesses ∷ [] else []

-- Let the accesses before one not fault. Then the steps of a unit made alone begin with them and that one. Where it faults, the write of ABORT
-- follows for a unit that forgives it, and nothing else; where it does not, the rest follows. So a flight may be sent after it, before it is
-- known how the unit goes on.
abbrev pub AloneFlight : Type 0
AloneFlight = (forgive : Bool) (asked : AccessUnit) (t : TargetState) (k : Kept) (lead : List RegAccess) (a : RegAccess) (rest : List Action) →
    may_forgive (Access asked) ≡ true →
    call_actions t (large_of k asked) (Access asked) ≡ making (lead ++ a ∷ []) ++ rest → NoneFault t lead →
    (is_fault (action_attempt (after t (making lead)) (Makes a)).outcome ≡ true →
    (alone_at forgive asked t k).steps ≡ steps_of_unit asked (lead ++ a ∷ []) ++ after_fault forgive asked (lead ++ a ∷ []))
    × (is_fault (action_attempt (after t (making lead)) (Makes a)).outcome ≡ false → BeginsWithAccesses (alone_at forgive asked t k).steps asked (lead ++ a ∷ []) rest)
