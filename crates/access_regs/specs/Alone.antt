-- Calls made alone and at once, one after the other; and what the journal says of them.
use Rattle.std.specs.Prelude.{◌≡◌, ◌≢◌, ℕ, true, false, List, [], ◌∷◌, ◌++◌, ⊤}
use Rattle.target_machine.specs.Plain.{Action, action_attempt, call_done, given_number, is_fault, result_of, CallDone, Faulted}
use Rattle.target_machine.specs.State.{TargetState}
use Rattle.target_machine.specs.declared.unit.Call.{Call}
use Rattle.target_calls.specs.Journal.{Entry, Passes, target_after}
use Rattle.target_calls.specs.declared.calls.Ask.{Ask}
use Rattle.target_calls.specs.declared.journal.Part.TheVariants.{Settles, Ends}
use Rattle.access_regs.specs.Journal.{Step}

-- one call, with whether it is forgiving
abbrev pub call_alone : TargetState → List ℕ → Ask → CallDone
call_alone t large c = call_done t large c.forgive c.call

-- the target after the calls
abbrev pub alone_after : TargetState → List ℕ → List Ask → TargetState
alone_after t large [] = t
alone_after t large (c ∷ cs) = alone_after (call_alone t large c).next (call_alone t large c).large cs

-- the APs that are known to have large addresses after the calls
abbrev pub large_of_all : TargetState → List ℕ → List Ask → List ℕ
large_of_all t large [] = large
large_of_all t large (c ∷ cs) = large_of_all (call_alone t large c).next (call_alone t large c).large cs

-- No call ends at a fault; forgiving ones may have met some.
abbrev pub NoneFaults : TargetState → List ℕ → List Ask → Type 0
NoneFaults t large [] = ⊤
NoneFaults t large (c ∷ cs) = ((call_alone t large c).end ≢ Faulted) × NoneFaults (call_alone t large c).next (call_alone t large c).large cs

-- Of these entries one is the first that gives a fault which its unit does not forgive.
pub record StopsAt (t : TargetState) (entries : List Entry) (front : List Entry) (entry : Entry) : Type 0 where
  pub more : List Entry
  pub is : entries ≡ front ++ entry ∷ more
  pub passes : Passes t front
  pub faults : is_fault (action_attempt (target_after t front) entry.action).outcome ≡ true
  pub strict : entry.forgiving ≡ false

-- It is an own entry of this unit, and leaves the memory of this target.
pub record StopsInLast (t : TargetState) (entries : List Entry) (units : ℕ) (left : TargetState) : Type 0 where
  pub front : List Entry
  pub entry : Entry
  pub stops : StopsAt t entries front entry
  pub unit : entry.unit ≡ units
  pub own : entry.part ≢ Settles
  pub words : (action_attempt (target_after t front) entry.action).next.words ≡ left.words

-- The result of a call is given by the entry that its unit is for.
pub record AnswersWith (t : TargetState) (entries : List Entry) (units : ℕ) (call : Call) (n : ℕ) : Type 0 where
  pub front : List Entry
  pub entry : Entry
  pub more : List Entry
  pub is : entries ≡ front ++ entry ∷ more
  pub unit : entry.unit ≡ units
  pub ends : entry.part ≡ Ends
  pub gives : result_of call (given_number (action_attempt (target_after t front) entry.action).outcome) ≡ n

-- Each step but the one that its unit is for leaves the memory as it is.
abbrev pub KeepsMemory : TargetState → List Step → Type 0
KeepsMemory t [] = ⊤
KeepsMemory t (s ∷ steps) = (s.part ≢ Ends → (action_attempt t s.action).next.words ≡ t.words) × KeepsMemory (action_attempt t s.action).next steps

-- what the calls issue, each made alone
abbrev pub actions_alone : TargetState → List ℕ → List Ask → List Action
actions_alone t large [] = []
actions_alone t large (c ∷ cs) = (call_alone t large c).actions ++ actions_alone (call_alone t large c).next (call_alone t large c).large cs
