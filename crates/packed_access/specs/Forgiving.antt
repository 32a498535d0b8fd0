-- How far a unit that is made alone has come, in flights of its own, which forgives a fault or not.
use Rattle.std.specs.Prelude.{◌≡◌, ◌⊎◌, ℕ, ◌+◌, ◌-◌, ◌^◌, min, Bool, true, false, not, if◌then◌else◌, List, [], ◌∷◌, ◌++◌, length, map, slice_get, take, Option, ⊤}
use Rattle.std.specs.Prelude.{Some, None}
use Rattle.target_machine.specs.Lists.{after}
use Rattle.target_machine.specs.Plain.{Action, Makes, action_attempt, call_actions, cfg_actions, given_number, has_large, in_order, is_fault, may_forgive}
use Rattle.target_machine.specs.State.{TargetState}
use Rattle.target_machine.specs.declared.access.RegAccess.{RegAccess}
use Rattle.target_machine.specs.declared.unit.Call.TheVariants.{Access}
use Rattle.target_machine.specs.declared.unit.Unit.{Unit as AccessUnit}
use Rattle.probe_core.specs.Bench.{BenchState}
use Rattle.probe_core.specs.Probe.{target_of}
use Rattle.target_calls.specs.declared.calls.Ask.{Ask}
use Rattle.target_calls.specs.declared.journal.Part.{Part}
use Rattle.target_calls.specs.declared.journal.Part.TheVariants.{Ends, Leads}
use Rattle.access_regs.specs.Entries.{NoneFault}
use Rattle.access_regs.specs.Journal.{Step, alone_at, is_early, large_of, making, numbered_entries, port_of, steps_of}
use Rattle.access_regs.specs.Costs.{leading_reads}
use Rattle.access_regs.specs.Kept.{Kept, forget}
use Rattle.access_regs.specs.Plan.{needs_cfg}
use Rattle.access_calls.specs.Left.{IsLeft}
use Rattle.access_calls.specs.Reported.{AccessView}
use Rattle.access_calls.specs.Standing.{WhereObservable}
use Rattle.access_calls.specs.declared.stop.Stop.{Stop}
use Rattle.flight_laws.specs.Ending.{IsEnded}
use Rattle.flight_laws.specs.Forgiving.{abort_after, steps_of_unit}
use Rattle.packed_access.specs.Begun.{IsIssuing, StopsAfterLines}
use Rattle.packed_access.specs.Logs.{LogState, all_confirmed, all_issued, result_for, with_result}
use Rattle.access_regs.specs.declared.planner.Planner.{Planner}

-- Made alone from t, where this is known of the registers, the unit has made these accesses, of which none faulted, and these actions
-- follow where no later one does. The flight is empty, and what the unit issues after them is still to be issued.
pub record IsTrying (p : Planner) (forgive : Bool) (log : LogState) (asked : AccessUnit) (k : Kept) (t : TargetState) (made : List RegAccess)
    (rest : List Action) (m0 m : BenchState) : Type 0 where
  pub left : List Step
  pub issuing : IsIssuing p log [] (numbered_entries (length log.calls - 1) forgive left) m0 m
  pub actions : call_actions t (large_of k asked) (Access asked) ≡ making made ++ rest
  pub steps : (alone_at forgive asked t k).steps ≡ steps_of_unit asked made ++ left
  pub good : NoneFault t made
  pub target : target_of m.probe ≡ after t (making made)
  pub end : rest ≡ [] → left ≡ []

-- So it is where the bench is observable.
pub record LogHasTried (p : Planner) (forgive : Bool) (state : Option BenchState) (log : LogState) (asked : AccessUnit) (k : Kept) (t : TargetState)
    (made : List RegAccess) (rest : List Action) (m0 : BenchState) : Type 0 where
  pub so : WhereObservable state (λ m. IsTrying p forgive log asked k t made rest m0 m)

-- After accesses of which none faulted this one did, which is forgiven, and ABORT was written: all that the unit issues was made.
pub record IsForgiven (p : Planner) (forgive : Bool) (log : LogState) (asked : AccessUnit) (k : Kept) (t : TargetState) (made : List RegAccess)
    (access : RegAccess) (m0 m : BenchState) : Type 0 where
  pub forgives : forgive ≡ true
  pub issuing : IsIssuing p log [] [] m0 m
  pub steps : (alone_at forgive asked t k).steps ≡ steps_of_unit asked (made ++ access ∷ []) ++ abort_after asked (made ++ access ∷ []) ∷ []
  pub good : NoneFault t made
  pub bad : is_fault (action_attempt (after t (making made)) (Makes access)).outcome ≡ true

-- So it is where the bench is observable.
pub record HasForgiven (p : Planner) (forgive : Bool) (state : Option BenchState) (log : LogState) (asked : AccessUnit) (k : Kept) (t : TargetState)
    (made : List RegAccess) (access : RegAccess) (m0 : BenchState) : Type 0 where
  pub so : WhereObservable state (λ m. IsForgiven p forgive log asked k t made access m0 m)

-- The access has ended so, and there the calls stop.
pub record LogIsBroken (p : Planner) (s : Stop) (a : AccessView) (log : LogState) (calls : List Ask) (m0 : BenchState) : Type 0 where
  pub ended : WhereObservable a.state (λ m. IsEnded p s a (take log.known log.results) m0 m)
  pub stops : (n : Option ℕ) → IsLeft a n → StopsAfterLines m0 n calls log.lines s

-- what the last access of a flight is to its unit
abbrev pub last_part : Bool → Part
last_part ends = if ends then Ends else Leads

-- Among the actions that are left these accesses come next, and then the rest. Only the last of them may fault, and it is the one that
-- the unit is for, or none is. None of those before them is.
pub record AreNextAccesses (asked : AccessUnit) (t : TargetState) (made leads : List RegAccess) (last : RegAccess) (ends : Bool) (rest more : List Action) : Type 0 where
  pub may : may_forgive (Access asked) ≡ true
  pub first : is_early asked (making made) ≡ true
  pub are : rest ≡ making (leads ++ last ∷ []) ++ more
  pub parts : steps_of_unit asked (leads ++ last ∷ []) ≡ steps_of Leads leads ++ record { part = last_part ends; action = Makes last } ∷ []
  pub early : is_early asked (making (made ++ (leads ++ last ∷ []))) ≡ not ends
  pub good : NoneFault (after t (making made)) leads

-- They came, and the last gave this; or the last faulted, and ABORT was written.
abbrev pub WentTo : Planner → Bool → Option ℕ → Option BenchState → LogState → AccessUnit → Kept → TargetState → List RegAccess → List RegAccess → RegAccess →
    List Action → BenchState → Type 0
WentTo p forgive (Some v) state log asked k t made leads last more m0 =
    LogHasTried p forgive state log asked k t (made ++ (leads ++ last ∷ [])) more m0
    × (v ≡ given_number (action_attempt (after t (making (made ++ leads))) (Makes last)).outcome)
WentTo p forgive None state log asked k t made leads last more m0 = HasForgiven p forgive state log asked k t (made ++ leads) last m0

-- Those before the last came one by one, and the last comes next; or one of them faulted, which none does.
abbrev pub LeadsCame : Bool → Planner → Bool → Option BenchState → LogState → AccessUnit → Kept → TargetState → List RegAccess → List RegAccess → RegAccess →
    List Action → BenchState → Type 0
LeadsCame true p forgive state log asked k t made leads last more m0 = LogHasTried p forgive state log asked k t (made ++ leads) (Makes last ∷ more) m0
LeadsCame false p forgive state log asked k t made leads last more m0 = HasForgiven p forgive state log asked k t (made ++ leads) last m0

-- All accesses of the unit were made, and none faulted.
pub record HasAllMade (p : Planner) (forgive : Bool) (state : Option BenchState) (log : LogState) (asked : AccessUnit) (k : Kept) (t : TargetState)
    (m0 : BenchState) : Type 0 where
  pub made : List RegAccess
  pub tried : LogHasTried p forgive state log asked k t made [] m0

-- So it is, and the last of them gave this.
pub record LogHasAnswered (p : Planner) (forgive : Bool) (v : ℕ) (state : Option BenchState) (log : LogState) (asked : AccessUnit) (k : Kept) (t : TargetState)
    (m0 : BenchState) : Type 0 where
  pub made : List RegAccess
  pub last : RegAccess
  pub tried : LogHasTried p forgive state log asked k t (made ++ last ∷ []) [] m0
  pub value : v ≡ given_number (action_attempt (after t (making made)) (Makes last)).outcome

-- One of them faulted, and ABORT was written.
pub record HasSkipped (p : Planner) (forgive : Bool) (state : Option BenchState) (log : LogState) (asked : AccessUnit) (k : Kept) (t : TargetState)
    (m0 : BenchState) : Type 0 where
  pub made : List RegAccess
  pub last : RegAccess
  pub forgiven : HasForgiven p forgive state log asked k t made last m0

-- by what its last access gave, or none where it was skipped
abbrev pub CameTo : Planner → Bool → Option ℕ → Option BenchState → LogState → AccessUnit → Kept → TargetState → BenchState → Type 0
CameTo p forgive (Some v) state log asked k t m0 = LogHasAnswered p forgive v state log asked k t m0
CameTo p forgive None state log asked k t m0 = HasSkipped p forgive state log asked k t m0

-- The read of CFG came, and shows large addresses or not.
abbrev pub CfgShows : AccessUnit → TargetState → Bool → Type 0
CfgShows asked t large = (is_fault (in_order t (cfg_actions (port_of asked))).outcome ≡ false) × (has_large t (port_of asked) ≡ large)

-- the unit ended because its access port has no large addresses; or it did not, was skipped or made
abbrev pub IsSmallBy : Bool → Option ℕ → AccessUnit → Kept → TargetState → Type 0
IsSmallBy true w asked k t = (needs_cfg k asked ≡ true) × CfgShows asked t false
IsSmallBy false None asked k t = ⊤
IsSmallBy false (Some v) asked k t = (needs_cfg k asked ≡ false) ⊎ ((needs_cfg k asked ≡ true) × CfgShows asked t true)

-- what it came to, by that
abbrev pub EndsTo : (p : Planner) (forgive : Bool) → Bool → Option ℕ → Option BenchState → LogState → AccessUnit → Kept → TargetState → BenchState → Type 0
EndsTo p forgive true w state log asked k t m0 = (w ≡ Some 0) × HasAllMade p forgive state log asked k t m0
EndsTo p forgive false w state log asked k t m0 = CameTo p forgive w state log asked k t m0

-- So a unit ended, with so many reads of CFG and CSW before its access. What is noted of the registers is what its plan keeps, once all of its
-- access port is forgotten except whether that has large addresses.
pub record IsDoneBy (p : Planner) (forgive : Bool) (small : Bool) (w : Option ℕ) (reads : ℕ) (noted : Kept) (state : Option BenchState) (log : LogState)
    (asked : AccessUnit) (k : Kept) (t : TargetState) (m0 : BenchState) : Type 0 where
  pub came : EndsTo p forgive small w state log asked k t m0
  pub small_is : IsSmallBy small w asked k t
  pub reads_are : reads ≡ leading_reads (alone_at forgive asked t k).steps
  pub kept_is : forget noted (port_of asked) ≡ (alone_at forgive asked t k).kept

-- all entries of the last call were made, and its last access gave this word
abbrev pub ended_with : LogState → ℕ → LogState
ended_with log word = all_confirmed (with_result (all_issued log) (length log.calls - 1) (result_for (slice_get log.calls (length log.calls - 1)) word))

-- so it is, or the call was skipped
abbrev pub log_after_answer : Option ℕ → LogState → LogState
log_after_answer (Some word) log = ended_with log word
log_after_answer None log = record (ended_with log 0) { skipped = min (log.skipped + 1) (2 ^ 32 - 1) }

-- these accesses were issued as the same to their unit
abbrev pub with_accesses : LogState → ℕ → Part → List RegAccess → LogState
with_accesses log unit part accesses = record log { entries = log.entries ++ map (λ (a : RegAccess). record { unit = unit; part = part }) accesses }
