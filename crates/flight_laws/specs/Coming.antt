-- Calls all of whose entries were made: they came, with the results that these entries give.
use Rattle.std.specs.Prelude.{◌≡◌, ℕ, ◌+◌, true, false, List, [], ◌∷◌, ◌++◌, length, slice_index, Option, None}
use Rattle.target_machine.specs.Fresh.{IsFresh}
use Rattle.target_machine.specs.Lists.{PassTo}
use Rattle.target_machine.specs.Plain.{action_attempt, given_number, is_fault, result_of}
use Rattle.target_machine.specs.State.{TargetState}
use Rattle.probe_core.specs.Bench.{BenchState}
use Rattle.probe_core.specs.Probe.{target_of}
use Rattle.target_calls.specs.Asks.{AreAskable, is_forgiving}
use Rattle.target_calls.specs.Journal.{Entry, target_after}
use Rattle.target_calls.specs.World.{AtLeast, results, skips, small_now, start_world, stop}
use Rattle.target_calls.specs.declared.calls.Ask.{Ask}
use Rattle.access_regs.specs.Entries.{kept_by, target_by}
use Rattle.access_regs.specs.Journal.{Step, actions_of, issue_of, issued_entries}
use Rattle.access_regs.specs.Kept.{Kept}
use Rattle.access_regs.specs.Skips.{own_steps}
use Rattle.access_regs.specs.declared.planner.Planner.{Planner}
use Rattle.access_calls.specs.Reported.{AccessView, world_from}
use Rattle.flight_laws.specs.Flying.{IsFlying}
use Rattle.flight_laws.specs.Sending.{IsSending}

-- Where nothing lies in the flight and nothing is left, no call stops in a world that answers them all.
abbrev pub NoneStopped : Type 0
NoneStopped = (p : Planner) (calls : List Ask) (confirmed count : ℕ) (came : List ℕ) (m0 m : BenchState) (n : Option ℕ) →
    IsSending p calls confirmed count [] [] [] came m0 m → AtLeast (length calls) n → stop (world_from m0 n) calls ≡ None

-- All calls came: the access reports so.
pub record AllCallsCame (p : Planner) (calls : List Ask) (confirmed : ℕ) (b : AccessView) (kept : Kept) (came : List ℕ) (m0 : BenchState) : Type 0 where
  pub calls_are : b.asks.calls ≡ calls
  pub kept_is : kept_by p (target_of m0.probe) calls ≡ kept
  pub confirmed_is : b.confirmed ≡ confirmed
  pub issued_is : b.issued ≡ confirmed
  pub came_is : b.came ≡ length calls
  pub came_are : came ≡ results (start_world (target_of m0.probe) None) calls
  pub skipped_is : b.skipped ≡ skips (start_world (target_of m0.probe) None) calls

-- Then it keeps that, and nothing lies in the flight.
abbrev pub AllCame : Type 0
AllCame = (p : Planner) (calls : List Ask) (confirmed count : ℕ) (old came : List ℕ) (m0 m : BenchState) (b : AccessView) (kept : Kept) →
    IsSending p calls confirmed count [] [] [] old m0 m → AllCallsCame p calls confirmed b kept came m0 → IsFlying p b kept [] came m0 m

-- The result of a call that forgives nothing, and does not end because its AP has no large addresses, is given by the last entry
-- that it issues itself.
abbrev pub ResultGiven : Type 0
ResultGiven = (p : Planner) (t : TargetState) (asks : List Ask) (ask : Ask) (more : List Ask) (front : List Entry) (e : Entry) (rest : List Entry) → IsFresh t →
    AreAskable (asks ++ ask ∷ more) →
    stop (start_world t None) (asks ++ ask ∷ more) ≡ None → is_forgiving ask ≡ false → small_now (start_world t None) asks ask ≡ false →
    issued_entries p t (asks ++ ask ∷ more) ≡ front ++ e ∷ rest → length front + 1
    ≡ length (issued_entries p t asks) + length (issue_of p (target_by p t asks) (kept_by p t asks) ask).steps →
    slice_index (results (start_world t None) (asks ++ ask ∷ more)) (length asks)
    ≡ result_of ask.call (given_number (action_attempt (target_after t front) e.action).outcome)

-- ---- one call more

-- After calls at none of which they stop, a call that forgives a fault counts as skipped where a step of its own faults, and its
-- result is 0.
abbrev pub SkipComes : Type 0
SkipComes = (p : Planner) (t : TargetState) (asks : List Ask) (ask : Ask) (leads : List Step) (step : Step) (more : List Step) (at : TargetState) →
    IsFresh t → AreAskable (asks ++ ask ∷ []) → stop (start_world t None) asks ≡ None → is_forgiving ask ≡ true → own_steps p t asks ask ≡ leads ++ step ∷ more →
    PassTo (target_by p t asks) (actions_of leads) at → is_fault (action_attempt at step.action).outcome ≡ true →
    (skips (start_world t None) (asks ++ ask ∷ []) ≡ skips (start_world t None) asks + 1)
    × (results (start_world t None) (asks ++ ask ∷ []) ≡ results (start_world t None) asks ++ 0 ∷ [])

-- A call none of whose steps faults does not.
abbrev pub PassComes : Type 0
PassComes = (p : Planner) (t : TargetState) (asks : List Ask) (ask : Ask) (at : TargetState) → IsFresh t → AreAskable (asks ++ ask ∷ []) →
    stop (start_world t None) asks ≡ None →
    PassTo (target_by p t asks) (actions_of (own_steps p t asks ask)) at → skips (start_world t None) (asks ++ ask ∷ []) ≡ skips (start_world t None) asks

-- Its result is given by the last entry that it issues itself, where it does not end because its AP has no large addresses.
abbrev pub PassGiven : Type 0
PassGiven = (p : Planner) (t : TargetState) (asks : List Ask) (ask : Ask) (front : List Entry) (e : Entry) (rest : List Entry) (at : TargetState) → IsFresh t →
    AreAskable (asks ++ ask ∷ []) →
    stop (start_world t None) asks ≡ None → PassTo (target_by p t asks) (actions_of (own_steps p t asks ask)) at → small_now (start_world t None) asks ask ≡ false →
    issued_entries p t (asks ++ ask ∷ []) ≡ front ++ e ∷ rest → length front + 1 ≡ length (issued_entries p t asks) + length (own_steps p t asks ask) →
    results (start_world t None) (asks ++ ask ∷ [])
    ≡ results (start_world t None) asks ++ result_of ask.call (given_number (action_attempt (target_after t front) e.action).outcome) ∷ []

-- Where it ends so, its result is 0.
abbrev pub SmallGiven : Type 0
SmallGiven = (t : TargetState) (asks : List Ask) (ask : Ask) → stop (start_world t None) asks ≡ None → small_now (start_world t None) asks ask ≡ true →
    (skips (start_world t None) (asks ++ ask ∷ []) ≡ skips (start_world t None) asks)
    × (results (start_world t None) (asks ++ ask ∷ []) ≡ results (start_world t None) asks ++ 0 ∷ [])
