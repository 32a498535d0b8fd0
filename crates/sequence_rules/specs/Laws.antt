-- Laws of runs.
use Rattle.std.specs.Prelude.{◌≡◌, ◌⊎◌, ℕ, ◌+◌, ◌≤◌, min, Bool, true, false, List, [], ◌∷◌, ◌++◌, length, Option, Some, None}
use Rattle.target_calls.specs.declared.calls.Ask.{Ask}
use Rattle.target_calls.specs.declared.calls.Value.{Value}
use Rattle.target_calls.specs.NeedPoints.{Costs}
use Rattle.target_calls.specs.World.{World, stop, world_after, skips, is_over}
use Rattle.sequence_trees.specs.Trees.{SetTrees}
use Rattle.target_machine.specs.State.{TargetState}
use Rattle.target_machine.specs.declared.unit.Call.{Call}
use Rattle.sequence_rules.specs.Alike.{Matches, Equal}
use Rattle.sequence_rules.specs.Complete.{IsComplete}
use Rattle.sequence_rules.specs.Direct.{Now, direct}
use Rattle.sequence_rules.specs.Late.{Late, late, ComesTo, SameRest, StoppedBy, Grows, Later}
use Rattle.sequence_rules.specs.Machine.{State, Out, end_state}
use Rattle.sequence_rules.specs.Runs as ending
use Rattle.sequence_rules.specs.Runs.{Program, Ending, Outcome, outcome_of, outcome, outcome_within, units_of, meaning, watched_run, late_meaning}
use Rattle.sequence_rules.specs.Runs.{target_at, written_before}
use Rattle.sequence_rules.specs.Steady.{Goes}
use Rattle.sequence_rules.specs.Steps.{run_of}

-- ---- results that come later

-- The run with results that come later does what the meaning does in the same world, as far as the meaning goes.
abbrev pub Pair : World → Out Value Late (Unit {0}) → Out ℕ Now (Unit {0}) → Type 0
Pair w out q = Matches (ComesTo w) (SameRest w) (StoppedBy w) Equal out q

-- that is so of each program
abbrev pub LateValuesChangeNothing : Type 0
LateValuesChangeNothing = (cost : Costs) (w : World) (p : Program) (written : Option (List ℕ)) → Pair w (late_meaning cost w p written) (meaning w p written)

-- ---- what runs add

-- calls are added after those that were made, and lines after those that were written
pub record Adds (t u : Now) : Type 0 where
  pub more : List Ask
  pub calls : u.calls ≡ t.calls ++ more
  pub lines : Grows t.written u.written

-- a run only adds
abbrev pub RunsOnlyAdd : Type 0
RunsOnlyAdd = (watchful : Bool) (turn_us : ℕ) (set : SetTrees) (start : List ℕ) (s : State ℕ Now) → Goes Adds s (run_of (direct watchful) turn_us set start s)

-- ---- the calls of a run

-- the calls stop at their last one, which is answered or not
pub record StopAtLast (w : World) (unanswered : Bool) (calls : List Ask) : Type 0 where
  pub earlier : List Ask
  pub last : Ask
  pub parts : calls ≡ earlier ++ last ∷ []
  pub cause : is_over (world_after w earlier).answered ≡ unanswered
  pub first : stop w calls ≡ Some (length calls)

-- the calls stop at their last one, at a fault of this call
pub record FaultAtLast (w : World) (call : Call) (calls : List Ask) : Type 0 where
  pub stopped : StopAtLast w false calls
  pub call_is : call ≡ stopped.last.call

-- the calls do not stop where a run is Done or Halted; else they stop at the last
abbrev pub StopBy : World → Ending → List Ask → Type 0
StopBy w ending.Done calls = stop w calls ≡ None
StopBy w (ending.Halted cause) calls = stop w calls ≡ None
StopBy w (ending.Faulted call) calls = FaultAtLast w call calls
StopBy w ending.Unanswered calls = StopAtLast w true calls
StopBy w ending.Lost calls = ⊥

-- An outcome is what its calls come to in this world, made one after the other.
pub record IsMadeIn (w : World) (o : Outcome) : Type 0 where
  pub target : o.target ≡ (world_after w o.calls).target
  pub skipped : o.skipped ≡ min (skips w o.calls) 4294967295
  pub ending : StopBy w o.ending o.calls

-- each unit of a run is a call, made after those before it, and a run ends where its calls stop
pub record AreMade (w : World) (p : Program) (written : Option (List ℕ)) : Type 0 where
  pub made : IsMadeIn w (outcome_of (meaning w p written))
  pub units : (end_state (meaning w p written)).units ≡ units_of (outcome_of (meaning w p written))

-- that is so of each program in each world
abbrev pub CallsAreMade : Type 0
CallsAreMade = (w : World) (p : Program) (written : Option (List ℕ)) → AreMade w p written

-- ---- a limit of answers

-- The outcome with at most m units answered is cut short. It ends where unit m + 1 is asked, and its calls are the first m + 1 of the whole.
-- What it wrote comes first in what the whole wrote.
pub record IsCutShort (m : ℕ) (whole short : Outcome) : Type 0 where
  pub ending : short.ending ≡ ending.Unanswered
  pub units : units_of short ≡ m + 1
  pub more : List Ask
  pub calls : whole.calls ≡ short.calls ++ more
  pub lines : Grows short.written whole.written

-- it is the same where the whole asks at most m units
pub record IsWhole (m : ℕ) (whole short : Outcome) : Type 0 where
  pub units : units_of whole ≤ m
  pub same : short ≡ whole

-- where at most m units are answered, a run is either cut short or whole
abbrev pub LimitsCutRuns : Type 0
LimitsCutRuns = (m : ℕ) (p : Program) (t : TargetState) (written : Option (List ℕ))
    → IsWhole m (outcome p t written) (outcome_within m p t written) ⊎ IsCutShort m (outcome p t written) (outcome_within m p t written)

-- ---- what a valid set has

-- a watched run comes to what the meaning comes to, unless it is lost
abbrev pub WatchedIsTheMeaning : Type 0
WatchedIsTheMeaning = (w : World) (p : Program) (written : Option (List ℕ))
    → (outcome_of (watched_run w p written) ≡ outcome_of (meaning w p written)) ⊎ ((outcome_of (watched_run w p written)).ending ≡ ending.Lost)

-- ---- what was written before

-- the outcome without what was written
abbrev pub without_lines : Outcome → Outcome
without_lines o = record { ending = o.ending; variables = o.variables; calls = o.calls; skipped = o.skipped; written = None; target = o.target }

-- two runs of a program that differ in what was written before
pub record SameButLines (cost : Costs) (w : World) (p : Program) (a b : Option (List ℕ)) : Type 0 where
  pub outcome : without_lines (outcome_of (meaning w p b)) ≡ without_lines (outcome_of (meaning w p a))
  pub asks : (end_state (late_meaning cost w p b)).rest.asks ≡ (end_state (late_meaning cost w p a)).rest.asks

-- what was written before changes nothing but what is written
abbrev pub LinesAreOnlyWritten : Type 0
LinesAreOnlyWritten = (cost : Costs) (w : World) (p : Program) (a b : Option (List ℕ)) → SameButLines cost w p a b

-- ---- results that come later, from any state

-- a run with results that come later adds calls at the end, and lines, but none once the calls stop
abbrev pub LateRunsOnlyAdd : Type 0
LateRunsOnlyAdd = (cost : Costs) (w : World) (turn_us : ℕ) (set : SetTrees) (start : List ℕ)
    (s : State Value Late) → Goes (Later w) s (run_of (late cost w) turn_us set start s)

-- ---- cuts

-- The cut after all units of a run is what the run leaves and wrote. What is written before a unit comes first in what the run wrote.
pub record IsCutFront (p : Program) (t : TargetState) (lines : Option (List ℕ)) : Type 0 where
  pub target : target_at (units_of (outcome p t lines)) p t ≡ (outcome p t lines).target
  pub written : written_before (units_of (outcome p t lines)) p t lines ≡ (outcome p t lines).written
  pub front : (m : ℕ) → Grows (written_before m p t lines) (outcome p t lines).written

-- that is so of each program on each target
abbrev pub CutsAreFronts : Type 0
CutsAreFronts = (p : Program) (t : TargetState) (written : Option (List ℕ)) → IsCutFront p t written

-- ---- programs that lack nothing

-- a watched run of a program that lacks nothing is not lost, and so comes to what the meaning comes to
pub record IsNeverLost (w : World) (p : Program) (written : Option (List ℕ)) : Type 0 where
  pub never : (outcome_of (watched_run w p written)).ending ≡ ending.Lost → ⊥
  pub same : outcome_of (watched_run w p written) ≡ outcome_of (meaning w p written)

-- that is so of each such program
abbrev pub CompleteIsNeverLost : Type 0
CompleteIsNeverLost = (w : World) (p : Program) (written : Option (List ℕ)) → IsComplete p → IsNeverLost w p written
