-- What a run answers.
use Rattle.std.specs.Prelude.{◌≡◌, ◌⊎◌, ℕ, ◌+◌, ◌≤◌, List, length, Option, Some, None, ⊤}
use Rattle.dap_base.specs.Causes.{Rose}
use Rattle.target_calls.specs.Asks.{settled_last}
use Rattle.target_calls.specs.NeedPoints.{Asks, asks_at_finish, asks_at_need}
use Rattle.target_calls.specs.declared.calls.Ask.{Ask}
use Rattle.target_calls.specs.declared.calls.Value.{Value}
use Rattle.access_calls.specs.declared.stop.Stop.{Stop}
use Rattle.access_calls.specs.declared.stop.Stop.TheVariants as stop
use Rattle.access_calls.specs.declared.stop.StopCause.{StopCause}
use Rattle.access_calls.specs.declared.stop.StopCause.TheVariants as cause
use Rattle.sequence_rules.specs.Late.{Late, Grows}
use Rattle.sequence_rules.specs.Machine.{Out, end_state}
use Rattle.sequence_rules.specs.Runs as runs
use Rattle.sequence_rules.specs.Runs.{Outcome, units_of, variables_of}
use Rattle.sequence_rules.specs.declared.bindings.Binding.{Binding}
use Rattle.sequels.specs.Limits.{GoesOnFrom}
use Rattle.function_calls.specs.Lines.{AppendsLines}
use Rattle.access_calls.specs.declared.ended.Ended.{Ended}
use Rattle.access_calls.specs.declared.ended.Ending.{Ending}
use Rattle.access_calls.specs.declared.ended.Ending.TheVariants as e

-- What a run reports: its variables, units and skips, what was asked, and what was written, where that is known.
pub record Ran : Type 0 where
  pub variables : List (Binding ℕ)
  pub units : ℕ
  pub skipped : ℕ
  pub asks : Asks
  pub written : Option (List ℕ)

-- what a run with this answer has done, where this was asked and written
abbrev pub ran : Ended → Asks → Option (List ℕ) → Ran
ran ended asks written =
    record { variables = variables_of ended.variables; units = ended.units; skipped = ended.skipped; asks = asks; written = written }

-- All is as in the outcome: the variables, units and skips, the calls, of which the last one is marked, and the lines.
pub record IsAll (o : Outcome) (r : Ran) : Type 0 where
  pub variables : r.variables ≡ o.variables
  pub units : r.units ≡ units_of o
  pub skipped : r.skipped ≡ o.skipped
  pub calls : r.asks.calls ≡ settled_last o.calls
  pub written : r.written ≡ o.written

-- the outcome ends at a fault
abbrev pub EndsAtFault : runs.Ending → Type 0
EndsAtFault (runs.Faulted call) = ⊤
EndsAtFault other = ⊥

-- the outcome is Done or Halted
abbrev pub EndsWhole : runs.Ending → Type 0
EndsWhole runs.Done = ⊤
EndsWhole (runs.Halted cause) = ⊤
EndsWhole other = ⊥

-- One list of calls goes on from what was asked, and from the calls of the outcome. Where the outcome is Done or Halted, that list has no
-- more calls than it.
pub record SharesCalls (asked : List Ask) (o : Outcome) : Type 0 where
  pub all : List Ask
  pub ours : GoesOnFrom asked all
  pub theirs : GoesOnFrom o.calls all
  pub only : EndsWhole o.ending → length all ≤ units_of o

-- The run was left in its middle: what was written comes first in what the outcome writes, and its calls are among the first.
pub record IsPartOfOutcome (o : Outcome) (r : Ran) : Type 0 where
  pub written : Grows r.written o.written
  pub calls : SharesCalls r.asks.calls o

-- Let the target or the probe stop the calls, and so many units have their lines before that. Then the outcome ends at a fault of the next unit,
-- or at the next unit, which is not answered. Or it comes to its end with so many units, and a retry ended after them.
abbrev pub StopsAfter : StopCause → ℕ → Outcome → Type 0
StopsAfter cause.Faulted lines o = EndsAtFault o.ending × (units_of o ≡ lines + 1)
StopsAfter cause.NoAnswer lines o = ((o.ending ≡ runs.Unanswered) × (units_of o ≡ lines + 1)) ⊎ (EndsWhole o.ending × (units_of o ≡ lines))

-- A run that was cut: the outcome stops there, exactly its lines are written, and its calls are among the first.
pub record EndsAtCut (cause : StopCause) (lines : ℕ) (o : Outcome) (r : Ran) : Type 0 where
  pub stops : StopsAfter cause lines o
  pub written : r.written ≡ o.written
  pub calls : SharesCalls r.asks.calls o

-- how a run ended, by the outcome
abbrev pub RunEndsAs : Ending → ℕ → Outcome → Ran → Type 0
RunEndsAs e.Done lines o r = (o.ending ≡ runs.Done) × IsAll o r
RunEndsAs (e.Halted cause) lines o r = (o.ending ≡ runs.Halted cause) × IsAll o r
RunEndsAs (e.Cut report) lines o r = EndsAtCut report.cause lines o r
RunEndsAs other lines o r = IsPartOfOutcome o r

-- Where a run is Done or Halted, what was asked has the need points of the meaning with results that come later, and one for the end.
abbrev pub HasNeeds : Ending → Asks → Out Value Late (Unit {0}) → Type 0
HasNeeds e.Done asks out = asks ≡ asks_at_need (asks_at_finish (end_state out).rest.asks)
HasNeeds (e.Halted cause) asks out = asks ≡ asks_at_need (asks_at_finish (end_state out).rest.asks)
HasNeeds other asks out = ⊤

-- the end of the access is the one that is answered, and else it has none
abbrev pub EndBy : Ending → Option Stop → Type 0
EndBy (e.Cut r) end = end ≡ Some (stop.Cut r)
EndBy (e.BenchFault issued confirmed) end = end ≡ Some (stop.BenchFault issued confirmed)
EndBy e.ReplyBad end = end ≡ Some stop.ReplyBad
EndBy other end = end ≡ None

-- the sink's count of faults rose where the sink failed, and else it is the same
abbrev pub RunHasSinkCause : Ending → ℕ → ℕ → Type 0
RunHasSinkCause e.WriteFault before now = Rose before now
RunHasSinkCause other before now = now ≡ before

-- Whole lines were written; only where the sink failed a part of a line may be.
abbrev pub HasLines : Ending → Option (List ℕ) → Option (List ℕ) → Type 0
HasLines e.WriteFault old new = ⊤
HasLines other old new = AppendsLines old new
