-- What the direct runner answers.
use Rattle.std.specs.Prelude.{◌≡◌, ℕ, List, [], ◌++◌, Option, None, Result, Ok, Err, ⊤}
use Rattle.target_calls.specs.World.{start_world, world_after}
use Rattle.dap_base.specs.Causes.{Rose}
use Rattle.sequence_rules.specs.Late.{Grows}
use Rattle.target_calls.specs.declared.calls.Ask.{Ask}
use Rattle.dap_base.specs.declared.text.OutOfMemory.{OutOfMemory}
use Rattle.target_machine.specs.State.{TargetState}
use Rattle.target_machine.specs.declared.unit.Call.TheVariants.{Access}
use Rattle.sequence_rules.specs.Runs as ending
use Rattle.sequence_rules.specs.Runs.{Ending, Outcome, units_of, variables_of}
use Rattle.sequence_rules.specs.declared.bindings.Binding.{Binding}
use Rattle.sequence_meaning.specs.declared.ended.Direct.{Direct}
use Rattle.sequence_meaning.specs.declared.ended.Direct.TheVariants as d
use Rattle.sequence_meaning.specs.declared.ended.Recorded.{Recorded}

-- The outcome has this ending, these variables, calls and skips, this target, and this was written.
abbrev pub IsOutcome : Outcome → Ending → List (Binding ℕ) → List Ask → ℕ → TargetState → Option (List ℕ) → Type 0
IsOutcome o ending variables calls skipped target written =
    o ≡ record { ending = ending; variables = variables; calls = calls; skipped = skipped; written = written; target = target }

-- A recorded run ends as the outcome says. What it leaves where the sink failed is said by `Leaves`.
abbrev pub Records : Outcome → Direct → List Ask → ℕ → TargetState → Option (List ℕ) → Type 0
Records o (d.Done variables) calls skipped target written = IsOutcome o ending.Done (variables_of variables) calls skipped target written
Records o (d.Halted cause variables) calls skipped target written =
    IsOutcome o (ending.Halted cause) (variables_of variables) calls skipped target written
Records o (d.Faulted unit what) calls skipped target written =
    IsOutcome o (ending.Faulted (Access what)) [] calls skipped target written × (unit ≡ units_of o)
Records o d.WriteFault calls skipped target written = ⊤

-- What is answered, the target and what was written are those of the outcome. Where memory was refused, see `Leaves`.
abbrev pub AnswersOutcome : Outcome → Result Recorded OutOfMemory → TargetState → Option (List ℕ) → Type 0
AnswersOutcome o (Ok r) target written = Records o r.ending r.calls r.skipped target written
AnswersOutcome o (Err e) target written = ⊤

-- So much of a run on a target was done. These calls come first among those of the outcome, and the target is the one that they leave. What was
-- written comes first in what the outcome has written.
pub record IsFirstPart (start : TargetState) (o : Outcome) (made : List Ask) (left : TargetState) (written : Option (List ℕ)) : Type 0 where
  pub more : List Ask
  pub calls : o.calls ≡ made ++ more
  pub target : left ≡ (world_after (start_world start None) made).target
  pub lines : Grows written o.written

-- a first part of a run was done
abbrev pub LeavesSome : TargetState → Outcome → TargetState → Option (List ℕ) → Type 0
LeavesSome start o target written = (calls : List Ask) × IsFirstPart start o calls target written

-- the same, with the calls of the answer where it has them
abbrev pub Leaves : TargetState → Outcome → Result Recorded OutOfMemory → TargetState → Option (List ℕ) → Type 0
Leaves start o (Ok r) target written = IsFirstPart start o r.calls target written
Leaves start o (Err e) target written = LeavesSome start o target written

-- by a count of the sink's faults: the sink failed only where it rose, or is at its last value, and any other ending leaves it
abbrev pub IsEndingCaused : Direct → ℕ → ℕ → Type 0
IsEndingCaused d.WriteFault before now = Rose before now
IsEndingCaused other before now = now ≡ before

-- the same of the answer of a direct run
abbrev pub IsDirectCaused : Result Direct OutOfMemory → ℕ → ℕ → Type 0
IsDirectCaused (Ok ended) before now = IsEndingCaused ended before now
IsDirectCaused (Err e) before now = now ≡ before

-- the same of a recorded run
abbrev pub IsRecordedCaused : Result Recorded OutOfMemory → ℕ → ℕ → Type 0
IsRecordedCaused (Ok r) before now = IsEndingCaused r.ending before now
IsRecordedCaused (Err e) before now = now ≡ before

-- a run ends as the outcome says
abbrev pub EndsAs : Outcome → Direct → TargetState → Option (List ℕ) → Type 0
EndsAs o ended target written = Records o ended o.calls o.skipped target written

-- the same, unless memory was refused
abbrev pub AnswersDirect : Outcome → Result Direct OutOfMemory → TargetState → Option (List ℕ) → Type 0
AnswersDirect o (Ok ended) target written = EndsAs o ended target written
AnswersDirect o (Err e) target written = ⊤
