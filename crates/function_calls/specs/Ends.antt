-- How what code answers is that of the meaning with results that come later.
use Rattle.std.specs.Prelude.{◌≡◌, ⊤, ℕ, ◌+◌, List, length, Option, Some, None, Result, Ok, Err}
use Rattle.dap_base.specs.Causes.{Rose}
use Rattle.target_machine.specs.declared.unit.HaltCause.{HaltCause}
use Rattle.target_calls.specs.World.{World, stop}
use Rattle.target_calls.specs.declared.calls.Ask.{Ask}
use Rattle.target_calls.specs.declared.calls.Value.{Value}
use Rattle.access_calls.specs.Answers.{AtCut}
use Rattle.access_calls.specs.Reported.{AccessView}
use Rattle.access_calls.specs.declared.stop.Report.{Report}
use Rattle.access_calls.specs.declared.stop.Stop.{Stop}
use Rattle.access_calls.specs.declared.stop.Stop.TheVariants.{OutOfMemory}
use Rattle.sequence_rules.specs.Calls as meaning
use Rattle.sequence_rules.specs.Late.{Late, Later}
use Rattle.sequence_rules.specs.Machine as machine
use Rattle.sequence_rules.specs.Machine.{State, Out, end_state}
use Rattle.sequence_rules.specs.declared.ports.Port.{Port}
use Rattle.function_calls.specs.declared.end.End.{End}
use Rattle.function_calls.specs.declared.end.End.TheVariants as end

-- the access has ended; refused memory is no end
abbrev pub HasEnded : Option Stop → Type 0
HasEnded None = ⊥
HasEnded (Some OutOfMemory) = ⊥
HasEnded other = ⊤

-- the access has ended, and where a cut ended it this is so
abbrev pub AtEnd : Option Stop → (Report → Type 0) → Type 0
AtEnd None P = ⊥
AtEnd (Some s) P = AtCut s P

-- The access has ended; and at a cut the calls stop right after those whose lines come before it.
pub record StopsHere (w : World) (calls : List Ask) (a : AccessView) : Type 0 where
  pub so : AtEnd a.end (λ r. stop w calls ≡ Some (a.lines + 1))

-- The access ended, and so the code left the meaning in its middle. What was asked and written comes first in what the meaning asks and writes.
-- At a cut the calls stop right after those whose lines come before it.
pub record LeftMeaning {A : Type 0} (w : World) (a : AccessView) (now : State Value Late) (out : Out Value Late A) : Type 0 where
  pub later : Later w now.rest (end_state out).rest
  pub first : StopsHere w now.rest.asks.calls a

-- At a halt the meaning halts so, in this state. Where the access stopped, the sink failed or memory was refused, the code left it in its
-- middle.
abbrev pub EndsLate : {A : Type 0} → World → AccessView → End → State Value Late → Out Value Late A → Type 0
EndsLate w a (end.Halted cause) now out = out ≡ Err (machine.Halted cause, now)
EndsLate w a end.Stopped now out = LeftMeaning w a now out
EndsLate w a end.OutOfMemory now out = Later w now.rest (end_state out).rest
EndsLate w a end.WriteFault now out = Later w now.rest (end_state out).rest

-- what the code answers and the state that it leaves are those of the meaning
abbrev pub MeansLate : {A : Type 0} → World → AccessView → Result A End → State Value Late → Out Value Late A → Type 0
MeansLate w a (Ok x) now out = out ≡ Ok (x, now)
MeansLate w a (Err e) now out = EndsLate w a e now out

-- the answer, with what this makes of it in its place
abbrev pub answer_by : {A B : Type 0} → (A → B) → Result A End → Result B End
answer_by view (Ok x) = Ok (view x)
answer_by view (Err e) = Err e

-- the predefined variables that calls use
abbrev pub as_port : Port → meaning.Port
as_port port = record { ap = port.ap; forgive = port.forgive; dp = port.dp }

-- the access has ended where it stopped, and else it goes on
abbrev pub CallEndIs : {A : Type 0} → Result A End → Option Stop → Type 0
CallEndIs (Ok x) end = end ≡ None
CallEndIs (Err (end.Halted cause)) end = end ≡ None
CallEndIs (Err end.Stopped) end = HasEnded end
CallEndIs (Err end.OutOfMemory) end = end ≡ None
CallEndIs (Err end.WriteFault) end = end ≡ None

-- one call was asked for each unit that is counted; nothing is said where the access stopped or memory was refused
abbrev pub CountsAskedUnits : {A : Type 0} → Result A End → ℕ → List Ask → Type 0
CountsAskedUnits (Err end.Stopped) units calls = ⊤
CountsAskedUnits (Err end.OutOfMemory) units calls = ⊤
CountsAskedUnits other units calls = units ≡ length calls

-- the sink's count of faults rose where the answer says that the sink failed, and else it is the same
abbrev pub CallHasSinkCause : {A : Type 0} → Result A End → ℕ → ℕ → Type 0
CallHasSinkCause (Err end.WriteFault) before now = Rose before now
CallHasSinkCause other before now = now ≡ before

-- a step is counted, or the run halts, as in the meaning
abbrev pub CountsStep : Result (Unit {0}) HaltCause → State Value Late → Out Value Late (Unit {0}) → Type 0
CountsStep (Ok x) now out = out ≡ Ok (tt, now)
CountsStep (Err cause) now out = out ≡ Err (machine.Halted cause, now)

-- the access stopped here
abbrev pub IsStopAt : World → List Ask → AccessView → End → Type 0
IsStopAt w calls a end.Stopped = StopsHere w calls a
IsStopAt w calls a other = ⊥

-- the answer does not say that a sink failed
abbrev pub NoWriteFault : {A : Type 0} → Result A End → Type 0
NoWriteFault (Err end.WriteFault) = ⊥
NoWriteFault other = ⊤
