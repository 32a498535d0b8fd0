-- What the direct runner holds, as a state of the meaning; and how what it answers is that of the meaning.
use Rattle.std.specs.Prelude.{◌≡◌, ℕ, Bool, false, List, [], ◌∷◌, Option, None, Result, Ok, Err}
use Rattle.target_calls.specs.World.{World, next_world}
use Rattle.target_calls.specs.declared.calls.Ask.{Ask}
use Rattle.dap_base.specs.Causes.{Rose}
use Rattle.seq_check.specs.Answers.{checked_trees}
use Rattle.target_machine.specs.State.{TargetState}
use Rattle.target_machine.specs.declared.unit.Call.TheVariants.{Access}
use Rattle.sequence_rules.specs.Direct.{Now, direct}
use Rattle.sequence_rules.specs.Known.{known_part}
use Rattle.sequence_rules.specs.Machine as machine
use Rattle.sequence_rules.specs.Laws.{Adds}
use Rattle.sequence_rules.specs.Locals.{locals_of}
use Rattle.sequence_rules.specs.Machine.{State, Out, end_state, with_variables}
use Rattle.sequence_rules.specs.Steps.{sequence_at}
use Rattle.sequence_rules.specs.Shared.{bindings_of}
use Rattle.sequence_rules.specs.Variables.{set_in}
use Rattle.sequence_meaning.specs.declared.end.DirectEnd.{DirectEnd}
use Rattle.sequence_meaning.specs.declared.end.DirectEnd.TheVariants as end
use Rattle.sequence_meaning.specs.declared.end.Stopped.{Stopped}
use Rattle.sequence_meaning.specs.declared.held.DirectHeld.{DirectHeld}
use Rattle.sequence_meaning.specs.declared.runner.DirectRunner.{DirectRunner}

-- the state of a run, in which all calls are answered
abbrev pub state_of : DirectHeld → TargetState → Option (List ℕ) → State ℕ Now
state_of held target written = record {
  globals = bindings_of held.globals.variables;
  locals = locals_of held.locals;
  units = held.units;
  lines = held.lines;
  steps = held.steps;
  rest = record {
    world = record { target = target; large = held.large.items; answered = None };
    calls = held.calls;
    skipped = held.skipped;
    written = written;
  };
}

-- the same, with what was written where it is asked for
abbrev pub state_seen : Bool → DirectHeld → TargetState → Option (List ℕ) → State ℕ Now
state_seen known held target written = state_of held target (known_part known written)

-- what comes of a part of a program: from a state, an answer and the state after it, or why nothing more is done
abbrev pub Meaning : Type 0 → Type 0
Meaning A = State ℕ Now → Out ℕ Now A

-- Why the code ends is why the meaning ends, in this state. Where the sink failed or memory was refused, the meaning goes on from
-- there: it has made these calls first, and written this first.
abbrev pub EndsDirect : {A : Type 0} → DirectEnd → State ℕ Now → Out ℕ Now A → Type 0
EndsDirect (end.Halted cause) now out = out ≡ Err (machine.Halted cause, now)
EndsDirect (end.Faulted u) now out = out ≡ Err (machine.Faulted (Access u), now)
EndsDirect end.WriteFault now out = Adds now.rest (end_state out).rest
EndsDirect end.OutOfMemory now out = Adds now.rest (end_state out).rest

-- the answer is x, where there is one
abbrev pub with_answer : {A B : Type 0} → B → Result A Stopped → Result B Stopped
with_answer x (Ok y) = Ok x
with_answer x (Err stopped) = Err stopped

-- what the code answers and the state that it leaves are those of the meaning; e is why the code stopped, where it did
abbrev pub MeansDirect : {A : Type 0} → DirectEnd → Result A Stopped → State ℕ Now → Out ℕ Now A → Type 0
MeansDirect e (Ok x) now out = out ≡ Ok (x, now)
MeansDirect e (Err stopped) now out = EndsDirect e now out

-- Why the code ends, by a count of the sink's faults. The sink failed only where it rose, or is at its last value, and any other end leaves it.
abbrev pub IsEndCaused : DirectEnd → ℕ → ℕ → Type 0
IsEndCaused end.WriteFault before now = Rose before now
IsEndCaused other before now = now ≡ before

-- the sink's count of faults rose where the code stopped because it failed, and else it is the same
abbrev pub IsCaused : {A : Type 0} → DirectEnd → Result A Stopped → ℕ → ℕ → Type 0
IsCaused e (Ok x) before now = now ≡ before
IsCaused e (Err stopped) before now = IsEndCaused e before now

-- the state with this value of a variable that all sequences share
abbrev pub with_global : List ℕ → ℕ → State ℕ Now → State ℕ Now
with_global name value s = with_variables s (set_in s.globals name value) s.locals

-- the world after calls, each made in the world that the one before left
abbrev pub made_all : World → List Ask → World
made_all w [] = w
made_all w (ask ∷ asks) = made_all (next_world w ask) asks

-- this world, in which all calls are answered
abbrev pub answered_world : TargetState → List ℕ → World
answered_world target large = record { target = target; large = large; answered = None }

-- the target, and the access ports that are known to have large addresses, are as the calls so far leave them
pub record IsMadeByCalls (w : World) (held : DirectHeld) (target : TargetState) : Type 0 where
  pub world : made_all w held.calls ≡ answered_world target held.large.items

-- the sequences of the runner's set, from which calls lead at most so deep
abbrev pub calls_of : DirectRunner → ℕ → List ℕ → Meaning (Unit {0})
calls_of runner depth name s = sequence_at (direct false) runner.turn_us (checked_trees runner.set.now) depth name s
