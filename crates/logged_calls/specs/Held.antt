-- What a logged run holds, as a state of the meaning; how what the code answers is that of the meaning; and what it notes.
use Rattle.std.specs.Prelude.{◌≡◌, ℕ, suc, ◌+◌, Bool, false, codes, nat_eq, if◌then◌else◌, List, [], ◌++◌, length, Some, None, Result, Ok, Err, ⊤}
use Rattle.target_calls.specs.declared.calls.Ask.{Ask}
use Rattle.sequence_trees.specs.declared.spot.Spot.{Spot}
use Rattle.target_machine.specs.Plain.{Answered}
use Rattle.target_machine.specs.State.{TargetState}
use Rattle.target_machine.specs.declared.unit.Call.TheVariants.{Access}
use Rattle.dap_base.specs.Outcome.{◌>>=◌}
use Rattle.target_machine.specs.declared.unit.HaltCause.TheVariants.{Unsupported}
use Rattle.target_machine.specs.declared.unit.Unit.TheVariants as unit
use Rattle.sequence_rules.specs.Calls.{Port, global, ask, line_result}
use Rattle.sequence_rules.specs.declared.ports.Port.{Port as CallPort}
use Rattle.sequence_rules.specs.Direct.{Now, direct}
use Rattle.sequence_rules.specs.Machine as machine
use Rattle.sequence_rules.specs.Machine.{State, Out, halt}
use Rattle.sequence_rules.specs.Locals.{locals_of}
use Rattle.sequence_rules.specs.Shared.{bindings_of}
use Rattle.run_events.specs.Events.{Event, Writes, all_made, left_by, units_from, units_between}
use Rattle.run_events.specs.OfSteps.{poll_end, polled_events}
use Rattle.log_lines.specs.LogLines.{LogLines, lines_after_event, lines_after_events}
use Rattle.logged_calls.specs.declared.held.Held.{Held}
use Rattle.logged_calls.specs.declared.held.LoggedEnd.{LoggedEnd}
use Rattle.logged_calls.specs.declared.held.LoggedEnd.TheVariants as end
use Rattle.logged_calls.specs.declared.held.Stopped.{Stopped}

-- the state of a run, in which all calls are answered, and of which no lines are known
abbrev pub logged_state_of : Held → TargetState → State ℕ Now
logged_state_of held target = record {
  globals = bindings_of held.globals;
  locals = locals_of held.locals;
  units = held.units;
  lines = held.lines;
  steps = held.steps;
  rest = record {
    world = record { target = target; large = held.large.items; answered = None };
    calls = held.calls;
    skipped = held.skipped;
    written = None;
  };
}

-- Why the code ends is why the meaning ends, in this state. Nothing is said where memory was refused.
abbrev pub CodeEndsAs : {A : Type 0} → LoggedEnd → State ℕ Now → Out ℕ Now A → Type 0
CodeEndsAs (end.Halted cause) now out = out ≡ Err (machine.Halted cause, now)
CodeEndsAs (end.Faulted u) now out = out ≡ Err (machine.Faulted (Access u), now)
CodeEndsAs end.OutOfMemory now out = ⊤

-- what the code answers and the state that it leaves are those of the meaning
abbrev pub Means : {A : Type 0} → LoggedEnd → Result A Stopped → State ℕ Now → Out ℕ Now A → Type 0
Means e (Ok x) now out = out ≡ Ok (x, now)
Means e (Err stopped) now out = CodeEndsAs e now out

-- From one state to another the code answers and leaves what the meaning does.
abbrev pub CallComesTo : {A : Type 0} → Held → TargetState → Held → TargetState → Result A Stopped → (State ℕ Now → Out ℕ Now A) → Type 0
CallComesTo old before new after result meaning = Means new.end result (logged_state_of new after) (meaning (logged_state_of old before))

-- this is so, unless memory was refused
abbrev pub Unless : {A : Type 0} → LoggedEnd → Result A Stopped → Type 0 → Type 0
Unless e (Ok x) P = P
Unless (end.Halted cause) (Err stopped) P = P
Unless (end.Faulted u) (Err stopped) P = P
Unless end.OutOfMemory (Err stopped) P = ⊤

-- the port of a memory or AP call, as the meaning has it
abbrev pub port_view : CallPort → Port
port_view port = record { ap = port.ap; forgive = port.forgive; dp = port.dp }

-- the port of an access on debug port 0
abbrev pub port_on_dp0 : ℕ → Bool → Port
port_on_dp0 ap forgive = record { ap = ap; forgive = forgive; dp = 0 }

-- from s to r these units were made, and they were noted
pub record Noted (s r : State ℕ Now) (old new : LogLines) : Type 0 where
  pub more : List Ask
  pub calls : r.rest.calls ≡ s.rest.calls ++ more
  pub world : r.rest.world ≡ left_by s.rest.world more
  pub lines : r.lines ≡ s.lines
  pub log : new ≡ lines_after_events old (all_made (units_from s.rest.world (suc (length s.rest.calls)) more))

-- the units that were made were noted, unless memory was refused
abbrev pub NotesUnits : {A : Type 0} → Held → TargetState → Held → TargetState → Result A Stopped → Type 0
NotesUnits old before new after result = Unless new.end result (Noted (logged_state_of old before) (logged_state_of new after) old.log new.log)

-- The code makes the units of the meaning: it answers and leaves what the meaning does, and notes the units.
pub record MakesUnits {A : Type 0} (old : Held) (before : TargetState) (new : Held) (after : TargetState) (result : Result A Stopped)
    (meaning : State ℕ Now → Out ℕ Now A) : Type 0 where
  pub gives : CallComesTo old before new after result meaning
  pub noted : NotesUnits old before new after result

-- these events were noted, unless memory was refused
abbrev pub NotesEvents : {A : Type 0} → Held → Held → Result A Stopped → List Event → Type 0
NotesEvents old new result events = Unless new.end result (new.log ≡ lines_after_events old.log events)

-- the line was noted, where it is one more; else nothing was
abbrev pub LineNoted : {A : Type 0} → LoggedEnd → Result A Stopped → State ℕ Now → State ℕ Now → LogLines → LogLines → List ℕ → Type 0
LineNoted e (Ok x) s r old new line = (r.lines ≡ s.lines + 1) × (new ≡ lines_after_event old (Writes line)) × (r.rest.calls ≡ s.rest.calls)
LineNoted (end.Halted cause) (Err stopped) s r old new line = (r.lines ≡ s.lines) × (new ≡ old) × (r.rest.calls ≡ s.rest.calls)
LineNoted (end.Faulted u) (Err stopped) s r old new line = ⊥
LineNoted end.OutOfMemory (Err stopped) s r old new line = ⊤

-- The code writes a line on any target, and answers the value. It answers and leaves what the meaning does, and notes the line.
pub record WritesLine (old new : Held) (result : Result ℕ Stopped) (line : List ℕ) (value : ℕ) : Type 0 where
  pub gives : (target : TargetState) → CallComesTo old target new target result (line_result (direct false) line value)
  pub noted : (target : TargetState) → LineNoted new.end result (logged_state_of old target) (logged_state_of new target) old.log new.log line

-- a poll of CTRL/STAT, and what it answers: 1 where its value was found, 0 where its turns are used
abbrev pub poll_value : ℕ × ℕ → ℕ → State ℕ Now → Out ℕ Now ℕ
poll_value form turns s =
    global (direct false) (codes "__dp") s >>= λ d. if nat_eq d.0 0 then ask (direct false) (unit.Poll form.0 form.1 turns) false d.1 else halt Unsupported d.1

-- how a poll ended, by what its unit answered
abbrev pub poll_end_seen : Spot → ℕ → Result ℕ Stopped → List Event
poll_end_seen spot turns (Ok n) = poll_end spot turns (Some (Answered n))
poll_end_seen spot turns (Err stopped) = []

-- what is seen of a poll whose unit was made from s to r: its unit, and how it ended by what the unit answered
pub record SeenAsPoll (s r : State ℕ Now) (result : Result ℕ Stopped) : Type 0 where
  pub seen : (spot : Spot) (turns : ℕ) → polled_events spot turns (units_between s r) ≡ all_made (units_between s r) ++ poll_end_seen spot turns result

-- the same from one state to another, unless memory was refused
abbrev pub SeesPoll : Held → TargetState → Held → TargetState → Result ℕ Stopped → Type 0
SeesPoll old before new after result = Unless new.end result (SeenAsPoll (logged_state_of old before) (logged_state_of new after) result)

-- of a poll with so many turns its unit and how it ended were noted, unless memory was refused
abbrev pub NotesPoll : Held → TargetState → Held → TargetState → Result ℕ Stopped → Spot → ℕ → Type 0
NotesPoll old before new after result spot turns =
    NotesEvents old new result (polled_events spot turns (units_between (logged_state_of old before) (logged_state_of new after)))
