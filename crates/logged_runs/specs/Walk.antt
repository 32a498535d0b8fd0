-- What a walk holds, as a state of the meaning and as what was seen; the sequences that it can call; places.
use Rattle.std.specs.Prelude.{◌≡◌, ℕ, Bool, true, false, List, [], ◌∷◌, ◌++◌, take, OnErr, OnOk, Some, Result, Ok, Err, if◌then◌else◌, nat_eq, nat_lt}
use Rattle.dap_base.specs.Outcome.{◌>>=◌}
use Rattle.expr_grammar.specs.declared.code.Name.{Name}
use Rattle.expr_grammar.specs.Tree as t
use Rattle.expr_grammar.specs.Tree.{Tree, StmtTree}
use Rattle.seq_check.specs.Answers.{checked_trees}
use Rattle.sequence_rules.specs.Direct.{Now, direct}
use Rattle.sequence_rules.specs.Machine.{State, Out}
use Rattle.sequence_rules.specs.Steps.{sequence_at}
use Rattle.sequence_rules.specs.Values.{stored_value, used_now, value}
use Rattle.sequence_trees.specs.Order.{SetStep, spot_at}
use Rattle.sequence_trees.specs.declared.spot.Part.TheVariants as part
use Rattle.target_machine.specs.State.{TargetState}
use Rattle.run_events.specs.Events.{Event, Begins, Assigns, events_after}
use Rattle.run_events.specs.OfRuns.{at_debugvars, sequence_events}
use Rattle.run_events.specs.OfValues.{value_events}
use Rattle.log_lines.specs.LogLines.{LogLines}
use Rattle.log_lines.specs.declared.log.LogMark.{LogMark}
use Rattle.logged_calls.specs.Held.{CodeEndsAs, Means, Unless, logged_state_of}
use Rattle.logged_calls.specs.declared.held.LoggedEnd.{LoggedEnd}
use Rattle.logged_calls.specs.declared.held.LoggedEnd.TheVariants as end
use Rattle.logged_calls.specs.declared.held.Stopped.{Stopped}
use Rattle.logged_runs.specs.declared.runner.LoggedRunner.{LoggedRunner}
use Rattle.logged_runs.specs.declared.walked.Walked.{Walked}
use Rattle.logged_runs.specs.Seen.{NotesAll, NotesByTurns, SeenSoFar, ShownEvents}

-- the state of a run on a target
abbrev pub now : Walked → TargetState → State ℕ Now
now walked target = logged_state_of walked.held target

-- what was seen of it so far
abbrev pub seen_so_far : Walked → SeenSoFar
seen_so_far walked = record {
  log = walked.held.log;
  places = walked.places;
  coverage = walked.coverage;
  timed_out = walked.timed_out;
  error_shown = walked.error_shown;
}

-- From one state to another the walk answers and leaves what the meaning does.
abbrev pub WalksAs : {A : Type 0} → Walked → TargetState → Walked → TargetState → Result A Stopped → (State ℕ Now → Out ℕ Now A) → Type 0
WalksAs old before new after result meaning = Means new.held.end result (now new after) (meaning (now old before))

-- What was seen on the way was noted, with so many turns of a loop shown besides the last, unless memory was refused.
abbrev pub SeesWalk : {A : Type 0} → ℕ → Walked → TargetState → Walked → Result A Stopped → (State ℕ Now → ShownEvents) → Type 0
SeesWalk turns old before new result seen_from = Unless new.held.end result (NotesByTurns turns (seen_so_far old) (seen_so_far new) (seen_from (now old before)))

-- An event was noted, whichever turns are shown, and the state is as before; or memory was refused.
pub record NotesOne (old new : Walked) (result : Result (Unit {0}) Stopped) (event : Event) : Type 0 where
  pub state : (target : TargetState) → OnOk result (now new target ≡ now old target)
  pub refused : OnErr result (new.held.end ≡ end.OutOfMemory)
  pub noted : (turns : ℕ) → OnOk result (NotesByTurns turns (seen_so_far old) (seen_so_far new) (λ shows. event ∷ []))

-- Events were noted everywhere but in the log, and the state is as before; or memory was refused.
pub record CoversAll (old new : Walked) (result : Result (Unit {0}) Stopped) (events : List Event) : Type 0 where
  pub state : (target : TargetState) → OnOk result (now new target ≡ now old target)
  pub log : OnOk result (new.held.log ≡ old.held.log)
  pub refused : OnErr result (new.held.end ≡ end.OutOfMemory)
  pub noted : OnOk result (NotesAll (seen_so_far old) (seen_so_far new) events)

-- The state is changed so, on each target, and nothing was seen.
pub record ChangesWalk (old new : Walked) (change : State ℕ Now → State ℕ Now) : Type 0 where
  pub state : (target : TargetState) → now new target ≡ change (now old target)
  pub seen : seen_so_far new ≡ seen_so_far old

-- the sequences of the runner's set, from which calls lead at most so deep
abbrev pub calls_in_walk : LoggedRunner → ℕ → List ℕ → State ℕ Now → Out ℕ Now (Unit {0})
calls_in_walk runner depth name s = sequence_at (direct false) runner.turn_us (checked_trees runner.set.now) depth name s

-- what is seen of a run of one of these sequences
abbrev pub events_in_walk : (ℕ → Bool) → LoggedRunner → ℕ → List ℕ → State ℕ Now → List Event
events_in_walk shows runner depth name s = sequence_events shows runner.turn_us (checked_trees runner.set.now) depth name s

-- the step of a path in the sequence of a name
abbrev pub step_on_path : List ℕ → List ℕ → SetStep
step_on_path name path = record { sequence = Some name; path = path }

-- What the code answers and the state that it leaves are those of the meaning; x is what an answer stands for. Nothing is said where memory was
-- refused.
abbrev pub MeansAs : {A B : Type 0} → LoggedEnd → B → Result A Stopped → State ℕ Now → Out ℕ Now B → Type 0
MeansAs e x (Ok y) s out = out ≡ Ok (x, s)
MeansAs e x (Err stopped) s out = CodeEndsAs e s out

-- From one state to another the walk collects these values as the meaning does.
abbrev pub CollectsAs : {A B : Type 0} → Walked → TargetState → Walked → TargetState → B → Result A Stopped → (State ℕ Now → Out ℕ Now B) → Type 0
CollectsAs old before new after x result meaning = MeansAs new.held.end x result (now new after) (meaning (now old before))

-- a turn after it is counted: its condition, and where that is not 0 what is done
abbrev pub tested_turn : (State ℕ Now → Out ℕ Now ℕ) → (State ℕ Now → Out ℕ Now (Unit {0})) → State ℕ Now → Out ℕ Now Bool
tested_turn test body s = used_now (direct false) (test s) >>= λ x. if nat_eq x.0 0 then Ok (false, x.1) else (body x.1 >>= λ y. Ok (true, y.1))

-- the log where another turn begins after so many: the last of them is taken back, unless it is shown
abbrev pub kept_log : ℕ → ℕ → LogMark → LogLines → LogLines
kept_log turns made mark log = if nat_lt turns made then record { lines = take mark.len log.lines; depth = mark.depth } else log

-- a debug variable gets its value
abbrev pub definition_in_walk : LoggedRunner → Name → Tree → State ℕ Now → Out ℕ Now (Unit {0})
definition_in_walk runner name e s = value (direct false) (calls_in_walk runner 0) e s >>= λ x. stored_value (direct false) name x.0 x.1 >>= λ y. Ok (tt, y.1)

-- one statement of the debug variables
abbrev pub debug_statement_in_walk : LoggedRunner → StmtTree → State ℕ Now → Out ℕ Now (Unit {0})
debug_statement_in_walk runner (t.Empty at) s = Ok (tt, s)
debug_statement_in_walk runner (t.Declare name e) s = definition_in_walk runner name e s
debug_statement_in_walk runner (t.Plain at e) s = Ok (tt, s)

-- what is seen of a debug variable that gets its value
abbrev pub defined_events : (ℕ → Bool) → LoggedRunner → Name → Tree → State ℕ Now → List Event
defined_events shows runner name e s =
    value_events (calls_in_walk runner 0) (events_in_walk shows runner 0) e s
    ++ events_after (value (direct false) (calls_in_walk runner 0) e s) (λ n r. Assigns name.text n ∷ [])

-- what is seen of one statement of the debug variables
abbrev pub one_events : (ℕ → Bool) → LoggedRunner → StmtTree → State ℕ Now → List Event
one_events shows runner (t.Empty at) s = []
one_events shows runner (t.Declare name e) s = Begins (spot_at at_debugvars part.Debugvars name.at) (t.Declare name e) ∷ defined_events shows runner name e s
one_events shows runner (t.Plain at e) s = []
