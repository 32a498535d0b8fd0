-- What a logged run answers.
use Rattle.std.specs.Prelude.{◌≡◌, ℕ, List, [], slice_get, Option, None, Result, Ok, Err}
use Rattle.sequence_rules.specs.declared.bindings.Binding.{Binding}
use Rattle.sequence_rules.specs.Runs as ending
use Rattle.sequence_rules.specs.Runs.{Outcome, Program, outcome, units_of}
use Rattle.sequence_rules.specs.Shared.{bindings_of}
use Rattle.sequence_trees.specs.declared.spot.Spot.{Spot}
use Rattle.target_machine.specs.State.{TargetState}
use Rattle.target_machine.specs.declared.unit.Call.TheVariants.{Access}
use Rattle.run_events.specs.Events.{Event, places_reached}
use Rattle.run_events.specs.OfRuns.{events, shown_events}
use Rattle.log_lines.specs.LogText.{text_after_events}
use Rattle.run_coverage.specs.Covered.{IsOf}
use Rattle.logged_calls.specs.declared.held.LoggedEnd.{LoggedEnd}
use Rattle.logged_calls.specs.declared.held.LoggedEnd.TheVariants as end
use Rattle.logged_calls.specs.declared.held.Stopped.{Stopped}
use Rattle.logged_runs.specs.declared.logged.Logged.{Logged}
use Rattle.logged_runs.specs.declared.logged.LoggedEnding.{LoggedEnding}
use Rattle.logged_runs.specs.declared.logged.LoggedEnding.TheVariants as l
use Rattle.logged_runs.specs.Seen.{has_error, has_timeout}

-- The run ends as the outcome says, with these variables where it is done or halted. The unit of a fault is the last one.
abbrev pub LoggedRunEndsAs : Outcome → LoggedEnding → List (Binding ℕ) → Type 0
LoggedRunEndsAs o l.Done variables = (o.ending ≡ ending.Done) × (o.variables ≡ variables)
LoggedRunEndsAs o (l.Halted cause) variables = (o.ending ≡ ending.Halted cause) × (o.variables ≡ variables)
LoggedRunEndsAs o (l.Faulted unit what) variables = (o.ending ≡ ending.Faulted (Access what)) × (unit ≡ units_of o)

-- how a run ended, by why the walk goes no further, and by how many units were made
abbrev pub IsEndOf : LoggedEnd → Result (Unit {0}) Stopped → LoggedEnding → ℕ → Type 0
IsEndOf e (Ok done) ending units = ending ≡ l.Done
IsEndOf (end.Halted cause) (Err stopped) ending units = ending ≡ l.Halted cause
IsEndOf (end.Faulted what) (Err stopped) ending units = ending ≡ l.Faulted units what
IsEndOf end.OutOfMemory (Err stopped) ending units = ⊥

-- the place where a run ended: the last one that was reached, none where it is done
abbrev pub end_place : LoggedEnding → List Event → Option Spot
end_place l.Done seen = None
end_place (l.Halted cause) seen = slice_get (places_reached seen) 0
end_place (l.Faulted unit what) seen = slice_get (places_reached seen) 0

-- The run is that of the program on this target, and left the target so.
pub record IsLoggedRun (p : Program) (start left : TargetState) (run : Logged) : Type 0 where
  pub ending : LoggedRunEndsAs (outcome p start None) run.ending (bindings_of run.variables)
  pub calls : run.calls ≡ (outcome p start None).calls
  pub skipped : run.skipped ≡ (outcome p start None).skipped
  pub target : left ≡ (outcome p start None).target

-- What was seen is what is seen of that run. The log is the text of the events that are shown, where of each loop so many turns and the last
-- are. The rest is of all events.
pub record IsSeenOfRun (turns : ℕ) (p : Program) (start : TargetState) (run : Logged) : Type 0 where
  pub log : run.log ≡ text_after_events (record { text = []; depth = 0 }) (shown_events turns p start None)
  pub coverage : IsOf run.coverage (events p start None)
  pub at : run.at ≡ end_place run.ending (events p start None)
  pub timed_out : run.timed_out ≡ has_timeout (events p start None)
  pub error_shown : run.error_shown ≡ has_error (events p start None)
