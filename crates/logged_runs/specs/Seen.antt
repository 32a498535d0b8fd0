-- What was seen of a run so far, and how events add to it.
use Rattle.std.specs.Prelude.{◌≡◌, ℕ, nat_le, Bool, true, false, ◌||◌, List, [], ◌++◌, take, fold, codes, nat_eq, slice_index}
use Rattle.std.specs.List.{list_any}
use Rattle.std.specs.Str.{bytes_eq}
use Rattle.function_table.specs.declared.function.Function.{Function}
use Rattle.function_table.specs.declared.function.Function.TheVariants.{Message}
use Rattle.sequence_trees.specs.declared.spot.Spot.{Spot}
use Rattle.run_events.specs.Events.{Event, TimesOut, Writes, places_after}
use Rattle.run_events.specs.OfRuns.{each_turn}
use Rattle.log_lines.specs.LogLines.{LogLines, lines_after_events}
use Rattle.run_coverage.specs.declared.coverage.Coverage.{Coverage}
use Rattle.run_coverage.specs.Covered.{IsOf}

-- a loop makes all turns that its timeout allows
abbrev pub is_timeout_event : Event → Bool
is_timeout_event (TimesOut spot n) = true
is_timeout_event e = false

-- among the events a loop times out
abbrev pub has_timeout : List Event → Bool
has_timeout events = list_any is_timeout_event events

-- the line of a message of type 2, an error
abbrev pub is_error_line : List ℕ → Bool
is_error_line line = bytes_eq (take 10 line) (codes "message 2 ")

-- the event writes the line of an error
abbrev pub is_error : Event → Bool
is_error (Writes line) = is_error_line line
is_error e = false

-- among the events such a line is written
abbrev pub has_error : List Event → Bool
has_error events = list_any is_error events

-- the call of a function with these numbers is of `Message`, with type 2
abbrev pub is_error_call : Function → List ℕ → Bool
is_error_call Message numbers = nat_eq (slice_index numbers 0) 2
is_error_call other numbers = false

-- What was seen so far: the log; the places that were reached; the coverage; whether a loop timed out, and whether a message of type 2
-- was written.
pub record SeenSoFar : Type 0 where
  pub log : LogLines
  pub places : List Spot
  pub coverage : Coverage
  pub timed_out : Bool
  pub error_shown : Bool

-- after these events the places, the coverage and the rest are so, whichever turns are shown
pub record NotesAll (old new : SeenSoFar) (events : List Event) : Type 0 where
  pub places : new.places ≡ fold places_after old.places events
  pub covered : (earlier : List Event) → IsOf old.coverage earlier → IsOf new.coverage (earlier ++ events)
  pub timed_out : new.timed_out ≡ (old.timed_out || has_timeout events)
  pub error_shown : new.error_shown ≡ (old.error_shown || has_error events)

-- events by the turns that are shown
abbrev pub ShownEvents : Type 0
ShownEvents = (ℕ → Bool) → List Event

-- Events were noted: in the log those that are shown, where of each loop so many turns and the last are; elsewhere all of them. What is
-- seen is given by the turns that are shown.
pub record NotesByTurns (turns : ℕ) (old new : SeenSoFar) (events : ShownEvents) : Type 0 where
  pub log : new.log ≡ lines_after_events old.log (events (λ number. nat_le number turns))
  pub all : NotesAll old new (events each_turn)

-- nothing was seen yet
pub record HasSeenNothing (first : SeenSoFar) : Type 0 where
  pub log : first.log ≡ record { lines = []; depth = 0 }
  pub places : first.places ≡ []
  pub coverage : IsOf first.coverage []
  pub timed_out : first.timed_out ≡ false
  pub error_shown : first.error_shown ≡ false
