-- The events of all bytes of a trace, one by one from a source.
use Rattle.std.specs.Prelude.{◌≡◌, ℕ, List, Option, Some}
use Rattle.trace_events.specs.Inputs.{Input, coming, untaken_input, GivesFirstItem}
use Rattle.trace_events.specs.Readings.{TraceReading, events_from, first_reading}
use Rattle.trace_events.specs.declared.event.Event.{Event}

-- the events of a trace
abbrev pub events_in_trace : List ℕ → List Event
events_in_trace bytes = events_from first_reading bytes

-- what is kept from one event to the next
pub record Place : Type 0 where
  pub input : Input
  pub reading : TraceReading

-- before the first event
abbrev pub first_place : Place
first_place = record { input = untaken_input; reading = first_reading }

-- the events that come, where these bytes are left of the source
abbrev pub events_left : Place → List ℕ → List Event
events_left place left = events_from place.reading (coming place.input left)

-- the next event that comes was given, where the bytes of the source are known; none where none comes
pub record GivesEvent (before after : Place) (old new : Option (List ℕ)) (event : Option Event) : Type 0 where
  pub given : (bytes : List ℕ) → old ≡ Some bytes → (rest : List ℕ) × (new ≡ Some rest) × GivesFirstItem (events_left before bytes) event (events_left after rest)
