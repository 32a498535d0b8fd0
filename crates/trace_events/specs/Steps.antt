-- What a call of a reading does.
use Rattle.std.specs.Prelude.{◌≡◌, Option}
use Rattle.trace_events.specs.Readings.{TraceReading, TraceStep}
use Rattle.trace_events.specs.declared.event.Event.{Event}

-- the event of the step came, and this is what is kept after it
pub record Steps (step : TraceStep) (event : Option Event) (reading : TraceReading) : Type 0 where
  pub event_is : event ≡ step.event
  pub reading_is : reading ≡ step.reading
