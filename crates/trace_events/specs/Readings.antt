-- The events of a trace: what its lines say, and which reply is whose.
use Rattle.std.specs.Prelude.{ℕ, ◌==◌, nat_lt, Bool, true, false, List, [], ◌∷◌, ◌++◌, length, map, Option, Some, None, if◌then◌else◌}
use Rattle.trace_events.specs.Entries.{entry_in}
use Rattle.trace_events.specs.declared.event.Event.{Event}
use Rattle.trace_events.specs.declared.event.Event.TheVariants as event

-- what is kept from one byte to the next
pub record TraceReading : Type 0 where
  -- the packets that have no reply yet, the oldest first
  pub waiting : List (List ℕ)
  -- the line so far
  pub line : List ℕ
  -- whether the line is longer than 4,096 bytes, so that it is passed on as it comes
  pub long : Bool

-- before the first byte
abbrev pub first_reading : TraceReading
first_reading = record { waiting = []; line = []; long = false }

-- an event that came at a step, where one came, and what is kept after it
pub record TraceStep : Type 0 where
  pub event : Option Event
  pub reading : TraceReading

-- ---- exchanges

-- a reply, or the end of waiting for one, for the oldest of the packets
abbrev pub answer_for : TraceReading → List (List ℕ) → Option (List ℕ) → TraceStep
answer_for r [] None = record { event = None; reading = r }
answer_for r [] (Some reply) = record { event = Some (event.Stray reply); reading = r }
answer_for r (packet ∷ others) reply = record { event = Some (event.Exchange packet reply); reading = record r { waiting = others } }

-- the same for the oldest packet that waits
unfoldable pub answer : TraceReading → Option (List ℕ) → TraceStep
answer r reply = answer_for r r.waiting reply

-- a packet waits for its reply
abbrev pub waiting_too : TraceStep → List ℕ → TraceStep
waiting_too step packet = record step { reading = record step.reading { waiting = step.reading.waiting ++ packet ∷ [] } }

-- A packet: where 255 wait already, the oldest of them is without a reply.
unfoldable pub take_packet : TraceReading → List ℕ → TraceStep
take_packet r packet =
    if nat_lt (length r.waiting) 255 then waiting_too (record { event = None; reading = r }) packet else waiting_too (answer r None) packet

-- ---- lines

-- a packet or a reply
abbrev pub take_entry : TraceReading → Bool × List ℕ → TraceStep
take_entry r (false, bytes) = take_packet r bytes
take_entry r (true, bytes) = answer r (Some bytes)

-- a line that is one of these, or else is passed on
abbrev pub by_entry : TraceReading → List ℕ → Option (Bool × List ℕ) → TraceStep
by_entry r text None = record { event = Some (event.Other text); reading = r }
by_entry r text (Some entry) = take_entry r entry

-- A line that ends, with the bytes that ended it: a line feed, or none at the end of all. The rest of a long line is passed on.
unfoldable pub step_at_line_end : TraceReading → List ℕ → List ℕ → TraceStep
step_at_line_end r line ended =
    if r.long then record { event = Some (event.Other (line ++ ended)); reading = record r { line = []; long = false } } else
    by_entry (record r { line = [] }) (line ++ ended) (entry_in line)

-- A byte: a line feed, which is 10, ends the line. A line of more than 4,096 bytes is passed on.
unfoldable pub take_byte : TraceReading → ℕ → TraceStep
take_byte r byte =
    if byte == 10 then step_at_line_end r r.line (10 ∷ []) else
    if nat_lt (length r.line) 4096 then record { event = None; reading = record r { line = r.line ++ byte ∷ [] } } else
    record { event = Some (event.Other (r.line ++ byte ∷ [])); reading = record r { line = []; long = true } }

-- ---- the end

-- a line without a line feed at the end; nothing is none
abbrev pub step_at_unended_line : TraceReading → List ℕ → TraceStep
step_at_unended_line r [] = record { event = None; reading = r }
step_at_unended_line r (byte ∷ bytes) = step_at_line_end r (byte ∷ bytes) []

-- the same for the line so far
unfoldable pub step_at_last_line : TraceReading → TraceStep
step_at_last_line r = step_at_unended_line r r.line

-- packets without a reply
abbrev pub unreplied_packets : List (List ℕ) → List Event
unreplied_packets [] = []
unreplied_packets (packet ∷ others) = event.Exchange packet None ∷ unreplied_packets others

-- ---- all events

-- an event before others, where there is one
abbrev pub then_events : Option Event → List Event → List Event
then_events None events = events
then_events (Some first) events = first ∷ events

-- the events at the end of all bytes: the last line, and then the packets that wait
abbrev pub end_events : TraceReading → List Event
end_events r = then_events (step_at_last_line r).event (unreplied_packets (step_at_last_line r).reading.waiting)

-- the events of these bytes, and of the end after them
abbrev pub events_from : TraceReading → List ℕ → List Event
events_from r [] = end_events r
events_from r (byte ∷ bytes) = then_events (take_byte r byte).event (events_from (take_byte r byte).reading bytes)
