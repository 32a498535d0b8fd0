-- What comes of a trace.
use Rattle.std.specs.Prelude.{◌≡◌, ℕ, List, [], ◌∷◌, Option, Some, None}
use Rattle.trace_events.specs.declared.event.Event.{Event}
use Rattle.trace_events.specs.Events.{Place, events_in_trace, events_left, first_place}
use Rattle.trace_compare.specs.declared.exchange.Exchange.{Exchange}
use Rattle.trace_compare.specs.Counting.{Counting, after_event, after_events, begin}
use Rattle.trace_compare.specs.Exchanges.{exchange_in, exchanges}

-- ---- an event

-- the exchange of the event came, and this is what is kept after it
pub record CountsEvent (before : Counting) (event : Event) (found : Option Exchange) (after : Counting) : Type 0 where
  pub found_is : found ≡ exchange_in before event
  pub after_is : after ≡ after_event before event

-- ---- all events

-- the exchanges of events, and what is kept after them
pub record Contents : Type 0 where
  pub exchanges : List Exchange
  pub counting : Counting

-- what comes of these events, where this is kept before them
abbrev pub contents_of : Counting → List Event → Contents
contents_of c es = record { exchanges = exchanges c es; counting = after_events c es }

-- those of all bytes of a trace
abbrev pub contents : List ℕ → Contents
contents bytes = contents_of begin (events_in_trace bytes)

-- ---- one by one

-- what is kept from one exchange to the next
pub record Coming : Type 0 where
  pub place : Place
  pub counting : Counting

-- before the first exchange
abbrev pub first_coming : Coming
first_coming = record { place = first_place; counting = begin }

-- what comes, where these bytes are left of the source
abbrev pub contents_left : Coming → List ℕ → Contents
contents_left coming left = contents_of coming.counting (events_left coming.place left)

-- no exchange comes
abbrev pub over : Counting → Contents
over counting = record { exchanges = []; counting = counting }

-- an exchange before others
abbrev pub after_exchange : Exchange → Contents → Contents
after_exchange first others = record others { exchanges = first ∷ others.exchanges }

-- The first exchange was given, where there is one. None is given where none comes, and then this is kept.
abbrev pub PassesExchange : Contents → Option Exchange → Contents → Counting → Type 0
PassesExchange before None after counting = (before ≡ over counting) × (after ≡ over counting)
PassesExchange before (Some first) after counting = before ≡ after_exchange first after

-- the next exchange that comes was given, where the bytes of the source are known
pub record GivesExchange (before after : Coming) (old new : Option (List ℕ)) (found : Option Exchange) : Type 0 where
  pub given : (bytes : List ℕ) → old ≡ Some bytes
      → (rest : List ℕ) × (new ≡ Some rest) × PassesExchange (contents_left before bytes) found (contents_left after rest) after.counting

-- all that comes was taken
pub record TakesAll (before after : Coming) (old : Option (List ℕ)) : Type 0 where
  pub taken : (bytes : List ℕ) → old ≡ Some bytes → (contents_left before bytes).counting ≡ after.counting
