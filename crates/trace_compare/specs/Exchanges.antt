-- The exchanges of a trace, one after the other.
use Rattle.std.specs.Prelude.{ℕ, Bool, true, false, ◌&&◌, List, [], ◌∷◌, Option, Some, None}
use Rattle.std.specs.Str.{bytes_eq}
use Rattle.trace_events.specs.declared.event.Event.{Event}
use Rattle.trace_events.specs.declared.event.Event.TheVariants as event
use Rattle.trace_words.specs.Telling.{next_exchange_number, tell}
use Rattle.trace_compare.specs.declared.exchange.Exchange.{Exchange}
use Rattle.trace_compare.specs.Counting.{Counting, after_event}

-- the exchange that an event is, of this number and with these words
abbrev pub exchange_of : ℕ → List ℕ → Event → Option Exchange
exchange_of number words (event.Exchange packet reply) = Some (record { number = number; packet = packet; reply = reply; words = words })
exchange_of number words (event.Stray reply) = None
exchange_of number words (event.Other bytes) = None

-- an exchange before others, where there is one
abbrev pub then_exchange : Option Exchange → List Exchange → List Exchange
then_exchange None others = others
then_exchange (Some first) others = first ∷ others

-- the exchange of an event, which has the next number
abbrev pub exchange_in : Counting → Event → Option Exchange
exchange_in c e = exchange_of (next_exchange_number c.telling.number) (tell c.telling e).text e

-- the exchanges of events
abbrev pub exchanges : Counting → List Event → List Exchange
exchanges c [] = []
exchanges c (e ∷ es) = then_exchange (exchange_in c e) (exchanges (after_event c e) es)

-- whether two replies are the same
abbrev pub is_same_reply : Option (List ℕ) → Option (List ℕ) → Bool
is_same_reply None None = true
is_same_reply (Some first) (Some second) = bytes_eq first second
is_same_reply None (Some second) = false
is_same_reply (Some first) None = false

-- whether two exchanges are the same: the bytes of the packets, and those of the replies
abbrev pub is_same : Exchange → Exchange → Bool
is_same x y = bytes_eq x.packet y.packet && is_same_reply x.reply y.reply
