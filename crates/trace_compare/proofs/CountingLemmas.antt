-- The number of an exchange.
use Rattle.std.proofs.Common.{◌≡◌, ℕ, List, refl}
use Rattle.trace_events.specs.declared.event.Event.{Event}
use Rattle.trace_events.specs.declared.event.Event.TheVariants as event
use Rattle.trace_words.specs.Telling.{Telling, next_exchange_number, tell}
use Rattle.trace_compare.specs.Exchanges.{exchange_of}

-- after the words of an event the last number is that of the exchange that it is
pub number_in : (t : Telling) (e : Event) (words : List ℕ) → exchange_of (tell t e).telling.number words e ≡ exchange_of (next_exchange_number t.number) words e
number_in t (event.Exchange packet reply) words = refl
number_in t (event.Stray reply) words = refl
number_in t (event.Other bytes) words = refl
