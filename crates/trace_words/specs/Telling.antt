-- The words of the events of a trace, one after the other.
use Rattle.std.specs.Prelude.{ℕ, ◌+◌, ◌-◌, ◌^◌, Bool, true, false, ◌&&◌, List, [], ◌∷◌, ◌++◌, min, codes, Option}
use Rattle.hex.specs.Hex.{encode_lower}
use Rattle.packet_words.specs.Exchange.{Said, exchange}
use Rattle.register_words.specs.declared.known.KnownRegisters.{KnownRegisters}
use Rattle.register_words.specs.Known.{nothing_known}
use Rattle.trace_events.specs.declared.event.Event.{Event}
use Rattle.trace_events.specs.declared.event.Event.TheVariants as event

-- what is kept from one event to the next
pub record Telling : Type 0 where
  -- the number of the last exchange
  pub number : ℕ
  -- what is known of the registers
  pub known : KnownRegisters
  -- whether each packet and reply so far is one
  pub good : Bool

-- before the first event
abbrev pub first_telling : Telling
first_telling = record { number = 0; known = nothing_known; good = true }

-- a text, and what is kept after it
pub record Spoken : Type 0 where
  pub text : List ℕ
  pub telling : Telling

-- the same after a text
abbrev pub told_after_text : List ℕ → Spoken → Spoken
told_after_text text told = record told { text = text ++ told.text }

-- the number after this one; it stops at 2^64 - 1
abbrev pub next_exchange_number : ℕ → ℕ
next_exchange_number number = min (number + 1) (2 ^ 64 - 1)

-- an exchange, by what is said of it
abbrev pub told_said : Telling → Said → Spoken
told_said t said = record {
  text = said.text;
  telling = record { number = next_exchange_number t.number; known = said.known; good = t.good && said.good };
}

-- the lines of a reply that no packet waits for
abbrev pub stray_line : List ℕ → List ℕ
stray_line reply = codes "< " ++ encode_lower reply ++ codes "\nno packet for this reply\n"

-- the words of an event: an exchange has the next number, and other lines are passed on as they are
abbrev pub tell : Telling → Event → Spoken
tell t (event.Exchange packet reply) = told_said t (exchange t.known (next_exchange_number t.number) packet reply)
tell t (event.Stray reply) = record { text = stray_line reply; telling = record t { good = false } }
tell t (event.Other bytes) = record { text = bytes; telling = t }

-- the words of events
abbrev pub told_events : Telling → List Event → Spoken
told_events t [] = record { text = []; telling = t }
told_events t (first ∷ others) = told_after_text (tell t first).text (told_events (tell t first).telling others)
