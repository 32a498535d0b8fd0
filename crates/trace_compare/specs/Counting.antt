-- What is kept from one event of a trace to the next.
use Rattle.std.specs.Prelude.{ℕ, Bool, true, false, List, [], ◌∷◌}
use Rattle.packet_words.specs.Accesses.{exchange_accesses}
use Rattle.register_words.specs.declared.access.RegisterAccess.{RegisterAccess}
use Rattle.register_words.specs.declared.known.KnownRegisters.{KnownRegisters}
use Rattle.trace_events.specs.declared.event.Event.{Event}
use Rattle.trace_events.specs.declared.event.Event.TheVariants as event
use Rattle.trace_words.specs.Telling.{Telling, first_telling, next_exchange_number, tell}
use Rattle.trace_compare.specs.Counts.{all_counted, no_counts}

-- what the words of the next event need, and what was counted so far
pub record Counting : Type 0 where
  -- what the words of the next event need
  pub telling : Telling
  -- how many accesses there are of each place
  pub counts : List ℕ
  -- how many packets and replies are none
  pub wrong : ℕ

-- before the first event
abbrev pub begin : Counting
begin = record { telling = first_telling; counts = no_counts; wrong = 0 }

-- the register accesses of an event that were made
abbrev pub accesses_of_event : KnownRegisters → Event → List RegisterAccess
accesses_of_event known (event.Exchange packet reply) = exchange_accesses known packet reply
accesses_of_event known (event.Stray reply) = []
accesses_of_event known (event.Other bytes) = []

-- one wrong event more, where it is not good; the number stops at 2^64 - 1
abbrev pub wrong_after : Bool → ℕ → ℕ
wrong_after true wrong = wrong
wrong_after false wrong = next_exchange_number wrong

-- after an event: each is judged alone
abbrev pub after_event : Counting → Event → Counting
after_event c e = record {
  telling = record (tell c.telling e).telling { good = true };
  counts = all_counted c.counts (accesses_of_event c.telling.known e);
  wrong = wrong_after (tell c.telling e).telling.good c.wrong;
}

-- after events
abbrev pub after_events : Counting → List Event → Counting
after_events c [] = c
after_events c (e ∷ es) = after_events (after_event c e) es
