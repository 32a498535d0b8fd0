-- The events that come of a source.
use Rattle.std.proofs.Common.{◌≡◌, ◌∙◌, ℕ, List, [], ◌∷◌, ◌++◌, Option, None, Some, refl, sym, ap, subst}
use Rattle.trace_events.specs.declared.event.Event.{Event}
use Rattle.trace_events.specs.Inputs.{GivesByte, GivesFirstItem, Input, coming}
use Rattle.trace_events.specs.Readings.{TraceReading, end_events, events_from, take_byte, then_events}
use Rattle.trace_events.specs.Steps.{Steps}
use Rattle.trace_events.specs.Events.{GivesEvent, Place, events_left}

-- the same events come as at first
pub record Ahead (first now : Place) (old new : Option (List ℕ)) : Type 0 where
  pub ahead : (bytes : List ℕ) → old ≡ Some bytes → (rest : List ℕ) × (new ≡ Some rest) × (events_left now rest ≡ events_left first bytes)

pub ahead_start : (place : Place) (left : Option (List ℕ)) → Ahead place place left left
ahead_start place left = record { ahead = λ bytes is. (bytes, is, refl) }

-- the event of a byte, and those that come after it
after_byte : (now : Place) (later : Place) (bytes rest : List ℕ) (byte : ℕ) (event : Option Event) → coming now.input bytes ≡ byte ∷ coming later.input rest
    → Steps (take_byte now.reading byte) event later.reading → events_left now bytes ≡ then_events event (events_left later rest)
after_byte now later bytes rest byte event is step =
    ap (λ (bs : List ℕ). events_from now.reading bs) is
    ∙ ap (λ (e : Option Event). then_events e (events_from (take_byte now.reading byte).reading (coming later.input rest))) (sym step.event_is)
    ∙ ap (λ (r : TraceReading). then_events event (events_from r (coming later.input rest))) (sym step.reading_is)

-- a byte that was given
passed_byte : (now later : Place) (old new : Option (List ℕ)) (given : Option ℕ) (byte : ℕ) → GivesByte now.input later.input old new given → given ≡ Some byte
    → (bytes : List ℕ) → old ≡ Some bytes → (rest : List ℕ) × (new ≡ Some rest) × (coming now.input bytes ≡ byte ∷ coming later.input rest)
passed_byte now later old new given byte gives is bytes bytes_is =
    let h : GivesByte now.input later.input old new (Some byte) = subst (λ (b : Option ℕ). GivesByte now.input later.input old new b) is gives in
    let came = h.given bytes bytes_is in
    (came.0, came.1, came.2)

-- no byte was given
passed_end : (now later : Place) (old new : Option (List ℕ)) (given : Option ℕ) → GivesByte now.input later.input old new given → given ≡ None
    → (bytes : List ℕ) → old ≡ Some bytes → (rest : List ℕ) × (new ≡ Some rest) × (coming now.input bytes ≡ []) × (coming later.input rest ≡ [])
passed_end now later old new given gives is bytes bytes_is =
    let h : GivesByte now.input later.input old new None = subst (λ (b : Option ℕ). GivesByte now.input later.input old new b) is gives in
    let came = h.given bytes bytes_is in
    (came.0, came.1, came.2.0, came.2.1)

-- a byte without an event
pub ahead_on : (first now later : Place) (old new next : Option (List ℕ)) (given : Option ℕ) (byte : ℕ) (event : Option Event) → Ahead first now old new
    → GivesByte now.input later.input new next given → given ≡ Some byte → Steps (take_byte now.reading byte) event later.reading → event ≡ None → Ahead first later old next
ahead_on first now later old new next given byte event h gives given_is step event_is = record {
  ahead = λ bytes is.
      let before = h.ahead bytes is in
      let came = passed_byte now later new next given byte gives given_is before.0 before.1 in
      (came.0, came.1, sym (after_byte now later before.0 came.0 byte event came.2 step ∙ ap (λ (e : Option Event). then_events e (events_left later came.0)) event_is) ∙ before.2);
}

-- a byte with an event
pub ahead_event : (first now later : Place) (old new next : Option (List ℕ)) (given : Option ℕ) (byte : ℕ) (event : Option Event) (e : Event) → Ahead first now old new
    → GivesByte now.input later.input new next given → given ≡ Some byte → Steps (take_byte now.reading byte) event later.reading → event ≡ Some e → GivesEvent first later old next (Some e)
ahead_event first now later old new next given byte event e h gives given_is step event_is = record {
  given = λ bytes is.
      let before = h.ahead bytes is in
      let came = passed_byte now later new next given byte gives given_is before.0 before.1 in
      (came.0, came.1, sym before.2 ∙ after_byte now later before.0 came.0 byte event came.2 step ∙ ap (λ (x : Option Event). then_events x (events_left later came.0)) event_is);
}

-- the end of all bytes
at_end : (r s : TraceReading) (event : Option Event) (es fs : List Event) → es ≡ end_events r → fs ≡ end_events s → GivesFirstItem (end_events r) event (end_events s) → GivesFirstItem es event fs
at_end r s None es fs before after passes = (before ∙ passes.0, after ∙ passes.1)
at_end r s (Some event) es fs before after passes = before ∙ passes ∙ ap (λ (gs : List Event). event ∷ gs) (sym after)

pub ahead_end : (first now later : Place) (old new next : Option (List ℕ)) (given : Option ℕ) (event : Option Event) → Ahead first now old new
    → GivesByte now.input later.input new next given → given ≡ None → GivesFirstItem (end_events now.reading) event (end_events later.reading) → GivesEvent first later old next event
ahead_end first now later old new next given event h gives given_is passes = record {
  given = λ bytes is.
      let before = h.ahead bytes is in
      let came = passed_end now later new next given gives given_is before.0 before.1 in (
        came.0,
        came.1,
        at_end now.reading later.reading event (events_left first bytes) (events_left later came.0)
            (sym before.2 ∙ ap (λ (bs : List ℕ). events_from now.reading bs) came.2) (ap (λ (bs : List ℕ). events_from later.reading bs) came.3) passes,
      );
}

-- ---- for those that ask for events

-- an event that was given
pub event_given : (place later : Place) (old new : Option (List ℕ)) (found : Option Event) (e : Event) → GivesEvent place later old new found → found ≡ Some e
    → (bytes : List ℕ) → old ≡ Some bytes → (rest : List ℕ) × (new ≡ Some rest) × (events_left place bytes ≡ e ∷ events_left later rest)
event_given place later old new found e gives is bytes bytes_is =
    let h : GivesEvent place later old new (Some e) = subst (λ (x : Option Event). GivesEvent place later old new x) is gives in
    let came = h.given bytes bytes_is in
    (came.0, came.1, came.2)

-- no event was given
pub event_over : (place later : Place) (old new : Option (List ℕ)) (found : Option Event) → GivesEvent place later old new found → found ≡ None
    → (bytes : List ℕ) → old ≡ Some bytes → (rest : List ℕ) × (new ≡ Some rest) × (events_left place bytes ≡ []) × (events_left later rest ≡ [])
event_over place later old new found gives is bytes bytes_is =
    let h : GivesEvent place later old new None = subst (λ (x : Option Event). GivesEvent place later old new x) is gives in
    let came = h.given bytes bytes_is in
    (came.0, came.1, came.2.0, came.2.1)
