-- The exchanges that come of a source.
use Rattle.std.proofs.Common.{◌≡◌, ◌∙◌, ℕ, List, ◌∷◌, Option, None, Some, refl, sym, ap, subst}
use Rattle.trace_events.specs.declared.event.Event.{Event}
use Rattle.trace_events.specs.Events.{GivesEvent, Place, events_left}
use Rattle.trace_events.proofs.EventLemmas.{event_given, event_over}
use Rattle.trace_compare.specs.declared.exchange.Exchange.{Exchange}
use Rattle.trace_compare.specs.Counting.{Counting, after_events}
use Rattle.trace_compare.specs.Exchanges.{exchange_in, exchanges, then_exchange}
use Rattle.trace_compare.specs.Coming.{Coming, Contents, CountsEvent, GivesExchange, PassesExchange, TakesAll, contents_left, contents_of}

-- the same comes as at first
pub record Ahead (first : Coming) (place : Place) (c : Counting) (old new : Option (List ℕ)) : Type 0 where
  pub ahead : (bytes : List ℕ) → old ≡ Some bytes → (rest : List ℕ) × (new ≡ Some rest) × (contents_of c (events_left place rest) ≡ contents_left first bytes)

pub ahead_start : (now : Coming) (left : Option (List ℕ)) → Ahead now now.place now.counting left left
ahead_start now left = record { ahead = λ bytes is. (bytes, is, refl) }

-- one event more
abbrev more : Option Exchange → Counting → List Event → Contents
more x d es = record { exchanges = then_exchange x (exchanges d es); counting = after_events d es }

one_more : (c d : Counting) (e : Event) (x : Option Exchange) (es fs : List Event) → fs ≡ e ∷ es → CountsEvent c e x d → contents_of c fs ≡ more x d es
one_more c d e x es fs is counted =
    ap (λ (gs : List Event). contents_of c gs) is
    ∙ ap (λ (k : Counting). more (exchange_in c e) k es) (sym counted.after_is)
    ∙ ap (λ (y : Option Exchange). more y d es) (sym counted.found_is)

pub ahead_on : (first : Coming) (place later : Place) (c d : Counting) (old new next : Option (List ℕ)) (found : Option Event) (e : Event) (x : Option Exchange)
    → Ahead first place c old new → GivesEvent place later new next found → found ≡ Some e → CountsEvent c e x d → x ≡ None → Ahead first later d old next
ahead_on first place later c d old new next found e x h gives found_is counted none = record {
  ahead = λ bytes is.
      let before = h.ahead bytes is in
      let came = event_given place later new next found e gives found_is before.0 before.1 in (
        came.0,
        came.1,
        ap (λ (y : Option Exchange). more y d (events_left later came.0)) (sym none)
            ∙ sym (one_more c d e x (events_left later came.0) (events_left place before.0) came.2 counted) ∙ before.2,
      );
}

pub ahead_exchange : (first after : Coming) (place : Place) (c : Counting) (old new next : Option (List ℕ)) (found : Option Event) (e : Event) (x : Option Exchange) (exchange : Exchange)
    → Ahead first place c old new → GivesEvent place after.place new next found → found ≡ Some e → CountsEvent c e x after.counting → x ≡ Some exchange → GivesExchange first after old next (Some exchange)
ahead_exchange first after place c old new next found e x exchange h gives found_is counted some = record {
  given = λ bytes is.
      let before = h.ahead bytes is in
      let came = event_given place after.place new next found e gives found_is before.0 before.1 in (
        came.0,
        came.1,
        sym before.2 ∙ one_more c after.counting e x (events_left after.place came.0) (events_left place before.0) came.2 counted
            ∙ ap (λ (y : Option Exchange). more y after.counting (events_left after.place came.0)) some,
      );
}

pub ahead_end : (first after : Coming) (place : Place) (old new next : Option (List ℕ)) (found : Option Event)
    → Ahead first place after.counting old new → GivesEvent place after.place new next found → found ≡ None → GivesExchange first after old next None
ahead_end first after place old new next found h gives found_is = record {
  given = λ bytes is.
      let before = h.ahead bytes is in
      let came = event_over place after.place new next found gives found_is before.0 before.1 in (
        came.0,
        came.1,
        (
          sym before.2 ∙ ap (λ (es : List Event). contents_of after.counting es) came.2,
          ap (λ (es : List Event). contents_of after.counting es) came.3,
        ),
      );
}

-- ---- all of them

-- what is counted in the end is the same as at first
pub record Draining (first now : Coming) (old new : Option (List ℕ)) : Type 0 where
  pub ahead : (bytes : List ℕ) → old ≡ Some bytes → (rest : List ℕ) × (new ≡ Some rest) × ((contents_left now rest).counting ≡ (contents_left first bytes).counting)

pub taken_start : (now : Coming) (left : Option (List ℕ)) → Draining now now left left
taken_start now left = record { ahead = λ bytes is. (bytes, is, refl) }

same_counting : (before after : Contents) (x : Option Exchange) (c : Counting) → PassesExchange before x after c → after.counting ≡ before.counting
same_counting before after None c passes = ap (λ (k : Contents). k.counting) (passes.1 ∙ sym passes.0)
same_counting before after (Some x) c passes = ap (λ (k : Contents). k.counting) (sym passes)

pub taken_on : (first now later : Coming) (old new next : Option (List ℕ)) (found : Option Exchange) → Draining first now old new → GivesExchange now later new next found → Draining first later old next
taken_on first now later old new next found h gives = record {
  ahead = λ bytes is.
      let before = h.ahead bytes is in
      let came = gives.given before.0 before.1 in
      (came.0, came.1, same_counting (contents_left now before.0) (contents_left later came.0) found later.counting came.2 ∙ before.2);
}

last_counting : (before after : Contents) (x : Option Exchange) (c : Counting) → x ≡ None → PassesExchange before x after c → before.counting ≡ c
last_counting before after x c is passes =
    let h : PassesExchange before None after c = subst (λ (y : Option Exchange). PassesExchange before y after c) is passes in
    ap (λ (k : Contents). k.counting) h.0

pub taken_end : (first now later : Coming) (old new next : Option (List ℕ)) (found : Option Exchange) → Draining first now old new → GivesExchange now later new next found → found ≡ None → TakesAll first later old
taken_end first now later old new next found h gives none = record {
  taken = λ bytes is.
      let before = h.ahead bytes is in
      let came = gives.given before.0 before.1 in
      sym before.2 ∙ last_counting (contents_left now before.0) (contents_left later came.0) found later.counting none came.2;
}
