-- What was reported and put so far.
use Rattle.std.proofs.Common.{◌≡◌, ◌∙◌, ℕ, Bool, List, [], ◌∷◌, ◌++◌, Option, None, Some, Result, Ok, Err, take, refl, sym, ap, subst, append_assoc, append-nil}
use Rattle.std.specs.Prelude.{OnErr}
use Rattle.std.proofs.KnownBytes.{Appends-nil, Appends-trans}
use Rattle.std.specs.Io.KnownBytes.{Appends}
use Rattle.dap_base.specs.Streams.{AppendsPrefix, PutAppends}
use Rattle.dap_base.proofs.Known.{whole_put}
use Rattle.text_lines.proofs.PutLemmas.{prefix_first, put_after}
use Rattle.trace_events.specs.declared.event.Event.{Event}
use Rattle.trace_events.proofs.EventLemmas.{event_given, event_over}
use Rattle.trace_events.specs.Events.{GivesEvent, Place, events_in_trace, events_left, first_place}
use Rattle.trace_words.specs.declared.trace.TraceEnd.{TraceEnd}
use Rattle.trace_words.specs.declared.trace.TraceEnd.TheVariants as ends
use Rattle.trace_words.specs.Telling.{Telling, Spoken, told_after_text, first_telling, tell, told_events}
use Rattle.trace_words.specs.Words.{are_good, words_of_trace}

-- This was put, and with the words of the events that come it is all words.
pub record Going (first now old new : Option (List ℕ)) (place : Place) (t : Telling) : Type 0 where
  pub so_far : List ℕ
  pub put : Appends old new so_far
  pub ahead : (bytes : List ℕ) → first ≡ Some bytes
      → (rest : List ℕ) × (now ≡ Some rest) × (told_after_text so_far (told_events t (events_left place rest)) ≡ told_events first_telling (events_in_trace bytes))

-- nothing so far
pub going_none : (a b : Option (List ℕ)) → Going a a b b first_place first_telling
going_none a b = record { so_far = []; put = Appends-nil b; ahead = λ bytes is. (bytes, is, refl) }

-- before the first event
pub going_start : (a b : Option (List ℕ)) (place : Place) (t : Telling) → place ≡ first_place → t ≡ first_telling → Going a a b b place t
going_start a b place t place_is t_is =
    subst (λ (p : Place). Going a a b b p t) (sym place_is) (subst (λ (s : Telling). Going a a b b first_place s) (sym t_is) (going_none a b))

-- two texts before what is reported are one
both_texts : (a b : List ℕ) (x : Spoken) → told_after_text a (told_after_text b x) ≡ told_after_text (a ++ b) x
both_texts a b x = ap (λ (text : List ℕ). record x { text = text }) (sym (append_assoc a b x.text))

-- one event more
one_more : (a : List ℕ) (t : Telling) (es : List Event) (e : Event) (more : List Event) → es ≡ e ∷ more
    → told_after_text a (told_events t es) ≡ told_after_text (a ++ (tell t e).text) (told_events (tell t e).telling more)
one_more a t es e more is = ap (λ (xs : List Event). told_after_text a (told_events t xs)) is ∙ both_texts a (tell t e).text (told_events (tell t e).telling more)

pub going_on : (first now next old mid new : Option (List ℕ)) (place later : Place) (t u : Telling) (found : Option Event) (e : Event) → Going first now old mid place t
    → GivesEvent place later now next found → found ≡ Some e → Appends mid new (tell t e).text → u ≡ (tell t e).telling → Going first next old new later u
going_on first now next old mid new place later t u found e h gives found_is put u_is = record {
  so_far = h.so_far ++ (tell t e).text;
  put = Appends-trans old mid new h.so_far (tell t e).text h.put put;
  ahead = λ bytes is.
      let before = h.ahead bytes is in
      let came = event_given place later now next found e gives found_is before.0 before.1 in (
        came.0,
        came.1,
        ap (λ (s : Telling). told_after_text (h.so_far ++ (tell t e).text) (told_events s (events_left later came.0))) u_is
            ∙ sym (one_more h.so_far t (events_left place before.0) e (events_left later came.0) came.2) ∙ before.2,
      );
}

-- what holds in any case holds at an error
pub at_error : {T E : Type 0} (r : Result T E) (P : Type 0) → P → OnErr r P
at_error (Ok x) P p = tt
at_error (Err e) P p = p

-- what was put so far is a part of the words
pub going_part : (first now old new : Option (List ℕ)) (place : Place) (t : Telling) (bytes : List ℕ) → Going first now old new place t → first ≡ Some bytes → AppendsPrefix old new (words_of_trace bytes)
going_part first now old new place t bytes h is =
    let before = h.ahead bytes is in
    subst (λ (text : List ℕ). AppendsPrefix old new text) (ap (λ (x : Spoken). x.text) before.2)
    (prefix_first old new h.so_far (told_events t (events_left place before.0)).text (whole_put old new h.so_far h.put))

abbrev cut : Result (Unit {0}) TraceEnd
cut = Err ends.OutOfMemory

-- so is a part of the words of the next event
pub going_cut : (first now next old mid new : Option (List ℕ)) (place later : Place) (t : Telling) (found : Option Event) (e : Event) (bytes : List ℕ) → Going first now old mid place t
    → GivesEvent place later now next found → found ≡ Some e → AppendsPrefix mid new (tell t e).text → first ≡ Some bytes → AppendsPrefix old new (words_of_trace bytes)
going_cut first now next old mid new place later t found e bytes h gives found_is part is =
    let before = h.ahead bytes is in
    let came = event_given place later now next found e gives found_is before.0 before.1 in
    let all = sym (one_more h.so_far t (events_left place before.0) e (events_left later came.0) came.2) ∙ before.2 in
    subst (λ (text : List ℕ). AppendsPrefix old new text) (ap (λ (x : Spoken). x.text) all)
    (prefix_first old new (h.so_far ++ (tell t e).text) (told_events (tell t e).telling (events_left later came.0)).text
    (put_after old mid new cut h.so_far (tell t e).text h.put part))

-- the end
pub going_end : (first now next old new : Option (List ℕ)) (place later : Place) (t : Telling) (found : Option Event) (good : Bool) (bytes : List ℕ) → Going first now old new place t
    → GivesEvent place later now next found → found ≡ None → good ≡ t.good → first ≡ Some bytes → Appends old new (words_of_trace bytes) × (good ≡ are_good bytes)
going_end first now next old new place later t found good bytes h gives found_is good_is is =
    let before = h.ahead bytes is in
    let came = event_over place later now next found gives found_is before.0 before.1 in
    let all = ap (λ (xs : List Event). told_after_text h.so_far (told_events t xs)) (sym came.2) ∙ before.2 in (
      subst (λ (text : List ℕ). Appends old new text) (sym (append-nil h.so_far) ∙ ap (λ (x : Spoken). x.text) all) h.put,
      good_is ∙ ap (λ (x : Spoken). x.telling.good) all,
    )
