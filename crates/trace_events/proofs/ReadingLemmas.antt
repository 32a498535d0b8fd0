-- The events at the end of all bytes, one by one.
use Rattle.std.proofs.Common.{◌≡◌, ◌∙◌, ℕ, Bool, true, false, List, [], ◌∷◌, ◌++◌, Option, None, Some, refl, sym, ap, subst, cond}
use Rattle.std.specs.Prelude.{nat_lt, length}
use Rattle.trace_events.specs.declared.event.Event.{Event}
use Rattle.trace_events.specs.declared.event.Event.TheVariants as at
use Rattle.trace_events.specs.Entries.{entry_in}
use Rattle.trace_events.specs.Inputs.{GivesFirstItem}
use Rattle.trace_events.specs.Readings.{TraceReading, TraceStep, answer, answer_for, by_entry, end_events, step_at_last_line, step_at_line_end, step_at_unended_line, take_entry, take_packet, then_events, unreplied_packets, waiting_too}
use Rattle.trace_events.specs.Steps.{Steps}

-- ---- the line

answer_line : (r : TraceReading) (waiting : List (List ℕ)) (reply : Option (List ℕ)) → (answer_for r waiting reply).reading.line ≡ r.line
answer_line r [] None = refl
answer_line r [] (Some reply) = refl
answer_line r (packet ∷ others) reply = refl

packet_line : (r : TraceReading) (packet : List ℕ) → (take_packet r packet).reading.line ≡ r.line
unfolding take_packet answer
packet_line r packet = elim (nat_lt (length r.waiting) 255) as (λ b. (cond b (waiting_too (record { event = None; reading = r }) packet) (waiting_too (answer r None) packet)).reading.line ≡ r.line) [
  | true ↦ refl
  | false ↦ answer_line r r.waiting None
]

entry_line : (r : TraceReading) (text : List ℕ) (entry : Option (Bool × List ℕ)) → (by_entry r text entry).reading.line ≡ r.line
unfolding answer
entry_line r text None = refl
entry_line r text (Some (false, bytes)) = packet_line r bytes
entry_line r text (Some (true, bytes)) = answer_line r r.waiting (Some bytes)

-- the rest of a long line
abbrev passed : TraceReading → List ℕ → TraceStep
passed r text = record { event = Some (at.Other text); reading = record r { line = []; long = false } }

ended_line : (r : TraceReading) (line ended : List ℕ) → (step_at_line_end r line ended).reading.line ≡ []
unfolding step_at_line_end
ended_line r line ended = elim r.long as (λ b. (cond b (passed r (line ++ ended)) (by_entry (record r { line = [] }) (line ++ ended) (entry_in line))).reading.line ≡ []) [
  | true ↦ refl
  | false ↦ entry_line (record r { line = [] }) (line ++ ended) (entry_in line)
]

last_of_line : (r : TraceReading) (line : List ℕ) → r.line ≡ line → (step_at_unended_line r line).reading.line ≡ []
last_of_line r [] is = is
last_of_line r (byte ∷ bytes) is = ended_line r (byte ∷ bytes) []

-- after the last line there is none
line_gone : (r : TraceReading) → (step_at_last_line r).reading.line ≡ []
unfolding step_at_last_line
line_gone r = last_of_line r r.line refl

-- ---- the end

-- without a last line the end is the packets that wait
waits : (r : TraceReading) → r.line ≡ [] → end_events r ≡ unreplied_packets r.waiting
unfolding step_at_last_line
waits r none = ap (λ (line : List ℕ). then_events (step_at_unended_line r line).event (unreplied_packets (step_at_unended_line r line).reading.waiting)) none

no_line : (r s : TraceReading) → s ≡ (step_at_last_line r).reading → s.line ≡ []
no_line r s is = ap (λ (q : TraceReading). q.line) is ∙ line_gone r

-- the end after the last line
after_last : (r s : TraceReading) (event : Option Event) → Steps (step_at_last_line r) event s → end_events r ≡ then_events event (unreplied_packets s.waiting)
after_last r s event step =
    ap (λ (e : Option Event). then_events e (unreplied_packets (step_at_last_line r).reading.waiting)) (sym step.event_is)
    ∙ ap (λ (q : TraceReading). then_events event (unreplied_packets q.waiting)) (sym step.reading_is)

pub end_some : (old new : TraceReading) (event : Event) → Steps (step_at_last_line old) (Some event) new → GivesFirstItem (end_events old) (Some event) (end_events new)
end_some old new event step = after_last old new (Some event) step ∙ ap (λ (es : List Event). event ∷ es) (sym (waits new (no_line old new step.reading_is)))

answered : (mid new : TraceReading) (waiting : List (List ℕ)) (event : Option Event) → mid.waiting ≡ waiting → mid.line ≡ [] → event ≡ (answer_for mid waiting None).event
    → new ≡ (answer_for mid waiting None).reading → GivesFirstItem (unreplied_packets waiting) event (end_events new)
answered mid new [] event is none event_is new_is =
    subst (λ (e : Option Event). GivesFirstItem (unreplied_packets []) e (end_events new)) (sym event_is)
    (refl, ap end_events new_is ∙ waits mid none ∙ ap unreplied_packets is)
answered mid new (packet ∷ others) event is none event_is new_is =
    subst (λ (e : Option Event). GivesFirstItem (unreplied_packets (packet ∷ others)) e (end_events new)) (sym event_is)
    (ap (λ (es : List Event). at.Exchange packet None ∷ es) (sym (ap end_events new_is ∙ waits (record mid { waiting = others }) none)))

pub end_none : (old mid new : TraceReading) (event : Option Event) → Steps (step_at_last_line old) None mid → Steps (answer mid None) event new → GivesFirstItem (end_events old) event (end_events new)
unfolding answer
end_none old mid new event first second =
    subst (λ (es : List Event). GivesFirstItem es event (end_events new)) (sym (after_last old mid None first))
    (answered mid new mid.waiting event refl (no_line old mid first.reading_is) second.event_is second.reading_is)
