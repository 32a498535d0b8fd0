-- What a walk came to, and what was seen of it, as an answer has them.
use Rattle.std.proofs.Common.{◌≡◌, ◌∙◌, ℕ, nat_le, Bool, ◌||◌, List, [], fold, Result, Ok, Err, refl, sym, ap, subst}
use Rattle.target_machine.specs.declared.unit.Call.TheVariants.{Access}
use Rattle.sequence_rules.specs.Direct.{Now}
use Rattle.sequence_rules.specs.Machine as machine
use Rattle.sequence_rules.specs.Machine.{State, Out, end_state}
use Rattle.sequence_rules.specs.Runs.{Outcome, outcome_of, units_of}
use Rattle.run_events.specs.Events.{Event, places_after, places_reached}
use Rattle.run_events.specs.OfRuns.{each_turn}
use Rattle.log_lines.specs.LogLines.{LogLines, lines_after_events, text_of_lines}
use Rattle.log_lines.specs.LogText.{text_after_events}
use Rattle.log_lines.proofs.Cutting.{written_all}
use Rattle.logged_calls.specs.Held.{Means, Unless}
use Rattle.logged_calls.specs.declared.held.LoggedEnd.{LoggedEnd}
use Rattle.logged_calls.specs.declared.held.LoggedEnd.TheVariants as end
use Rattle.logged_calls.specs.declared.held.Stopped.{Stopped}
use Rattle.run_coverage.specs.Covered.{IsOf}
use Rattle.logged_runs.specs.declared.logged.LoggedEnding.{LoggedEnding}
use Rattle.logged_runs.specs.declared.logged.LoggedEnding.TheVariants as l
use Rattle.logged_runs.specs.Answers.{IsEndOf, LoggedRunEndsAs}
use Rattle.logged_runs.specs.Seen.{HasSeenNothing, NotesByTurns, SeenSoFar, has_error, has_timeout}

abbrev S : Type 0
S = State ℕ Now

-- what comes of a run, in the last state of the walk
pub record Came (o : Outcome) (s : S) (e : LoggedEnding) : Type 0 where
  pub ending : LoggedRunEndsAs o e s.globals
  pub calls : s.rest.calls ≡ o.calls
  pub skipped : s.rest.skipped ≡ o.skipped
  pub target : s.rest.world.target ≡ o.target

-- with this ending, where it is that of the walk
as_ended : (o : Outcome) (s : S) (x y : LoggedEnding) → y ≡ x → Came o s x → Came o s y
as_ended o s x y is h = subst (Came o s) (sym is) h

as_out : (s : S) (e : LoggedEnding) (x y : Out ℕ Now (Unit {0})) → y ≡ x → Came (outcome_of x) s e → Came (outcome_of y) s e
as_out s e x y is h = subst (λ (o : Out ℕ Now (Unit {0})). Came (outcome_of o) s e) (sym is) h

pub came_to : (e : LoggedEnd) (ended : Result (Unit {0}) Stopped) (end : LoggedEnding) (s : S) (out : Out ℕ Now (Unit {0})) → Means e ended s out → (end_state out).units ≡ units_of (outcome_of out) → IsEndOf e ended end s.units → Came (outcome_of out) s end
came_to e (Ok x) end s out h units is = as_out s end (Ok (x, s)) out h (as_ended _ s l.Done end is (record { ending = (refl, refl); calls = refl; skipped = refl; target = refl }))
came_to (end.Halted cause) (Err stopped) end s out h units is =
    as_out s end (Err (machine.Halted cause, s)) out h (as_ended _ s (l.Halted cause) end is (record { ending = (refl, refl); calls = refl; skipped = refl; target = refl }))
came_to (end.Faulted u) (Err stopped) end s out h units is =
    let count = subst (λ (o : Out ℕ Now (Unit {0})). (end_state o).units ≡ units_of (outcome_of o)) h units in
    as_out s end (Err (machine.Faulted (Access u), s)) out h (as_ended _ s (l.Faulted s.units u) end is (record { ending = (refl, count); calls = refl; skipped = refl; target = refl }))
came_to end.OutOfMemory (Err stopped) end s out h units is = absurd is

-- where there is an answer, memory was not refused
pub at_end : (P : Type 0) (e : LoggedEnd) (ended : Result (Unit {0}) Stopped) (end : LoggedEnding) (units : ℕ) → IsEndOf e ended end units → Unless e ended P → P
at_end P e (Ok x) end units is h = h
at_end P (end.Halted cause) (Err stopped) end units is h = h
at_end P (end.Faulted u) (Err stopped) end units is h = h
at_end P end.OutOfMemory (Err stopped) end units is h = absurd is

-- what was seen from the start on
module _ (turns : ℕ) (first last : SeenSoFar) (F : (ℕ → Bool) → List Event) (none : HasSeenNothing first) (h : NotesByTurns turns first last F) where
  pub log_at : text_of_lines last.log ≡ text_after_events (record { text = []; depth = 0 }) (F (λ number. nat_le number turns))
  log_at = ap (λ (g : LogLines). text_of_lines g) (h.log ∙ ap (λ (g : LogLines). lines_after_events g (F (λ number. nat_le number turns))) none.log)
      ∙ written_all (record { lines = []; depth = 0 }) (F (λ number. nat_le number turns))

  pub places_at : last.places ≡ places_reached (F each_turn)
  places_at = h.all.places ∙ ap (λ p. fold places_after p (F each_turn)) none.places

  pub covered_at : IsOf last.coverage (F each_turn)
  covered_at = h.all.covered [] none.coverage

  pub timed_out_at : last.timed_out ≡ has_timeout (F each_turn)
  timed_out_at = h.all.timed_out ∙ ap (λ b. b || has_timeout (F each_turn)) none.timed_out

  pub error_at : last.error_shown ≡ has_error (F each_turn)
  error_at = h.all.error_shown ∙ ap (λ b. b || has_error (F each_turn)) none.error_shown
