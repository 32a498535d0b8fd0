-- One event is noted.
use Rattle.std.proofs.Common.{◌≡◌, ◌∙◌, ℕ, Bool, true, false, ◌||◌, List, [], ◌∷◌, ◌++◌, None, refl, sym, ap, subst}
use Rattle.sequence_trees.specs.declared.spot.Spot.{Spot}
use Rattle.run_events.specs.Events.{Event, TimesOut, places_after}
use Rattle.log_lines.specs.LogLines.{lines_after_event}
use Rattle.run_coverage.specs.Covered.{IsOf, event_words}
use Rattle.run_coverage.proofs.CoverLemmas.{not_noted}
use Rattle.logged_runs.specs.Seen.{NotesAll, NotesByTurns, SeenSoFar, is_error, is_timeout_event}
use Rattle.dap_base.proofs.Basics.{or_any}

flag : (a b x : Bool) → b ≡ a → x ≡ false → b ≡ (a || (x || false))
flag true b x h k = h
flag false b x h k = h ∙ sym (ap (λ y. y || false) k)

-- an event that is covered
pub covered_all : (a b : SeenSoFar) (e : Event) → b.places ≡ places_after a.places e → ((earlier : List Event) → IsOf a.coverage earlier → IsOf b.coverage (earlier ++ e ∷ [])) → b.timed_out ≡ a.timed_out → b.error_shown ≡ a.error_shown
    → is_timeout_event e ≡ false → is_error e ≡ false → NotesAll a b (e ∷ [])
covered_all a b e p c t r nt nr = record { places = p; covered = c; timed_out = flag a.timed_out b.timed_out (is_timeout_event e) t nt; error_shown = flag a.error_shown b.error_shown (is_error e) r nr }

pub covered_one : (turns : ℕ) (a b : SeenSoFar) (e : Event) → b.log ≡ lines_after_event a.log e → b.places ≡ places_after a.places e → ((earlier : List Event) → IsOf a.coverage earlier → IsOf b.coverage (earlier ++ e ∷ []))
    → b.timed_out ≡ a.timed_out → b.error_shown ≡ a.error_shown → is_timeout_event e ≡ false → is_error e ≡ false → NotesByTurns turns a b (λ shows. e ∷ [])
covered_one turns a b e l p c t r nt nr = record { log = l; all = covered_all a b e p c t r nt nr }

-- an event that does not count for the coverage
pub plain_one : (turns : ℕ) (a b : SeenSoFar) (e : Event) → b.log ≡ lines_after_event a.log e → b.places ≡ places_after a.places e → b.coverage ≡ a.coverage → b.timed_out ≡ a.timed_out → b.error_shown ≡ a.error_shown
    → event_words e ≡ None → is_timeout_event e ≡ false → is_error e ≡ false → NotesByTurns turns a b (λ shows. e ∷ [])
plain_one turns a b e l p c t r none nt nr =
    covered_one turns a b e l p (λ earlier of. subst (λ x. IsOf x (earlier ++ e ∷ [])) (sym c) (not_noted a.coverage earlier e none of)) t r nt nr

pub timeout_all : (a b : SeenSoFar) (spot : Spot) (n : ℕ) → b.places ≡ a.places → ((earlier : List Event) → IsOf a.coverage earlier → IsOf b.coverage (earlier ++ TimesOut spot n ∷ [])) → b.timed_out ≡ true → b.error_shown ≡ a.error_shown
    → NotesAll a b (TimesOut spot n ∷ [])
timeout_all a b spot n p c t r = record { places = p; covered = c; timed_out = t ∙ or_any a.timed_out; error_shown = flag a.error_shown b.error_shown false r refl }

pub timeout_one : (turns : ℕ) (a b : SeenSoFar) (spot : Spot) (n : ℕ) → b.log ≡ lines_after_event a.log (TimesOut spot n) → b.places ≡ a.places → ((earlier : List Event) → IsOf a.coverage earlier → IsOf b.coverage (earlier ++ TimesOut spot n ∷ []))
    → b.timed_out ≡ true → b.error_shown ≡ a.error_shown → NotesByTurns turns a b (λ shows. TimesOut spot n ∷ [])
timeout_one turns a b spot n l p c t r = record { log = l; all = timeout_all a b spot n p c t r }
