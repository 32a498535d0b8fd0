-- What some of the events cover, all cover.
use Rattle.std.proofs.Common.{◌≡◌, ◌∙◌, sym, ap, ◌||◌, inl, inr, ℕ, true, List, [], ◌∷◌}
use Rattle.std.proofs.lemmas.Bool.{or_right}
use Rattle.run_events.specs.Events.{Event}
use Rattle.run_events.specs.Laws.{IsPartOfEvents}
use Rattle.run_coverage.specs.Covered.{event_words, happens, has_item_words}
use Rattle.dap_base.proofs.Basics.{or_weaker}

pub still_happens : (words : List ℕ) (some all : List Event) → IsPartOfEvents some all → happens some words ≡ true → happens all words ≡ true
still_happens words [] [] part h = h
still_happens words [] (y ∷ ys) part h = absurd cc
still_happens words (x ∷ xs) [] part h = absurd part
still_happens words (x ∷ xs) (y ∷ ys) (inl here) h =
    or_weaker (has_item_words words (event_words y)) (happens xs words) (happens ys words) (λ k. still_happens words xs ys here.1 k) (sym (ap (λ e. has_item_words words (event_words e) || happens xs words) here.0) ∙ h)
still_happens words (x ∷ xs) (y ∷ ys) (inr there) h = or_right (has_item_words words (event_words y)) (happens ys words) (still_happens words (x ∷ xs) ys there h)
