-- Words of what happened.
use Rattle.std.proofs.Common.{◌≡◌, ◌∙◌, sym, ap, refl, ◌||◌, ℕ, Bool, true, false, cond, List, [], ◌∷◌, ◌++◌, Some, None, bytes_eq}
use Rattle.std.proofs.Math.Path.{fun_ext}
use Rattle.std.proofs.lemmas.List.Folds.{list_any-append}
use Rattle.std.proofs.lemmas.Slice.Eq.{bytes_eq-Decides}
use Rattle.std.specs.List.{list_any}
use Rattle.std.proofs.Math.Bool.{or-false}
use Rattle.indexmap.specs.IndexSet.{insert_key}
use Rattle.sequence_trees.specs.Trees.{SetTrees}
use Rattle.run_events.specs.Events.{Event}
use Rattle.run_coverage.specs.declared.coverage.Coverage.{Coverage}
use Rattle.run_coverage.specs.Covered.{event_words, happens, has, has_item_words, IsOf}
use Rattle.run_coverage.specs.Text.{coverage_lines}

-- keys that are found by their bytes, after one more was put in
module _ {K : Type 0} (bytes : K → List ℕ) (ks : List K) (k : K) (words : List ℕ) where
  abbrev found : Bool
  found = list_any (λ y. bytes_eq words (bytes y)) ks

  abbrev among : List ℕ → Bool
  among own = list_any (λ y. bytes_eq own (bytes y)) ks

  there : (b : Bool) → bytes_eq words (bytes k) ≡ b → among (bytes k) ≡ true → found ≡ (found || b)
  there false h own = sym (or-false found)
  there true h own =
      let same : among words ≡ true = ap among ((bytes_eq-Decides words (bytes k)).0 h) ∙ own in
      same ∙ sym (ap (λ b. b || true) same)

  put : (b : Bool) → among (bytes k) ≡ b → list_any (λ y. bytes_eq words (bytes y)) (cond b ks (ks ++ k ∷ [])) ≡ (found || bytes_eq words (bytes k))
  put true h = there (bytes_eq words (bytes k)) refl h
  put false h = list_any-append (λ y. bytes_eq words (bytes y)) ks (k ∷ []) ∙ ap (λ b. found || b) (or-false (bytes_eq words (bytes k)))

  pub kept : list_any (λ y. bytes_eq words (bytes y)) (insert_key (λ x y. bytes_eq (bytes x) (bytes y)) ks k) ≡ (found || bytes_eq words (bytes k))
  kept = put (among (bytes k)) refl

one_more : (events : List Event) (e : Event) (words : List ℕ) → happens (events ++ e ∷ []) words ≡ (happens events words || has_item_words words (event_words e))
one_more events e words =
    list_any-append (λ x. has_item_words words (event_words x)) events (e ∷ []) ∙ ap (λ b. happens events words || b) (or-false (has_item_words words (event_words e)))

pub noted : (old new : Coverage) (events : List Event) (e : Event) (words : List ℕ) → event_words e ≡ Some words → ((other : List ℕ) → has new other ≡ (has old other || bytes_eq other words))
    → IsOf old events → IsOf new (events ++ e ∷ [])
noted old new events e words is h of = λ other.
    h other ∙ ap (λ b. b || bytes_eq other words) (of other) ∙ sym (one_more events e other ∙ ap (λ o. happens events other || has_item_words other o) is)

pub not_noted : (coverage : Coverage) (events : List Event) (e : Event) → event_words e ≡ None → IsOf coverage events → IsOf coverage (events ++ e ∷ [])
not_noted coverage events e none of = λ other.
    of other ∙ sym (one_more events e other ∙ ap (λ o. happens events other || has_item_words other o) none ∙ or-false (happens events other))

pub same_lines : (coverage : Coverage) (events : List Event) (set : SetTrees) (names : List (List ℕ)) (t : List ℕ) → IsOf coverage events → t ≡ coverage_lines (has coverage) set names
    → t ≡ coverage_lines (happens events) set names
same_lines coverage events set names t of is = is ∙ ap (λ h. coverage_lines h set names) (fun_ext of)
