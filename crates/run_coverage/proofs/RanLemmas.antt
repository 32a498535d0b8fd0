-- Statements that are remembered.
use Rattle.std.proofs.Common.{◌≡◌, ◌∙◌, ℕ, ◌<◌, Bool, true, ◌||◌, List, [], ◌∷◌, ◌++◌, length, get_or, Option, Some, None, Result, Ok, Err, OnOk, bytes_eq, refl, sym, ap}
use Rattle.std.proofs.lemmas.List.Elements.{All-get_or, All-push, All-set, All-weaker}
use Rattle.std.proofs.lemmas.Slice.Eq.{bytes_eq-Decides}
use Rattle.std.specs.List.{AllPass, slice_set}
use Rattle.run_events.specs.Events.{Event}
use Rattle.run_coverage.specs.declared.coverage.Coverage.{Coverage}
use Rattle.run_coverage.specs.declared.ran.RanStatement.{RanStatement}
use Rattle.run_coverage.specs.Covered.{event_words, has, IsOf}
use Rattle.run_coverage.proofs.CoverLemmas.{noted}
use Rattle.run_coverage.specs.Ran.{is_had, ran_item_words}
use Rattle.code_check.proofs.Visible.{absorbed}

abbrev Has : Type 0
Has = List ℕ → Bool

pub none_had : (has : Has) (slots : List (Option RanStatement)) → AllPass (is_had has) slots → AllPass (is_had has) (slots ++ None ∷ [])
none_had has slots all = All-push (λ o. is_had has o ≡ true) slots None all refl

pub one_had : (has : Has) (slots : List (Option RanStatement)) (slot : ℕ) (ran : RanStatement) (words : List ℕ) → ran_item_words ran ≡ words → has words ≡ true → AllPass (is_had has) slots → AllPass (is_had has) (slice_set slots slot (Some ran))
one_had has slots slot ran words is h all = All-set (λ o. is_had has o ≡ true) slots slot (Some ran) (ap has is ∙ h) all

more_one : (old new : Has) (words : List ℕ) → ((other : List ℕ) → new other ≡ (old other || bytes_eq other words)) → (o : Option RanStatement) → is_had old o ≡ true → is_had new o ≡ true
more_one old new words is None h = refl
more_one old new words is (Some ran) h = is (ran_item_words ran) ∙ ap (λ b. b || bytes_eq (ran_item_words ran) words) h

pub more_had : (old new : Has) (words : List ℕ) → ((other : List ℕ) → new other ≡ (old other || bytes_eq other words)) → (slots : List (Option RanStatement)) → AllPass (is_had old) slots → AllPass (is_had new) slots
more_had old new words is slots all = All-weaker (λ o. is_had old o ≡ true) (λ o. is_had new o ≡ true) (more_one old new words is) slots all

-- what is remembered at a place is had
pub slot_had : (has : Has) (slots : List (Option RanStatement)) (slot : ℕ) (ran : RanStatement) (d : Option RanStatement) → slot < length slots → get_or slots slot d ≡ Some ran → AllPass (is_had has) slots → has (ran_item_words ran) ≡ true
slot_had has slots slot ran d less is all = sym (ap (is_had has) is) ∙ All-get_or (λ o. is_had has o ≡ true) slots slot d less all

pub same_bytes : (xs ys : List ℕ) (r : Bool) → r ≡ bytes_eq xs ys → r ≡ true → xs ≡ ys
same_bytes xs ys r is h = (bytes_eq-Decides xs ys).0 (sym is ∙ h)

pub had_again : (has : Has) (words : List ℕ) → has words ≡ true → (other : List ℕ) → has other ≡ (has other || bytes_eq other words)
had_again has words h other = absorbed (has other) (bytes_eq other words) (λ e. ap has ((bytes_eq-Decides other words).0 e) ∙ h)

-- a statement that ran before
pub ran_again : (coverage : Coverage) (events : List Event) (e : Event) (words : List ℕ) → event_words e ≡ Some words → has coverage words ≡ true → IsOf coverage events → IsOf coverage (events ++ e ∷ [])
ran_again coverage events e words is h of = noted coverage coverage events e words is (had_again (has coverage) words h) of

pub always : {A E : Type 0} (r : Result A E) (P : Type 0) → P → OnOk r P
always (Ok x) P h = h
always (Err e) P h = tt
