-- Two traces side by side.
use Rattle.std.specs.Prelude.{◌≡◌, ℕ, Bool, List, Option, Some}
use Rattle.std.specs.Io.KnownBytes.{Appends}
use Rattle.trace_compare.specs.declared.traces.Traces.{Traces}
use Rattle.trace_compare.specs.declared.traces.Two.{Two}
use Rattle.trace_compare.specs.Coming.{Contents, GivesExchange, TakesAll, contents_left, first_coming}
use Rattle.trace_compare.specs.Comparison.{are_same, comparison, exchange_difference, is_alike}
use Rattle.trace_compare.specs.Counting.{Counting}

-- before the first exchanges
abbrev pub first_two : Traces
first_two = record { trace = first_coming; against = first_coming }

-- the next exchanges that come were given
pub record GivesTwo (before after : Traces) (old new other_old other_new : Option (List ℕ)) (two : Two) : Type 0 where
  pub trace : GivesExchange before.trace after.trace old new two.trace
  pub against : GivesExchange before.against after.against other_old other_new two.against

-- all that comes was taken
pub record TakesBoth (before after : Traces) (old other_old : Option (List ℕ)) : Type 0 where
  pub trace : TakesAll before.trace after.trace old
  pub against : TakesAll before.against after.against other_old

-- the difference, whether there is none, and what is counted in all
pub record Compared : Type 0 where
  pub text : List ℕ
  pub same : Bool
  pub trace : Counting
  pub against : Counting

-- what comes of two traces, compared after the exchange of this number
abbrev pub compared_traces : ℕ → Contents → Contents → Compared
compared_traces last a b =
    record { text = exchange_difference last a.exchanges b.exchanges; same = are_same a.exchanges b.exchanges; trace = a.counting; against = b.counting }

-- the difference was put, and this is counted in all
pub record DifferenceIsPut (c : Compared) (trace against : Counting) (written now : Option (List ℕ)) (same : Bool) : Type 0 where
  pub text : Appends written now c.text
  pub same_is : same ≡ c.same
  pub trace_is : trace ≡ c.trace
  pub against_is : against ≡ c.against

-- what comes of both, where these bytes are left of the sources
abbrev pub compared_left : ℕ → Traces → List ℕ → List ℕ → Compared
compared_left last traces a b = compared_traces last (contents_left traces.trace a) (contents_left traces.against b)

-- the difference was put, where the bytes of both sources are known
pub record PutsDifference (before after : Traces) (old new other_old other_new written now : Option (List ℕ)) (same : Bool) : Type 0 where
  pub given : (a b : List ℕ) → old ≡ Some a → other_old ≡ Some b
      → (x : List ℕ) × (y : List ℕ) × (new ≡ Some x) × (other_new ≡ Some y)
      × DifferenceIsPut (compared_left 0 before a b) (contents_left after.trace x).counting (contents_left after.against y).counting written now same

-- the text of the comparison of what comes of both
abbrev pub comparison_left : Traces → List ℕ → List ℕ → List ℕ
comparison_left traces a b = comparison (contents_left traces.trace a) (contents_left traces.against b)

-- whether what comes of both is alike
abbrev pub alike_left : Traces → List ℕ → List ℕ → Bool
alike_left traces a b = is_alike (contents_left traces.trace a) (contents_left traces.against b)
