-- Values that may not have come.
use Rattle.std.specs.Prelude.{ℕ, ◌<◌, List, slice_index}
use Rattle.std.specs.Bool.{⊤}
use Rattle.target_calls.specs.World.{World, results}
use Rattle.target_calls.specs.declared.calls.Ask.{Ask}
use Rattle.target_calls.specs.declared.calls.Value.{Value}
use Rattle.target_calls.specs.declared.calls.Value.TheVariants.{Number, Pending}

-- the number that a value is, once these calls were made
abbrev pub number_of : World → List Ask → Value → ℕ
number_of w calls (Number n) = n
number_of w calls (Pending slot) = slice_index (results w calls) slot.index

-- its call is among the first ones, of which so many were asked
abbrev pub IsAsked : ℕ → Value → Type 0
IsAsked calls (Number n) = ⊤
IsAsked calls (Pending slot) = slot.index < calls
