-- How a run is closed.
use Rattle.std.specs.Prelude.{◌≡◌, ⊤, ℕ, List, [], ◌∷◌, map, Ok, Err}
use Rattle.target_calls.specs.Values.{number_of, IsAsked}
use Rattle.target_calls.specs.World.{World}
use Rattle.target_calls.specs.declared.calls.Ask.{Ask}
use Rattle.target_calls.specs.declared.calls.Value.{Value}
use Rattle.target_calls.specs.declared.calls.Value.TheVariants.{Number}
use Rattle.sequence_rules.specs.Late.{Late}
use Rattle.sequence_rules.specs.Machine as machine
use Rattle.sequence_rules.specs.Machine.{State, Out}
use Rattle.sequence_rules.specs.declared.bindings.Binding.{Binding}
use Rattle.access_calls.specs.declared.ended.Ending.{Ending}
use Rattle.access_calls.specs.declared.ended.Ending.TheVariants as e

-- numbers as values
abbrev pub bindings_as_values : List (Binding ℕ) → List (Binding Value)
bindings_as_values bs = map (λ (b : Binding ℕ). record { name = b.name; value = Number b.value }) bs

-- variables with the numbers that their values are, once these calls were made
abbrev pub numbers_in : World → List Ask → List (Binding Value) → List (Binding ℕ)
numbers_in w calls bs = map (λ (b : Binding Value). record { name = b.name; value = number_of w calls b.value }) bs

-- the calls of all these values are among the first ones
abbrev pub AreAsked : ℕ → List (Binding Value) → Type 0
AreAsked calls [] = ⊤
AreAsked calls (b ∷ bs) = IsAsked calls b.value × AreAsked calls bs

-- the meaning came to its end here
abbrev pub OutIs : Ending → State Value Late → Out Value Late (Unit {0}) → Type 0
OutIs e.Done s out = out ≡ Ok (tt, s)
OutIs (e.Halted cause) s out = out ≡ Err (machine.Halted cause, s)
OutIs other s out = ⊥

-- the run is Done or Halted
abbrev pub ComesToEnd : Ending → Type 0
ComesToEnd e.Done = ⊤
ComesToEnd (e.Halted cause) = ⊤
ComesToEnd other = ⊥

-- the sink did not fail
abbrev pub RunHasNoWriteFault : Ending → Type 0
RunHasNoWriteFault e.WriteFault = ⊥
RunHasNoWriteFault other = ⊤
