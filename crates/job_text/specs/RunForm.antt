-- Which JSON value stands for which settings, said apart from any order of reading.
use Rattle.std.specs.Prelude.{◌≡◌, ℕ, ◌-◌, ◌^◌, codes, List, [], ◌∷◌}
use Rattle.serde_json.specs.Data.{Data}
use Rattle.json_form.specs.Form.{IsNumber, HasOnly, HasOr}
use Rattle.function_table.specs.Variables.{names_of_predefined}
use Rattle.target_machine.specs.declared.unit.Variable.{Variable}
use Rattle.target_machine.specs.declared.unit.Settings.{Settings}
use Rattle.job_text.specs.RunReading.{with_value, zeros}

-- the variables have these names, each with the value that is given, or 0
abbrev pub HasValues : List (List ℕ) → Data → List Variable → Type 0
HasValues [] d variables = variables ≡ []
HasValues (name ∷ names) d variables =
    (value : ℕ) × (rest : List Variable) × (variables ≡ with_value value name ∷ rest) × HasOr name (IsNumber 0 (2 ^ 64 - 1)) 0 d value × HasValues names d rest

-- the value of `variables` has no keys other than the predefined variables, which start at its numbers, or at 0
pub record AreVariables (d : Data) (variables : List Variable) : Type 0 where
  pub known : HasOnly names_of_predefined d
  pub values : HasValues names_of_predefined d variables

-- the value of `run` stands for the settings: each key has its number, or its default where it is absent
pub record IsRun (d : Data) (settings : Settings) : Type 0 where
  pub known : HasOnly (codes "turn_us" ∷ codes "retry" ∷ codes "idle" ∷ codes "variables" ∷ []) d
  pub turn_us : HasOr (codes "turn_us") (IsNumber 1 60000000) 10 d settings.turn_us
  pub retry : HasOr (codes "retry") (IsNumber 0 65535) 100 d settings.retry
  pub idle : HasOr (codes "idle") (IsNumber 0 255) 0 d settings.idle
  pub start : HasOr (codes "variables") AreVariables zeros d settings.start
