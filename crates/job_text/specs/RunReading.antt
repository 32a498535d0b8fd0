-- Reading how sequences are run: the member `run` of a job.
use Rattle.std.specs.Prelude.{ℕ, ◌-◌, ◌^◌, codes, List, [], ◌∷◌, ◌++◌, map, Result, Ok}
use Rattle.serde_json.specs.Data.{Data}
use Rattle.json_form.specs.declared.fault.JobFault.{JobFault}
use Rattle.dap_base.specs.Outcome.{◌>>=◌}
use Rattle.json_form.specs.Reading.{number, only_keys, or_else}
use Rattle.target_machine.specs.declared.unit.Variable.{Variable}
use Rattle.target_machine.specs.declared.unit.Settings.{Settings}
use Rattle.function_table.specs.Variables.{names_of_predefined}
use Rattle.job_text.specs.Keys.{run_keys}

-- the variable of this name starts at this value
abbrev pub with_value : ℕ → List ℕ → Variable
with_value value name = record { name = name; value = value }

-- a variable, 0 where it is not given
unfoldable pub variable_in : List ℕ → Data → Result Variable JobFault
variable_in name d = do
  value ← or_else name (number 0 (2 ^ 64 - 1)) 0 d
  Ok (with_value value name)

-- the variables of these names after the earlier ones
unfoldable pub values_after : List Variable → List (List ℕ) → Data → Result (List Variable) JobFault
values_after earlier [] d = Ok earlier
values_after earlier (name ∷ names) d = do
  variable ← variable_in name d
  values_after (earlier ++ variable ∷ []) names d

-- the value of `variables`: a starting value for each predefined variable, in their order
unfoldable pub variables_in : Data → Result (List Variable) JobFault
variables_in d = do
  known ← only_keys names_of_predefined d
  values_after [] names_of_predefined d

-- each predefined variable at 0
abbrev pub zeros : List Variable
zeros = map (with_value 0) names_of_predefined

-- the value of `run`: how sequences are run
unfoldable pub run_in : Data → Result Settings JobFault
run_in d = do
  known ← only_keys run_keys d
  turn ← or_else (codes "turn_us") (number 1 60000000) 10 d
  retry ← or_else (codes "retry") (number 0 65535) 100 d
  idle ← or_else (codes "idle") (number 0 255) 0 d
  start ← or_else (codes "variables") variables_in zeros d
  Ok (record { turn_us = turn; retry = retry; idle = idle; start = start })

-- the settings of a job without `run`
abbrev pub default_settings : Settings
default_settings = record { turn_us = 10; retry = 100; idle = 0; start = zeros }
