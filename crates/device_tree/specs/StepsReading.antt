-- Reading the steps of a sequence: the elements `block` and `control` of the Open-CMSIS-Pack debug description.
use Rattle.std.specs.Prelude.{◌-◌, ◌^◌, codes, false, [], ◌∷◌, Option, Some, None, is_some, Result, Ok, Err, if◌then◌else◌}
use Rattle.std.specs.Option.{option_map_or}
use Rattle.std.specs.Ordering.{nat_cmp, match_ordering}
use Rattle.std.specs.Cmp.Lexicographic.{slice_cmp}
use Rattle.serde_json.specs.Data.{Data, null, boolean, number, string, array, object, Items, no_items, item, Members, no_members, member}
use Rattle.serde_json.specs.Find.{get}
use Rattle.json_form.specs.declared.fault.JobFault.{JobFault}
use Rattle.json_form.specs.declared.fault.JobFault.TheVariants.{Missing, WrongKind}
use Rattle.json_form.specs.declared.path.PathStep.TheVariants.{Key, Index}
use Rattle.json_form.specs.Faults.{at}
use Rattle.dap_base.specs.Outcome.{◌>>=◌}
use Rattle.json_form.specs.Reading.{text, flag, number as number_in, only_keys, required_value, optional, or_else}
use Rattle.device_tree.specs.Keys.{block_keys, control_keys}
use Rattle.device_tree.specs.StepTree.{StepTree, no_steps}
use Rattle.device_tree.specs.StepsView.{then_step, tree_len}
use Rattle.device_tree.specs.declared.steps.Step.{Step}
use Rattle.device_tree.specs.declared.steps.Step.TheVariants.{Block, Control}

-- an object with the key `block`: a step that is a text of statements
unfoldable pub block_step : Data → Result Step JobFault
block_step d = do
  known ← only_keys block_keys d
  code ← required_value (codes "block") text d
  atomic ← or_else (codes "atomic") flag false d
  info ← optional (codes "info") text d
  Ok (Block code atomic)

-- a member's steps, from what the member reads as
abbrev pub inner_steps : Option (Result StepTree JobFault) → Result StepTree JobFault
inner_steps o = option_map_or (at (Key (codes "control"))) o (Err (Missing (Key (codes "control") ∷ [])))

-- a control, after its steps
unfoldable pub control_after : StepTree → Data → Result Step JobFault
control_after steps d = do
  cond ← optional (codes "if") text d
  repeat ← optional (codes "while") text d
  timeout ← optional (codes "timeout") (number_in 0 (2 ^ 64 - 1)) d
  info ← optional (codes "info") text d
  Ok (Control cond repeat timeout steps)

-- any other object: a control, whose key `control` reads as this
unfoldable pub control_step : Option (Result StepTree JobFault) → Data → Result Step JobFault
control_step inner d = do
  known ← only_keys control_keys d
  steps ← inner_steps inner
  control_after steps d

-- a step, from what the member `control` reads as
unfoldable pub step_with : Option (Result StepTree JobFault) → Data → Result Step JobFault
step_with inner d = if is_some (get (codes "block") d) then block_step d else control_step inner d

unfoldable mutual
  -- the value of `steps` or `control`: a list of steps
  pub steps_in : Data → Result StepTree JobFault
  steps_in null = Err (WrongKind [])
  steps_in (boolean b) = Err (WrongKind [])
  steps_in (number n) = Err (WrongKind [])
  steps_in (string s) = Err (WrongKind [])
  steps_in (array ds) = items_in no_steps ds
  steps_in (object ms) = Err (WrongKind [])

  -- the earlier steps, and then those of these items
  pub items_in : StepTree → Items → Result StepTree JobFault
  items_in earlier no_items = Ok earlier
  items_in earlier (item d ds) = do
    s ← at (Index (tree_len earlier)) (step_in d)
    items_in (then_step earlier s) ds

  -- an item of a list of steps: a block where it has the key `block`, else a control
  pub step_in : Data → Result Step JobFault
  step_in null = Err (WrongKind [])
  step_in (boolean b) = Err (WrongKind [])
  step_in (number n) = Err (WrongKind [])
  step_in (string s) = Err (WrongKind [])
  step_in (array ds) = Err (WrongKind [])
  step_in (object ms) = step_with (control_in ms) (object ms)

  -- what the member `control` of an object reads as, or none
  pub control_in : Members → Option (Result StepTree JobFault)
  control_in no_members = None
  control_in (member k d ms) = match_ordering (slice_cmp nat_cmp (codes "control") k) (control_in ms) (Some (steps_in d)) (control_in ms)
