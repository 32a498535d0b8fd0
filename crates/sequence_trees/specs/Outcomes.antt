-- What the readers of steps answer: what private contracts cite.
use Rattle.std.specs.Prelude.{◌≡◌, ℕ, List, [], ◌∷◌, Some, Result, Ok, Err, ⊤}
use Rattle.device_tree.specs.declared.steps.Step as device
use Rattle.sequence_trees.specs.declared.spot.Part.{Part}
use Rattle.sequence_trees.specs.declared.spot.Spot.{Spot}
use Rattle.sequence_trees.specs.declared.text.TextFault.{TextFault}
use Rattle.sequence_trees.specs.declared.text.TextFault.TheVariants as texts
use Rattle.sequence_trees.specs.declared.step_reader.FaultyText.{FaultyText}
use Rattle.sequence_trees.specs.declared.step_reader.StepFault.{StepFault}
use Rattle.sequence_trees.specs.declared.step_reader.StepFault.TheVariants as steps
use Rattle.sequence_trees.specs.declared.set_reader.SetFault.{SetFault}
use Rattle.sequence_trees.specs.declared.set_reader.SetFault.TheVariants as sets
use Rattle.sequence_trees.specs.Trees.{CodeStep}
use Rattle.sequence_trees.specs.Order.{StepText, TextAt, SetStep, step_of, block_texts, control_texts, steps_texts, IsFirstFaulty}
use Rattle.sequence_trees.specs.Reading.{ReadsBlock, ReadsControl, ReadsSteps}

-- the fault is the first of these texts that is faulty
abbrev pub IsFaultOf : List StepText → StepFault → Type 0
IsFaultOf all (steps.Syntax f) = IsFirstFaulty all f.path f.part f.place
IsFaultOf all steps.OutOfMemory = ⊤

-- the fault is the first of these texts of a set that is faulty
abbrev pub IsSetFaultOf : List (TextAt SetStep) → SetFault → Type 0
IsSetFaultOf all (sets.Syntax spot) = IsFirstFaulty all (step_of spot) spot.part spot.place
IsSetFaultOf all sets.OutOfMemory = ⊤

-- a value that is `Given`, or the first of the texts that is faulty
module _ {V : Type 0} (Given : V → Type 0) where
  -- of the texts of steps
  abbrev pub Outcome : List StepText → Result V StepFault → Type 0
  Outcome all (Ok v) = Given v
  Outcome all (Err fault) = IsFaultOf all fault

  -- of the texts of a set
  abbrev pub SetOutcome : List (TextAt SetStep) → Result V SetFault → Type 0
  SetOutcome all (Ok v) = Given v
  SetOutcome all (Err fault) = IsSetFaultOf all fault

-- one step
abbrev pub ReadsStep : device.Step → CodeStep → Type 0
ReadsStep (device.TheVariants.Block code atomic) = ReadsBlock code
ReadsStep (device.TheVariants.Control cond repeat timeout inner) = ReadsControl cond repeat timeout (λ own. ReadsSteps inner own)

-- the texts of one step
abbrev pub step_texts : device.Step → List StepText
step_texts (device.TheVariants.Block code atomic) = block_texts code
step_texts (device.TheVariants.Control cond repeat timeout inner) = control_texts cond repeat (steps_texts 0 inner)

-- the fault of a text that the step has itself
abbrev pub at_part : Part → TextFault → StepFault
at_part part (texts.Syntax at) = steps.Syntax (record { path = []; part = part; place = at })
at_part part texts.OutOfMemory = steps.OutOfMemory

-- the fault in the step of this number, unless memory ran out
abbrev pub IsUnder : ℕ → StepFault → StepFault → Type 0
IsUnder number inner steps.OutOfMemory = ⊤
IsUnder number inner (steps.Syntax reported) = (f : FaultyText) × (inner ≡ steps.Syntax f)
    × (reported ≡ record { path = number ∷ f.path; part = f.part; place = f.place })

-- the fault, in the sequence of this name
abbrev pub spot_in : List ℕ → FaultyText → Spot
spot_in name f = record { sequence = Some name; path = f.path; part = f.part; place = f.place }
