-- The texts of steps and of a set in their order, and the first that is faulty.
use Rattle.std.specs.Prelude.{◌≡◌, ℕ, suc, List, [], ◌∷◌, ◌++◌, map, Option, None, Some, if◌then◌else◌}
use Rattle.std.specs.List.{AllByRecursion}
use Rattle.std.specs.Option.{option_map_or}
use Rattle.dap_base.specs.declared.text.Place.{Place}
use Rattle.device_tree.specs.StepTree as device
use Rattle.sequence_resolve.specs.declared.entry.SeqEntry.{SeqEntry}
use Rattle.sequence_resolve.specs.declared.entry.SeqSet.{SeqSet}
use Rattle.expr_grammar.specs.Tree.{Tree, StmtTree}
use Rattle.sequence_trees.specs.Texts.{IsCodeOf, IsConditionOf, IsFaultyCode, IsFaultyCondition}
use Rattle.sequence_trees.specs.declared.spot.Part.{Part}
use Rattle.sequence_trees.specs.declared.spot.Part.TheVariants as kinds
use Rattle.sequence_trees.specs.declared.spot.Spot.{Spot}

-- a text that is to be read: the step that has it, which part of the step it is, and its bytes
pub record TextAt (W : Type 0) : Type 0 where
  pub step : W
  pub part : Part
  pub text : List ℕ

-- the same text, its step seen from elsewhere
abbrev pub moved_text : {V W : Type 0} → (V → W) → TextAt V → TextAt W
moved_text f t = record { step = f t.step; part = t.part; text = t.text }

-- ---- what a text of a part is to be

-- The debug variables and blocks are code, the `if` and the `while` of a control are conditions.
abbrev pub IsFine : Part → List ℕ → Type 0
IsFine kinds.Debugvars text = (code : List StmtTree) × IsCodeOf text code
IsFine kinds.Block text = (code : List StmtTree) × IsCodeOf text code
IsFine kinds.If text = (e : Tree) × IsConditionOf text e
IsFine kinds.While text = (e : Tree) × IsConditionOf text e
IsFine kinds.Control text = ⊥

-- the text is not that, and this is the place of its first fault
abbrev pub IsFaulty : Part → List ℕ → Place → Type 0
IsFaulty kinds.Debugvars text at = IsFaultyCode text at
IsFaulty kinds.Block text at = IsFaultyCode text at
IsFaulty kinds.If text at = IsFaultyCondition text at
IsFaulty kinds.While text at = IsFaultyCondition text at
IsFaulty kinds.Control text at = ⊥

-- The first of the texts that is faulty is this part of this step, with its first fault at this place.
pub record IsFirstFaulty {W : Type 0} (texts : List (TextAt W)) (step : W) (part : Part) (at : Place) : Type 0 where
  pub before : List (TextAt W)
  pub text : List ℕ
  pub after : List (TextAt W)
  pub parts : texts ≡ before ++ record { step = step; part = part; text = text } ∷ after
  pub fine : AllByRecursion (λ t. IsFine t.part t.text) before
  pub faulty : IsFaulty part text at

-- ---- the texts of steps; a step is the path to it from the list that they stand in

-- a text of steps
abbrev pub StepText : Type 0
StepText = TextAt (List ℕ)

-- the texts that a step has itself stand at the empty path
abbrev pub own : Part → List ℕ → StepText
own part text = record { step = []; part = part; text = text }

-- the text of this part, where there is one
abbrev pub text_if_some : Part → Option (List ℕ) → List StepText
text_if_some part text = option_map_or (λ t. own part t ∷ []) text []

-- a block has its code
abbrev pub block_texts : List ℕ → List StepText
block_texts code = own kinds.Block code ∷ []

-- a control has its `if`, its `while`, and then the texts of the steps inside
abbrev pub control_texts : Option (List ℕ) → Option (List ℕ) → List StepText → List StepText
control_texts cond repeat inner = (text_if_some kinds.If cond ++ text_if_some kinds.While repeat) ++ inner

-- the texts of a step, seen from the list in which it has the number n
abbrev pub under : ℕ → List StepText → List StepText
under n texts = map (moved_text (λ path. n ∷ path)) texts

-- the texts of steps, of which the first has the number n
abbrev pub steps_texts : ℕ → device.StepTree → List StepText
steps_texts n device.no_steps = []
steps_texts n (device.block code atomic rest) = under n (block_texts code) ++ steps_texts (suc n) rest
steps_texts n (device.control cond repeat timeout inner rest) = under n (control_texts cond repeat (steps_texts 0 inner)) ++ steps_texts (suc n) rest

-- ---- the texts of a set

-- a step of a set: its sequence, or none for the debug variables, and the path to it
pub record SetStep : Type 0 where
  pub sequence : Option (List ℕ)
  pub path : List ℕ

-- a place in a part of a step
abbrev pub spot_at : SetStep → Part → Place → Spot
spot_at step part place = record { sequence = step.sequence; path = step.path; part = part; place = place }

-- a disabled sequence has no steps
abbrev pub enabled_steps : SeqEntry → device.StepTree
enabled_steps e = if e.disabled then device.no_steps else e.steps

-- the texts of a sequence
abbrev pub entry_texts : SeqEntry → List (TextAt SetStep)
entry_texts e = map (moved_text (λ path. record { sequence = Some e.name; path = path })) (steps_texts 0 (enabled_steps e))

-- the texts of sequences, in order
abbrev pub entries_texts : List SeqEntry → List (TextAt SetStep)
entries_texts [] = []
entries_texts (e ∷ es) = entry_texts e ++ entries_texts es

-- the text of the debug variables
abbrev pub debugvars_texts : List ℕ → List (TextAt SetStep)
debugvars_texts text = record { step = record { sequence = None; path = [] }; part = kinds.Debugvars; text = text } ∷ []

-- the debug variables, and then the sequences in the set's order
abbrev pub set_texts : SeqSet → List (TextAt SetStep)
set_texts set = debugvars_texts set.debugvars ++ entries_texts set.entries

-- the step of a spot
abbrev pub step_of : Spot → SetStep
step_of spot = record { sequence = spot.sequence; path = spot.path }

-- the first text of the set that is faulty has its first fault here
abbrev pub IsFirstFault : SeqSet → Spot → Type 0
IsFirstFault set spot = IsFirstFaulty (set_texts set) (step_of spot) spot.part spot.place
