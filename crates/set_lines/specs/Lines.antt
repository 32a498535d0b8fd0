-- The line of a text that a place of a set stands in.
use Rattle.std.specs.Prelude.{ℕ, zero, suc, ◌-◌, ◌==◌, List, [], ◌∷◌, find, Option, Some, None, option_map}
use Rattle.std.specs.List.{before_first, after_first}
use Rattle.std.specs.Option.{option_and_then}
use Rattle.std.specs.Str.{bytes_eq}
use Rattle.device_tree.specs.StepTree.{StepTree}
use Rattle.device_tree.specs.StepsView.{step_at}
use Rattle.device_tree.specs.declared.steps.Step.{Step}
use Rattle.device_tree.specs.declared.steps.Step.TheVariants.{Block, Control}
use Rattle.sequence_resolve.specs.declared.entry.SeqSet.{SeqSet}
use Rattle.sequence_trees.specs.declared.spot.Part.{Part}
use Rattle.sequence_trees.specs.declared.spot.Part.TheVariants as parts
use Rattle.sequence_trees.specs.declared.spot.Spot.{Spot}

-- the text after this many line feeds, up to the next one
abbrev pub line_after : ℕ → List ℕ → List ℕ
line_after zero text = before_first (λ b. b == 10) text
line_after (suc n) text = line_after n (after_first (λ b. b == 10) text)

-- the text of this part of a step; a block has its code, and a control its conditions
abbrev pub part_text : Part → Step → Option (List ℕ)
part_text parts.Block (Block code atomic) = Some code
part_text parts.If (Control cond repeat timeout steps) = cond
part_text parts.While (Control cond repeat timeout steps) = repeat
part_text part step = None

-- the steps inside a control
abbrev pub inner_steps : Step → Option StepTree
inner_steps (Block code atomic) = None
inner_steps (Control cond repeat timeout steps) = Some steps

-- the text of this part of the step at the path
abbrev pub text_along : Part → List ℕ → StepTree → Option (List ℕ)
text_along part [] steps = None
text_along part (n ∷ []) steps = option_and_then (part_text part) (step_at steps n)
text_along part (n ∷ m ∷ path) steps = option_and_then (text_along part (m ∷ path)) (option_and_then inner_steps (step_at steps n))

-- the text of this part of a step of a sequence, or the debug variables where no sequence is named
abbrev pub text_in : SeqSet → Option (List ℕ) → List ℕ → Part → Option (List ℕ)
text_in set None path part = Some set.debugvars
text_in set (Some name) path part = option_and_then (λ e. text_along part path e.steps) (find (λ e. bytes_eq name e.name) set.entries)

-- the line of the place; none where the part is no text, as a control itself is none
abbrev pub line_of : SeqSet → Spot → Option (List ℕ)
line_of set spot = option_map (line_after (spot.place.line - 1)) (text_in set spot.sequence spot.path spot.part)
