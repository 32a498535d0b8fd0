-- What contracts see of the steps that a list holds.
use Rattle.std.specs.Prelude.{ℕ, zero, suc, Option, Some, None, List, [], ◌∷◌}
use Rattle.device_tree.specs.StepTree.{StepTree, no_steps, block, control}
use Rattle.device_tree.specs.declared.steps.Step.{Step}
use Rattle.device_tree.specs.declared.steps.Step.TheVariants.{Block, Control}

-- the steps, with one more in front
abbrev pub cons_step : Step → StepTree → StepTree
cons_step (Block code atomic) rest = block code atomic rest
cons_step (Control cond repeat timeout steps) rest = control cond repeat timeout steps rest

-- the steps of a list, as a tree
abbrev pub steps_view : List Step → StepTree
steps_view [] = no_steps
steps_view (s ∷ ss) = cons_step s (steps_view ss)

-- the steps, with one more at the end
abbrev pub then_step : StepTree → Step → StepTree
then_step no_steps s = cons_step s no_steps
then_step (block code atomic rest) s = block code atomic (then_step rest s)
then_step (control cond repeat timeout steps rest) s = control cond repeat timeout steps (then_step rest s)

-- how many steps the list itself holds
abbrev pub tree_len : StepTree → ℕ
tree_len no_steps = 0
tree_len (block code atomic rest) = suc (tree_len rest)
tree_len (control cond repeat timeout steps rest) = suc (tree_len rest)

-- the step of this number in the list itself, from 0
abbrev pub step_at : StepTree → ℕ → Option Step
step_at no_steps i = None
step_at (block code atomic rest) zero = Some (Block code atomic)
step_at (block code atomic rest) (suc i) = step_at rest i
step_at (control cond repeat timeout steps rest) zero = Some (Control cond repeat timeout steps)
step_at (control cond repeat timeout steps rest) (suc i) = step_at rest i
