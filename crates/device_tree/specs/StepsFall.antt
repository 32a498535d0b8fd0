-- A list inside is smaller than the list around it: a lemma for `Model` of `Steps`, which cites what is in specs/ alone.
use Rattle.std.specs.Prelude.{◌≤◌, List, [], ◌∷◌}
use Rattle.std.proofs.Common.{arith}
use denote.Param.Weighed.{most}
use Rattle.device_tree.specs.StepTree.{tree_size}
use Rattle.device_tree.specs.StepsView.{steps_view}
use Rattle.device_tree.specs.declared.steps.Step.{Step}
use Rattle.device_tree.specs.declared.steps.Step.TheVariants.{Block, Control}
use Rattle.device_tree.specs.declared.steps.Steps.TheDeep.{deep-Step}

-- the measure of each step of a list is at most the number of steps, those inside controls too
pub most_le-tree_size : (ss : List Step) → most deep-Step ss ≤ tree_size (steps_view ss)
most_le-tree_size [] = omega arith
most_le-tree_size (Block code atomic ∷ ss) = omega (arith, most_le-tree_size ss)
most_le-tree_size (Control cond repeat timeout steps ∷ ss) = omega (arith, most_le-tree_size ss)
