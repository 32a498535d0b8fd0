-- Lists of steps, as contracts see them.
use Rattle.std.proofs.Common.{◌≡◌, List, [], ◌∷◌, ◌++◌, refl, ap, ℕ, zero, suc, length, slice_get}
use Rattle.device_tree.specs.StepTree.{block, control}
use Rattle.device_tree.specs.StepsView.{steps_view, then_step, tree_len, step_at}
use Rattle.device_tree.specs.declared.steps.Step.{Step}
use Rattle.device_tree.specs.declared.steps.Step.TheVariants.{Block, Control}

pub steps_view-append : (ss : List Step) (s : Step) → steps_view (ss ++ s ∷ []) ≡ then_step (steps_view ss) s
steps_view-append [] (Block code atomic) = refl
steps_view-append [] (Control cond repeat timeout steps) = refl
steps_view-append (Block code atomic ∷ ss) s = ap (block code atomic) (steps_view-append ss s)
steps_view-append (Control cond repeat timeout steps ∷ ss) s = ap (control cond repeat timeout steps) (steps_view-append ss s)

pub tree_len-steps_view : (ss : List Step) → tree_len (steps_view ss) ≡ length ss
tree_len-steps_view [] = refl
tree_len-steps_view (Block code atomic ∷ ss) = ap suc (tree_len-steps_view ss)
tree_len-steps_view (Control cond repeat timeout steps ∷ ss) = ap suc (tree_len-steps_view ss)

pub step_at-steps_view : (ss : List Step) (i : ℕ) → step_at (steps_view ss) i ≡ slice_get ss i
step_at-steps_view [] i = refl
step_at-steps_view (Block code atomic ∷ ss) zero = refl
step_at-steps_view (Block code atomic ∷ ss) (suc i) = step_at-steps_view ss i
step_at-steps_view (Control cond repeat timeout steps ∷ ss) zero = refl
step_at-steps_view (Control cond repeat timeout steps ∷ ss) (suc i) = step_at-steps_view ss i

pub ruleset appending = (steps_view-append, tree_len-steps_view, step_at-steps_view)
