-- How much is left to count in steps, for the measure of a count that goes inwards.
use Rattle.std.proofs.Common.{ℕ, zero, suc, ◌+◌, ◌*◌, ◌<◌, ◌≤◌, List, [], ◌∷◌, length, get_or, arith}
use Rattle.device_tree.specs.StepTree.{tree_size}
use Rattle.device_tree.specs.StepsView.{steps_view}
use Rattle.device_tree.specs.declared.steps.Step.{Step}
use Rattle.device_tree.specs.declared.steps.Step.TheVariants.{Block, Control}

abbrev pub step_weight : Step → ℕ
step_weight (Block code atomic) = 0
step_weight (Control cond repeat timeout steps) = 3 * tree_size steps + 3

weight_first : (s : Step) (ss : List Step) → step_weight s + 3 * tree_size (steps_view ss) ≤ 3 * tree_size (steps_view (s ∷ ss))
weight_first (Block code atomic) ss = omega arith
weight_first (Control cond repeat timeout steps) ss = omega arith

pub weight_below : (ss : List Step) (i : ℕ) (s : Step) → i < length ss → step_weight (get_or ss i s) ≤ 3 * tree_size (steps_view ss)
weight_below [] i s h = absurd (omega arith)
weight_below (x ∷ ss) zero s h = omega (arith, weight_first x ss)
weight_below (x ∷ ss) (suc i) s h = let lt : i < length ss = omega arith in omega (arith, weight_first x ss, weight_below ss i s lt)
