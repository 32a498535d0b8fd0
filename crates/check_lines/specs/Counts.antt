-- Blocks and controls, counted at all depths.
use Rattle.std.specs.Prelude.{◌≡◌, ℕ, ◌+◌, Bool, if◌then◌else◌}
use Rattle.device_tree.specs.StepTree.{StepTree, no_steps, block, control}
use Rattle.check_lines.specs.declared.counts.StepCounts.{StepCounts}

-- the sum, over all depths, of what each block and each control counts
abbrev pub sum_over : (Bool → ℕ) → ℕ → StepTree → ℕ
sum_over of_block of_control no_steps = 0
sum_over of_block of_control (block code is_atomic rest) = of_block is_atomic + sum_over of_block of_control rest
sum_over of_block of_control (control cond repeat timeout inner rest) =
    of_control + sum_over of_block of_control inner + sum_over of_block of_control rest

-- the number of blocks
abbrev pub block_count : StepTree → ℕ
block_count steps = sum_over (λ is_atomic. 1) 0 steps

-- the number of controls
abbrev pub control_count : StepTree → ℕ
control_count steps = sum_over (λ is_atomic. 0) 1 steps

-- the number of blocks that are `atomic`
abbrev pub atomic_count : StepTree → ℕ
atomic_count steps = sum_over (λ is_atomic. if is_atomic then 1 else 0) 0 steps

-- these are the numbers of blocks, controls and atomic blocks of the steps
pub record AreCounts (steps : StepTree) (c : StepCounts) : Type 0 where
  pub of_blocks : c.blocks ≡ block_count steps
  pub of_controls : c.controls ≡ control_count steps
  pub of_atomic : c.atomic ≡ atomic_count steps

-- each number of a is the sum of those of b and c
pub record IsSum (a b c : StepCounts) : Type 0 where
  pub of_blocks : c.blocks ≡ a.blocks + b.blocks
  pub of_controls : c.controls ≡ a.controls + b.controls
  pub of_atomic : c.atomic ≡ a.atomic + b.atomic
