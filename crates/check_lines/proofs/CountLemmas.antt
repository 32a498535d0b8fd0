-- Counts of steps in a row.
use Rattle.std.proofs.Common.{◌≡◌, ℕ, ◌+◌, ◌<◌, Bool, true, false, List, length, take, get_or, sym, ap, ◌∙◌, arith, if◌then◌else◌}
use Rattle.std.proofs.lemmas.List.{take_more}
use Rattle.device_tree.specs.StepTree.{StepTree, no_steps, block, control}
use Rattle.device_tree.specs.StepsView.{steps_view, then_step, cons_step}
use Rattle.device_tree.specs.declared.steps.Step.{Step}
use Rattle.device_tree.specs.declared.steps.Step.TheVariants.{Block}
use Rattle.device_tree.proofs.StepsLemmas.{steps_view-append}
use Rattle.check_lines.specs.declared.counts.StepCounts.{StepCounts}
use Rattle.check_lines.specs.Counts.{sum_over, AreCounts, IsSum}

-- one step more at the end
sum_over-then : (f : Bool → ℕ) (n : ℕ) (t : StepTree) (s : Step) → sum_over f n (then_step t s) ≡ sum_over f n t + sum_over f n (cons_step s no_steps)
sum_over-then f n no_steps s = omega arith
sum_over-then f n (block code atomic rest) s = omega (arith, sum_over-then f n rest s)
sum_over-then f n (control cond repeat timeout inner rest) s = omega (arith, sum_over-then f n rest s)

sum_over-more : (f : Bool → ℕ) (n : ℕ) (items : List Step) (i : ℕ) (x : Step) → i < length items → sum_over f n (steps_view (take (i + 1) items)) ≡ sum_over f n (steps_view (take i items)) + sum_over f n (cons_step (get_or items i x) no_steps)
sum_over-more f n items i x within =
    let grown : steps_view (take (i + 1) items) ≡ then_step (steps_view (take i items)) (get_or items i x) = ap steps_view (take_more items i x within) ∙ steps_view-append (take i items) (get_or items i x) in
    ap (sum_over f n) grown ∙ sum_over-then f n (steps_view (take i items)) (get_or items i x)

-- the counts of the steps so far, and those of the next one
pub counts_more : (items : List Step) (i : ℕ) (x : Step) (before one now : StepCounts) → i < length items → x ≡ get_or items i x → AreCounts (steps_view (take i items)) before → AreCounts (cons_step x no_steps) one → IsSum before one now → AreCounts (steps_view (take (i + 1) items)) now
counts_more items i x before one now within at so_far next both =
    let next_at : AreCounts (cons_step (get_or items i x) no_steps) one = rw (sym at) next in
    record {
      of_blocks = rw (sum_over-more (λ is_atomic. 1) 0 items i x within) (grind (arith, so_far.of_blocks, next_at.of_blocks, both.of_blocks));
      of_controls = rw (sum_over-more (λ is_atomic. 0) 1 items i x within) (grind (arith, so_far.of_controls, next_at.of_controls, both.of_controls));
      of_atomic = rw (sum_over-more (λ is_atomic. if is_atomic then 1 else 0) 0 items i x within) (grind (arith, so_far.of_atomic, next_at.of_atomic, both.of_atomic));
    }

-- a block alone
pub block_alone : (code : List ℕ) (atomic : Bool) (c : StepCounts) → c.blocks ≡ 1 → c.controls ≡ 0 → c.atomic ≡ (if atomic then 1 else 0) → AreCounts (cons_step (Block code atomic) no_steps) c
block_alone code true c blocks controls are_atomic = record { of_blocks = blocks; of_controls = controls; of_atomic = are_atomic }
block_alone code false c blocks controls are_atomic = record { of_blocks = blocks; of_controls = controls; of_atomic = are_atomic }
