use Rattle.std.proofs.Common.{◌≡◌, take, None, false}
use Rattle.code_check.specs.First.{IsFirst}
use Rattle.sequence_trees.specs.Trees.{steps_tree}
use Rattle.seq_check.specs.StepFaults.{is_step_before, names_after_steps, FaultInSteps}
use Rattle.seq_check.proofs.steps.+steps.Given as goal

abbrev pub invariant-steps_fault-loop-number : goal.invariant-steps_fault-loop-number
invariant-steps_fault-loop-number l = record {
  none : IsFirst is_step_before (FaultInSteps (record { visible = l.fn.names; sequences = l.sequences; in_debugvars = false }) l.around 0 (steps_tree (take l.number l.steps))) None;
  names : l.names ≡ names_after_steps l.fn.names (steps_tree (take l.number l.steps));
}
