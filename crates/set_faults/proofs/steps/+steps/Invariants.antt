use Rattle.std.proofs.Common.{◌≡◌, take, false}
use Rattle.sequence_trees.specs.Trees.{steps_tree}
use Rattle.seq_check.specs.StepFaults.{is_step_before, names_after_steps, FaultInSteps}
use Rattle.set_faults.specs.Sites.{site_step, step_fault_at, Appends}
use Rattle.set_faults.proofs.steps.+steps.Given as goal

abbrev pub invariant-add_steps-loop-number : goal.invariant-add_steps-loop-number
invariant-add_steps-loop-number l = record {
  list : Appends is_step_before (step_fault_at (site_step l.site)) (FaultInSteps (record { visible = l.fn.names; sequences = l.sequences; in_debugvars = false }) l.around 0 (steps_tree (take l.number l.steps))) l.fn.found l.found;
  names : l.names ≡ names_after_steps l.fn.names (steps_tree (take l.number l.steps));
}
