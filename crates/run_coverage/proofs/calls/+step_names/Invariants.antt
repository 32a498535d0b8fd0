use Rattle.std.proofs.Common.{◌≡◌, ◌++◌, take}
use Rattle.sequence_trees.specs.Trees.{steps_tree}
use Rattle.run_coverage.specs.Reach.{steps_names}
use Rattle.run_coverage.proofs.calls.+step_names.Given as goal

abbrev pub invariant-push_names-loop-step : goal.invariant-push_names-loop-step
invariant-push_names-loop-step l = l.names ≡ l.fn.names ++ steps_names (steps_tree (take l.step-index l.steps))
