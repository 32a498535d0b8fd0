use Rattle.std.proofs.Common.{◌≡◌, ◌++◌, take}
use Rattle.sequence_trees.specs.Trees.{steps_tree}
use Rattle.seq_check.specs.Calls.{steps_calls}
use Rattle.seq_check.proofs.step_calls.+step_calls.Given as goal

abbrev pub invariant-push_steps-loop-number : goal.invariant-push_steps-loop-number
invariant-push_steps-loop-number l = l.calls ≡ l.fn.calls ++ steps_calls l.names l.path 0 (steps_tree (take l.number l.steps))
