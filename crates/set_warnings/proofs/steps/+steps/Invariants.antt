use Rattle.std.proofs.Common.{◌≡◌, ◌++◌, take}
use Rattle.sequence_trees.specs.Trees.{steps_tree}
use Rattle.set_warnings.specs.Steps.{steps_warnings}
use Rattle.set_warnings.proofs.steps.+steps.Given as goal

abbrev pub invariant-add_steps-loop-number : goal.invariant-add_steps-loop-number
invariant-add_steps-loop-number l = l.found ≡ l.fn.found ++ steps_warnings l.vars l.sequence l.path 0 (steps_tree (take l.number l.steps))
