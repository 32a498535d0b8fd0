use Rattle.std.proofs.Common.{◌≡◌, ◌≤◌, ◌-◌, take, length}
use Rattle.sequence_rules.specs.Shared.{bindings_of}
use Rattle.sequence_rules.specs.Runs.{variables_of}
use Rattle.sequence_meaning.proofs.variables.copy_variables.Given as goal

abbrev pub invariant-loop-index : goal.invariant-loop-index
invariant-loop-index l = record {
  same : variables_of l.variables ≡ take l.index (bindings_of l.globals);
  within : l.index ≤ length (bindings_of l.globals);
}

abbrev pub decreases-loop-index : goal.decreases-loop-index
decreases-loop-index l = length (bindings_of l.globals) - l.index
