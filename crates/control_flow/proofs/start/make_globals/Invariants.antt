use Rattle.std.proofs.Common.{◌≡◌, take}
use Rattle.sequence_rules.specs.Shared.{bindings_of}
use Rattle.sequence_rules.specs.Runs.{variables_of}
use Rattle.control_flow.specs.Closing.{bindings_as_values}
use Rattle.control_flow.proofs.start.make_globals.Given as goal

abbrev pub invariant-loop-variable : goal.invariant-loop-variable
invariant-loop-variable l = bindings_of l.globals ≡ bindings_as_values (variables_of (take l.variable-index l.start))
