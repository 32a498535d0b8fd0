use Rattle.std.proofs.Common.{◌≡◌, take}
use Rattle.sequence_rules.specs.Shared.{bindings_of}
use Rattle.sequence_rules.specs.Runs.{variables_of}
use Rattle.sequence_rules.proofs.start.predefined_globals.Given as goal

abbrev pub invariant-loop-variable : goal.invariant-loop-variable
invariant-loop-variable l = bindings_of l.globals ≡ variables_of (take l.variable-index l.start)
