use Rattle.std.proofs.Common.{◌≡◌, ◌++◌, drop, map}
use Rattle.serde_json.specs.View.{view}
use Rattle.fault_json.specs.WarningsSarif.{warning_rule}
use Rattle.fault_json.proofs.warned_sarif.add_rules.Given as goal

abbrev pub invariant-loop-kind : goal.invariant-loop-kind
invariant-loop-kind l = map view l.rules.items ++ map warning_rule (drop l.kind-index l.kinds) ≡ map view l.fn.rules.items ++ map warning_rule l.kinds
