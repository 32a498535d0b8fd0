use Rattle.std.proofs.Common.{◌≡◌, ◌++◌, drop, map}
use Rattle.serde_json.specs.View.{view}
use Rattle.fault_json.specs.SarifLog.{rule_data}
use Rattle.fault_json.proofs.sarif.rules_of.Given as goal

abbrev pub invariant-loop-kind : goal.invariant-loop-kind
invariant-loop-kind l = map view l.rules.items ++ map rule_data (drop l.kind-index l.kinds) ≡ map rule_data l.kinds
