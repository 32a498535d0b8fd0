use Rattle.std.proofs.Common.{◌≡◌, ◌++◌, drop, map}
use Rattle.serde_json.specs.View.{view}
use Rattle.fault_json.specs.WarningsJson.{warning_data}
use Rattle.fault_json.proofs.warning.warning_values.Given as goal

abbrev pub invariant-loop-warning : goal.invariant-loop-warning
invariant-loop-warning l = map view l.values.items ++ map (warning_data l.sets) (drop l.warning-index l.warnings) ≡ map (warning_data l.sets) l.warnings
