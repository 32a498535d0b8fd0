use Rattle.std.proofs.Common.{◌≡◌, ◌++◌, drop, map}
use Rattle.serde_json.specs.View.{view}
use Rattle.fault_json.specs.WarningsSarif.{warning_result}
use Rattle.fault_json.proofs.warned_sarif.add_results.Given as goal

abbrev pub invariant-loop-warning : goal.invariant-loop-warning
invariant-loop-warning l =
    map view l.results.items ++ map (warning_result l.sets) (drop l.warning-index l.warnings) ≡ map view l.fn.results.items ++ map (warning_result l.sets) l.warnings
