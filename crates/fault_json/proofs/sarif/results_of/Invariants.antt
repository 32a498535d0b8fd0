use Rattle.std.proofs.Common.{◌≡◌, ◌++◌, drop, map}
use Rattle.serde_json.specs.View.{view}
use Rattle.fault_json.specs.SarifLog.{result_data}
use Rattle.fault_json.proofs.sarif.results_of.Given as goal

abbrev pub invariant-loop-fault : goal.invariant-loop-fault
invariant-loop-fault l = map view l.results.items ++ map (result_data l.sets) (drop l.fault-index l.faults) ≡ map (result_data l.sets) l.faults
