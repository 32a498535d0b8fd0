use Rattle.std.proofs.Common.{◌≡◌, ◌++◌, drop, map}
use Rattle.serde_json.specs.View.{view}
use Rattle.fault_json.specs.FaultsJson.{fault_data}
use Rattle.fault_json.proofs.whole.fault_values.Given as goal

abbrev pub invariant-loop-fault : goal.invariant-loop-fault
invariant-loop-fault l = map view l.values.items ++ map (fault_data l.sets) (drop l.fault-index l.faults) ≡ map (fault_data l.sets) l.faults
