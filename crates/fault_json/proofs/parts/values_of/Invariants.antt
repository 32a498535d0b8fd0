use Rattle.std.proofs.Common.{◌≡◌, ◌++◌, drop, map}
use Rattle.serde_json.specs.View.{view}
use Rattle.fault_json.specs.Parts.{count}
use Rattle.fault_json.proofs.parts.values_of.Given as goal

abbrev pub invariant-loop-number : goal.invariant-loop-number
invariant-loop-number l = map view l.values.items ++ map count (drop l.number-index l.numbers) ≡ map count l.numbers
