use Rattle.std.proofs.Common.{◌≡◌, ◌++◌, drop, map, slice_get}
use Rattle.serde_json.specs.View.{view}
use Rattle.fault_json.specs.FaultsJson.{data_if}
use Rattle.fault_json.proofs.fault.values_at.Given as goal

abbrev pub invariant-loop-place : goal.invariant-loop-place
invariant-loop-place l = map view l.values.items ++ map (λ place. data_if (slice_get l.sets place)) (drop l.place-index l.places) ≡ map (λ place. data_if (slice_get l.sets place)) l.places
