use Rattle.std.proofs.Common.{◌≡◌, [], map, drop}
use Rattle.serde_json.specs.View.{view}
use Rattle.job_text.specs.RunReading.{values_after}
use Rattle.job_text.proofs.run.values_of.Given as goal

abbrev pub invariant-loop-name : goal.invariant-loop-name
invariant-loop-name l =
    values_after l.variables (map (λ name. name.now) (drop l.name-index l.names)) (view l.value) ≡ values_after [] (map (λ name. name.now) l.names) (view l.value)
