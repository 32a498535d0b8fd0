use Rattle.std.proofs.Common.{◌≡◌, map, take}
use Rattle.job_text.specs.RunReading.{with_value}
use Rattle.job_text.proofs.run.zeros_of.Given as goal

abbrev pub invariant-loop-name : goal.invariant-loop-name
invariant-loop-name l = l.variables ≡ map (with_value 0) (map (λ name. name.now) (take l.name-index l.names))
