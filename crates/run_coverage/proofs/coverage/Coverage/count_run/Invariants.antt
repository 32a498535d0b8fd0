use Rattle.std.proofs.Common.{◌≡◌, ◌≤◌, length, filter, take}
use Rattle.run_coverage.specs.Covered.{has}
use Rattle.run_coverage.specs.Text.{has_run}
use Rattle.run_coverage.proofs.coverage.Coverage.count_run.Given as goal

abbrev pub invariant-loop-item : goal.invariant-loop-item
invariant-loop-item l = (l.count ≤ l.item-index) × (l.count ≡ length (filter (has_run (has l.self)) (take l.item-index l.items)))
