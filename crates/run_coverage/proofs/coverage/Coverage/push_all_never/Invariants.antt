use Rattle.std.proofs.Common.{◌≡◌, ◌++◌, drop}
use Rattle.std.specs.List.{flat_map}
use Rattle.run_coverage.specs.Covered.{has}
use Rattle.run_coverage.specs.Text.{never_line}
use Rattle.run_coverage.proofs.coverage.Coverage.push_all_never.Given as goal

abbrev pub invariant-loop-item : goal.invariant-loop-item
invariant-loop-item l = l.text.items ++ flat_map (never_line (has l.self)) (drop l.item-index l.items) ≡ l.fn.text.items ++ flat_map (never_line (has l.self)) l.items
