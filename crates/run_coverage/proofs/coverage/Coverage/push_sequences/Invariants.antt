use Rattle.std.proofs.Common.{◌≡◌, ◌++◌, map, drop, string_bytes}
use Rattle.std.specs.List.{flat_map}
use Rattle.seq_check.specs.Answers.{checked_trees}
use Rattle.run_coverage.specs.Covered.{has}
use Rattle.run_coverage.specs.Text.{covered_line}
use Rattle.run_coverage.proofs.coverage.Coverage.push_sequences.Given as goal

abbrev pub invariant-loop-name : goal.invariant-loop-name
invariant-loop-name l = l.text.items ++ flat_map (covered_line (has l.self) (checked_trees l.checked)) (map string_bytes (drop l.name-index l.names)) ≡ l.fn.text.items ++ flat_map (covered_line (has l.self) (checked_trees l.checked)) (map string_bytes l.names)
