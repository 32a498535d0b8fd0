use Rattle.std.proofs.Common.{◌≡◌, ◌++◌, map, drop, string_bytes}
use Rattle.std.specs.List.{flat_map}
use Rattle.seq_check.specs.Answers.{checked_trees}
use Rattle.run_coverage.specs.Items.{sequence_items}
use Rattle.run_coverage.proofs.text.all_items.Given as goal

abbrev pub invariant-loop-name : goal.invariant-loop-name
invariant-loop-name l = l.items ++ flat_map (sequence_items (checked_trees l.checked)) (map string_bytes (drop l.name-index l.names)) ≡ flat_map (sequence_items (checked_trees l.checked)) (map string_bytes l.names)
