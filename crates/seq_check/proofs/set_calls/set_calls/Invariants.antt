use Rattle.std.proofs.Common.{◌≡◌, ◌++◌, map, drop}
use Rattle.sequence_trees.specs.SetView.{set_trees}
use Rattle.seq_check.specs.SetFaults.{names_of}
use Rattle.seq_check.specs.Calls.{sequence_calls, set_calls}
use Rattle.seq_check.proofs.set_calls.set_calls.Given as goal

abbrev pub invariant-loop-index : goal.invariant-loop-index
invariant-loop-index l = l.calls ++ map (sequence_calls (names_of (set_trees l.set))) (drop l.index (map (λ s. s.steps) (set_trees l.set).sequences)) ≡ set_calls (set_trees l.set)
