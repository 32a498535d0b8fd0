use Rattle.std.proofs.Common.{◌≡◌, take}
use Rattle.sequence_trees.specs.SetView.{set_trees}
use Rattle.set_warnings.specs.Sequences.{entries_warnings}
use Rattle.set_warnings.proofs.sequences.sequences_warnings.Given as goal

abbrev pub invariant-loop-number : goal.invariant-loop-number
invariant-loop-number l = l.found ≡ entries_warnings (set_trees l.set) 0 (take l.number l.entries)
