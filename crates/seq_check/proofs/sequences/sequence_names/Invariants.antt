use Rattle.std.proofs.Common.{◌≡◌, [], drop}
use Rattle.sequence_trees.specs.SetView.{set_trees}
use Rattle.seq_check.specs.SetFaults.{names_of}
use Rattle.seq_check.proofs.SetLemmas.{added}
use Rattle.seq_check.proofs.sequences.sequence_names.Given as goal

abbrev pub invariant-loop-index : goal.invariant-loop-index
invariant-loop-index l = added l.names (drop l.index (names_of (set_trees l.set))) ≡ added [] (names_of (set_trees l.set))
