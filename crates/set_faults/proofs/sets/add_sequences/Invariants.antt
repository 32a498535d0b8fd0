use Rattle.std.proofs.Common.{◌≡◌, map, take, false}
use Rattle.sequence_trees.specs.SetView.{set_trees}
use Rattle.seq_check.specs.SetFaults.{is_set_before, FaultInSequences}
use Rattle.set_faults.specs.Sites.{Appends}
use Rattle.set_faults.specs.Rules.{fault_of}
use Rattle.set_faults.proofs.sets.add_sequences.Given as goal

abbrev pub invariant-loop-index : goal.invariant-loop-index
invariant-loop-index l = record {
  list : Appends is_set_before (fault_of (set_trees l.set)) (FaultInSequences (record { visible = l.fn.names; sequences = l.sequences; in_debugvars = false }) 0 (take l.index (map (λ s. s.steps) (set_trees l.set).sequences))) l.fn.found l.found;
  names : l.names ≡ l.fn.names;
}
