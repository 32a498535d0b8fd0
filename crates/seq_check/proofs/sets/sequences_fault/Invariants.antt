use Rattle.std.proofs.Common.{◌≡◌, map, false}
use Rattle.sequence_trees.specs.SetView.{set_trees}
use Rattle.seq_check.proofs.SetLemmas.{Carries}
use Rattle.seq_check.proofs.sets.sequences_fault.Given as goal

abbrev pub invariant-loop-index : goal.invariant-loop-index
invariant-loop-index l = record {
  carries : Carries (record { visible = l.fn.names; sequences = l.sequences; in_debugvars = false }) l.index (map (λ s. s.steps) (set_trees l.set).sequences);
  names : l.names ≡ l.fn.names;
}
