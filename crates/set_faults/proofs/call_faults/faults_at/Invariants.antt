use Rattle.std.proofs.Common.{take}
use Rattle.sequence_trees.specs.SetView.{set_trees}
use Rattle.set_faults.specs.Calls.{AreCallsAt}
use Rattle.set_faults.proofs.call_faults.faults_at.Given as goal

abbrev pub invariant-loop-call : goal.invariant-loop-call
invariant-loop-call l = AreCallsAt (set_trees l.set) l.kind (take l.call-index l.found) l.faults
