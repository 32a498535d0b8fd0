use Rattle.std.proofs.Common.{◌≤◌, ◌-◌}
use Rattle.call_graph.proofs.Chains.{MarksBeginnings}
use Rattle.call_graph.proofs.depth.chain_beginnings.Given as goal

abbrev pub invariant-loop-reached : goal.invariant-loop-reached
invariant-loop-reached l = (1 ≤ l.reached) × (l.reached ≤ l.count) × MarksBeginnings l.graph l.reached l.marks.items

abbrev pub decreases-loop-reached : goal.decreases-loop-reached
decreases-loop-reached l = l.count - l.reached
