use Rattle.call_graph.proofs.Falls.{FallBelow}
use Rattle.call_graph.proofs.ranks.fall.Given as goal

abbrev pub invariant-loop-node : goal.invariant-loop-node
invariant-loop-node l = FallBelow l.graph l.ranks l.node
