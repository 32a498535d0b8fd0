use Rattle.call_graph.specs.Spots.{IsInCycle}
use Rattle.call_graph.proofs.Firsts.{NoneBelow}
use Rattle.call_graph.proofs.cycle.first_cycle.Given as goal

abbrev pub invariant-loop-node : goal.invariant-loop-node
invariant-loop-node l = NoneBelow (IsInCycle l.graph) l.node
