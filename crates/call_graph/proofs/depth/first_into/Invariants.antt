use Rattle.call_graph.specs.Marks.{IsInto}
use Rattle.call_graph.proofs.Firsts.{NoneBelow}
use Rattle.call_graph.proofs.depth.first_into.Given as goal

abbrev pub invariant-loop-node : goal.invariant-loop-node
invariant-loop-node l = NoneBelow (IsInto l.graph l.marks) l.node
