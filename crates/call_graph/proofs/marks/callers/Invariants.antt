use Rattle.std.proofs.Common.{◌≡◌, take}
use Rattle.call_graph.specs.Marks.{callers_of}
use Rattle.call_graph.proofs.marks.callers.Given as goal

abbrev pub invariant-loop-node : goal.invariant-loop-node
invariant-loop-node l = l.callers.items ≡ callers_of (take l.node l.graph) l.marks
