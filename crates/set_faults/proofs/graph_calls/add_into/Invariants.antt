use Rattle.call_graph.specs.Marks.{IsInto}
use Rattle.set_faults.specs.Calls.{Ahead, AddsCalls}
use Rattle.set_faults.proofs.graph_calls.add_into.Given as goal

abbrev pub invariant-loop-call : goal.invariant-loop-call
invariant-loop-call l = AddsCalls (Ahead (IsInto l.graph l.marks) l.node l.call) l.fn.found l.found
