use Rattle.call_graph.specs.Marks.{IsInto}
use Rattle.set_faults.specs.Listed.{IsListOf}
use Rattle.set_faults.specs.Calls.{is_call_before, Below}
use Rattle.set_faults.proofs.graph_calls.calls_into.Given as goal

abbrev pub invariant-loop-node : goal.invariant-loop-node
invariant-loop-node l = IsListOf is_call_before (Below (IsInto l.graph l.marks) l.node) l.found
