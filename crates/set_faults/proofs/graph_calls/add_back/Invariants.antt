use Rattle.call_graph.specs.Spots.{IsInCycle}
use Rattle.set_faults.specs.Calls.{Ahead, AddsCalls}
use Rattle.set_faults.proofs.graph_calls.add_back.Given as goal

abbrev pub invariant-loop-call : goal.invariant-loop-call
invariant-loop-call l = AddsCalls (Ahead (IsInCycle l.graph) l.node l.call) l.fn.found l.found
