use Rattle.call_graph.specs.Spots.{IsInCycle}
use Rattle.set_faults.specs.Listed.{IsListOf}
use Rattle.set_faults.specs.Calls.{is_call_before, Below}
use Rattle.set_faults.proofs.graph_calls.calls_among.Given as goal

abbrev pub invariant-loop-node : goal.invariant-loop-node
invariant-loop-node l = IsListOf is_call_before (Below (IsInCycle l.graph) l.node) l.found
