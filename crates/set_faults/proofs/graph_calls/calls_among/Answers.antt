use Rattle.std.proofs.Common.{arith}
use Rattle.call_graph.specs.Spots.{IsInCycle}
use Rattle.set_faults.proofs.GraphLemmas.{none_below, node_more, all_nodes, cycle_within}
use Rattle.set_faults.proofs.graph_calls.calls_among.Goals as goal

pub loop-node-init : goal.loop-node-init
loop-node-init c = rw c.new-found.ensures (none_below (IsInCycle c.args.graph.now))

pub loop-node-preserved : goal.loop-node-preserved
loop-node-preserved c = node_more (IsInCycle c.args.graph.now) c.loop-node.node c.loop-node.found c.add_node.new.found c.loop-node.invariant c.in_ok-add_node.ensures

pub returns : goal.returns
returns c = all_nodes (IsInCycle c.args.graph.now) c.loop-node.node c.loop-node.found (λ d p. (let lt = cycle_within c.args.graph.now d p in omega (arith, lt, c.len-node-end.ensures))) c.loop-node.invariant
