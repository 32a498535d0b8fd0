use Rattle.std.proofs.Common.{arith}
use Rattle.call_graph.specs.Marks.{IsInto}
use Rattle.set_faults.proofs.GraphLemmas.{none_below, node_more, all_nodes, into_node}
use Rattle.set_faults.proofs.graph_calls.calls_into.Goals as goal

pub loop-node-init : goal.loop-node-init
loop-node-init c = rw c.new-found.ensures (none_below (IsInto c.args.graph.now c.args.marks.now))

pub loop-node-preserved : goal.loop-node-preserved
loop-node-preserved c = node_more (IsInto c.args.graph.now c.args.marks.now) c.loop-node.node c.loop-node.found c.add_into.new.found c.loop-node.invariant c.in_ok-add_into.ensures

pub returns : goal.returns
returns c = all_nodes (IsInto c.args.graph.now c.args.marks.now) c.loop-node.node c.loop-node.found (λ d p. (let lt = into_node c.args.graph.now c.args.marks.now d p in omega (arith, lt, c.len-node-end.ensures))) c.loop-node.invariant
