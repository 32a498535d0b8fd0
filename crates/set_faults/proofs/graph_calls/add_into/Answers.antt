use Rattle.std.proofs.Common.{arith}
use Rattle.call_graph.specs.Marks.{IsInto}
use Rattle.set_faults.proofs.GraphLemmas.{no_calls, into_more, into_done}
use Rattle.set_faults.proofs.graph_calls.add_into.Goals as goal

pub loop-call-init : goal.loop-call-init
loop-call-init c = no_calls (IsInto c.args.graph.now c.args.marks.now) c.args.node c.args.found.now

pub loop-call-preserved : goal.loop-call-preserved
loop-call-preserved c =
    into_more c.args.graph.now c.args.marks.now c.args.node c.loop-call.call c.callees-callee-items.result.now c.is_marked.result c.args.found.now c.loop-call.found c.add_if.new.found c.callees-callee-items.ensures (omega arith)
    c.is_marked.ensures c.loop-call.invariant c.in_ok-add_if.ensures

pub returns : goal.returns
returns c = into_done c.args.graph.now c.args.marks.now c.args.node c.loop-call.call c.callees-callee-items.result.now c.args.found.now c.loop-call.found c.callees-callee-items.ensures (omega arith) c.loop-call.invariant
