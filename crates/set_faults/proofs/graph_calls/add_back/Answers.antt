use Rattle.std.proofs.Common.{arith}
use Rattle.call_graph.specs.Spots.{IsInCycle}
use Rattle.set_faults.proofs.GraphLemmas.{no_calls, back_more, back_done}
use Rattle.set_faults.proofs.graph_calls.add_back.Goals as goal

pub loop-call-init : goal.loop-call-init
loop-call-init c = no_calls (IsInCycle c.args.graph.now) c.args.node c.args.found.now

pub loop-call-preserved : goal.loop-call-preserved
loop-call-preserved c =
    back_more c.args.graph.now c.args.node c.loop-call.call c.callees-callee-items.result.now c.in_ok-is_back.is_back c.args.found.now c.loop-call.found c.add_if.new.found c.callees-callee-items.ensures (omega arith)
    c.in_ok-is_back.ensures c.loop-call.invariant c.in_ok-add_if.ensures

pub returns : goal.returns
returns c = back_done c.args.graph.now c.args.node c.loop-call.call c.callees-callee-items.result.now c.args.found.now c.loop-call.found c.callees-callee-items.ensures (omega arith) c.loop-call.invariant
