use Rattle.std.proofs.Common.{arith}
use Rattle.call_graph.proofs.Chains.{callers_begin}
use Rattle.call_graph.proofs.depth.chain_beginnings.Goals as goal

pub loop-reached-preserved : goal.loop-reached-preserved
loop-reached-preserved c =
    let callers = rw c.as_slice.ensures.value at c.in_ok-marks-2.ensures in
    (omega arith, omega arith, callers_begin c.args.graph.now c.loop-reached.reached c.loop-reached.marks.items c.in_ok-marks-2.marks.items c.loop-reached.invariant.0 callers c.loop-reached.invariant.2)
