use Rattle.std.proofs.Common.{arith}
use Rattle.call_graph.specs.Spots.{IsInCycle}
use Rattle.call_graph.proofs.Firsts.{none_below_more, no_call, spot_of}
use Rattle.call_graph.proofs.cycle.first_cycle.Goals as goal
use Rattle.call_graph.proofs.cycle.first_cycle.Goals.{then-is_marked+in_ok-call+in_default, else-is_marked}

pub loop-node-preserved : goal.loop-node-preserved
loop-node-preserved c =
    none_below_more (IsInCycle c.args.graph.now) c.loop-node.node c.loop-node.invariant
    (elim c.if-is_marked.branch [
      | then-is_marked+in_ok-call+in_default w ↦ rw w.in_default.is at w.in_ok-call.ensures
      | else-is_marked w ↦ λ call h.
          let marked = c.in_ok-candidates.ensures (spot_of c.loop-node.node call) h in
          let reported = rw c.as_slice.ensures.value at c.is_marked.ensures in
          let no = w.if-is_marked.false in cc
    ])

pub returns : goal.returns
returns c = λ spot h. c.loop-node.invariant.none spot (omega (arith, no_call c.args.graph.now spot h.callee h.is_call, c.len-node-end.ensures)) h
