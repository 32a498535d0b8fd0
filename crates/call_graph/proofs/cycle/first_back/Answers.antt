use Rattle.std.proofs.Common.{List, ℕ, length, ap, arith, get_or}
use Rattle.call_graph.proofs.Cycles.{none_more, is_call_of_node}
use Rattle.call_graph.proofs.cycle.first_back.Goals as goal

pub loop-call-preserved : goal.loop-call-preserved
loop-call-preserved c =
    let callees = c.callees-callee-items.result.now in
    let no = c.if-branch.false in
    record {
      avoids = rw no at c.in_ok-reaches.ensures.avoids;
      none = none_more c.args.graph.now c.args.node c.loop-call.call (get_or callees c.loop-call.call 0) (ap (λ (xs : List ℕ). get_or xs c.loop-call.call 0) c.callees-callee-items.ensures)
          (λ back. let yes = c.in_ok-reaches.ensures.reached.1 back in cc) c.loop-call.invariant.none;
    }

pub returns : goal.returns
returns c = λ call h. c.loop-call.invariant.none call (let lt = is_call_of_node c.args.graph.now c.args.node call h in omega (arith, ap length c.callees-callee-items.ensures)) h
