use Rattle.std.proofs.Common.{◌∙◌, ap, arith}
use Rattle.std.specs.Prelude.{position}
use Rattle.call_graph.specs.Marks.{is_marked, IsInto}
use Rattle.call_graph.proofs.Firsts.{none_below_more, first_of, no_call, into_first}
use Rattle.call_graph.proofs.depth.first_into.Goals as goal

pub returns-in-Some : goal.returns-in-Some
returns-in-Some c =
    let graph = c.args.graph.now in
    let marks = c.args.marks.now in
    let first = into_first graph marks c.loop-node.node _ (c.in-Some.ensures ∙ ap (position (is_marked marks)) c.callees.ensures) in
    first_of (IsInto graph marks) c.loop-node.node c.in-Some.call c.loop-node.invariant first.0 first.1

pub loop-node-preserved : goal.loop-node-preserved
loop-node-preserved c =
    let graph = c.args.graph.now in
    let marks = c.args.marks.now in
    none_below_more (IsInto graph marks) c.loop-node.node c.loop-node.invariant (into_first graph marks c.loop-node.node _ (c.in_default.ensures ∙ ap (position (is_marked marks)) c.callees.ensures))

pub returns : goal.returns
returns c = λ spot into. c.loop-node.invariant.none spot (omega (arith, no_call c.args.graph.now spot into.callee into.is_call, c.len-node-end.ensures)) into
