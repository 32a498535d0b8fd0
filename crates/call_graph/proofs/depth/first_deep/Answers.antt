use Rattle.call_graph.proofs.Firsts.{into_deep}
use Rattle.call_graph.proofs.depth.first_deep.Goals as goal

pub returns : goal.returns
returns c =
    let first = rw c.as_slice.ensures.value at c.first_into.ensures in
    into_deep c.args.graph.now c.in_ok-marks.marks.items c.in_ok-marks.ensures c.first_into.result first
