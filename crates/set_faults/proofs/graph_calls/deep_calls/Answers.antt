use Rattle.std.proofs.lemmas.Result.{IfOk-weaker}
use Rattle.set_faults.proofs.GraphLemmas.{into_deep}
use Rattle.set_faults.proofs.graph_calls.deep_calls.Goals as goal

pub returns : goal.returns
returns c =
    IfOk-weaker c.calls_into.result _ _ (λ found h. into_deep c.args.graph.now c.in_ok-marks.marks.items found c.in_ok-marks.ensures h) (rw c.as_slice.ensures.value at c.calls_into.ensures)
