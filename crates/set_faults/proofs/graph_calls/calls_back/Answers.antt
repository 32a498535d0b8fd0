use Rattle.set_faults.proofs.graph_calls.calls_back.Goals as goal

pub calls_among-requires : goal.calls_among-requires
calls_among-requires c = rw c.as_slice.ensures.value c.in_ok-candidates.ensures
