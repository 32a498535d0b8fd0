use Rattle.std.proofs.Common.{◌≡◌, map, take}
use Rattle.seq_check.proofs.set_calls.graph_of.Given as goal

abbrev pub invariant-loop-list : goal.invariant-loop-list
invariant-loop-list l = l.graph ≡ map (λ cs. map (λ c. c.callee) cs) (take l.list-index l.calls)
