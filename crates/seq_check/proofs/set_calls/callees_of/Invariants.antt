use Rattle.std.proofs.Common.{◌≡◌, map, take}
use Rattle.seq_check.proofs.set_calls.callees_of.Given as goal

abbrev pub invariant-loop-call : goal.invariant-loop-call
invariant-loop-call l = l.callees ≡ map (λ c. c.callee) (take l.call-index l.calls)
