use Rattle.std.proofs.Common.{sym, ◌∙◌}
use Rattle.direct_calls.proofs.ActionLemmas.{fault_access}
use Rattle.direct_calls.proofs.accesses.make_all.Goals as goal

pub returns-then-has_faulted : goal.returns-then-has_faulted
returns-then-has_faulted c =
    fault_access c.args.accesses.now c.loop-access.access-index _ _ _ _ c.loop-access.invariant.same c.loop-access.invariant.passed c.loop-access-test.true c.attempt-last.ensures.access (sym c.if-has_faulted.true ∙ c.has_faulted.ensures)
