use Rattle.set_faults.proofs.CallLemmas.{kinds_more}
use Rattle.set_faults.proofs.calls.add_kinds.Goals as goal

pub loop-index-preserved : goal.loop-index-preserved
loop-index-preserved c =
    kinds_more c.args.function c.args.args.now c.loop-index.index c.index-args-index.result c.loop-index-test.true c.args.found.now c.loop-index.found c.add_kind.new.found c.loop-index.invariant
    (rw (← c.index-args-index.is, ← c.kind_at.ensures) c.in_ok-add_kind.ensures)
