use Rattle.test_benches.specs.StaysOpen.{StaysOpen}
use Rattle.test_benches.proofs.shown.put_log.Given as goal

abbrev pub invariant-loop-index : goal.invariant-loop-index
invariant-loop-index g l = StaysOpen (g.B.Bench.reported l.fn.bench) (g.B.Bench.reported l.bench)
