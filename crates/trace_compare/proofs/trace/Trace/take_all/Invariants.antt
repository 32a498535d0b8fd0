use Rattle.std.proofs.Common.{◌≡◌}
use Rattle.trace_compare.proofs.ComingLemmas.{Draining}
use Rattle.trace_compare.proofs.trace.Trace.take_all.Given as goal

abbrev pub invariant-loop : goal.invariant-loop
invariant-loop g l = record {
  ahead : Draining l.fn.self l.self (g.S.Source.left l.fn.source) (g.S.Source.left l.source);
  quiet : g.S.Source.faults l.source ≡ g.S.Source.faults l.fn.source;
}
