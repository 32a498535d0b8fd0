use Rattle.std.proofs.Common.{◌≡◌}
use Rattle.trace_compare.proofs.ComingLemmas.{Ahead}
use Rattle.trace_compare.proofs.trace.Trace.next.Given as goal

abbrev pub invariant-loop : goal.invariant-loop
invariant-loop g l = record {
  ahead : Ahead l.fn.self l.self-inside.events l.self-inside.counter (g.S.Source.left l.fn.source) (g.S.Source.left l.source);
  quiet : g.S.Source.faults l.source ≡ g.S.Source.faults l.fn.source;
}
