use Rattle.std.proofs.Common.{◌≡◌}
use Rattle.trace_compare.proofs.PairLemmas.{Alike}
use Rattle.trace_compare.proofs.compare.put_difference.Given as goal

abbrev pub invariant-loop : goal.invariant-loop
invariant-loop g l = record {
  ahead : Alike l.fn.traces l.traces l.last (g.S.Source.left l.fn.source) (g.S.Source.left l.source) (g.A.Source.left l.fn.against) (g.A.Source.left l.against);
  unwritten : g.K.Sink.written l.sink ≡ g.K.Sink.written l.fn.sink;
  sink_quiet : g.K.Sink.faults l.sink ≡ g.K.Sink.faults l.fn.sink;
  source_quiet : g.S.Source.faults l.source ≡ g.S.Source.faults l.fn.source;
  against_quiet : g.A.Source.faults l.against ≡ g.A.Source.faults l.fn.against;
}
