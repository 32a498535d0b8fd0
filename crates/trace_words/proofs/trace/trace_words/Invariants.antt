use Rattle.std.proofs.Common.{◌≡◌}
use Rattle.trace_words.proofs.TraceLemmas.{Going}
use Rattle.trace_words.proofs.trace.trace_words.Given as goal

abbrev pub invariant-loop : goal.invariant-loop
invariant-loop g l = record {
  going : Going (g.S.Source.left l.fn.source) (g.S.Source.left l.source) (g.K.Sink.written l.fn.sink) (g.K.Sink.written l.sink) l.events l.teller;
  source_quiet : g.S.Source.faults l.source ≡ g.S.Source.faults l.fn.source;
  sink_quiet : g.K.Sink.faults l.sink ≡ g.K.Sink.faults l.fn.sink;
}
