use Rattle.std.proofs.Common.{◌≡◌}
use Rattle.std.specs.Io.KnownBytes.{Appends}
use Rattle.trace_compare.specs.Texts.{place_count_lines}
use Rattle.trace_compare.proofs.summary.put_counts.Given as goal

abbrev pub invariant-loop-place : goal.invariant-loop-place
invariant-loop-place g l = record {
  text : Appends (g.K.Sink.written l.fn.sink) (g.K.Sink.written l.sink) (place_count_lines l.place l.first l.second);
  quiet : g.K.Sink.faults l.sink ≡ g.K.Sink.faults l.fn.sink;
}
