use Rattle.std.proofs.Common.{◌≤◌, IfSome, Ok}
use Rattle.probe_core.specs.Log.{IsCountedLog}
use Rattle.report_lines.specs.Frame.{EndsShowing, KeepsBench}
use Rattle.report_lines.proofs.TraceLemmas.{HaveCome}
use Rattle.report_lines.proofs.trace.write_entries.Given as goal

abbrev pub invariant-loop-index : goal.invariant-loop-index
invariant-loop-index g l = record {
  come : IfSome (g.B.Bench.state l.fn.bench) (λ m. IsCountedLog m.log → HaveCome m.log l.index l.kept (g.K.Sink.written l.fn.sink) (g.K.Sink.written l.sink));
  few : l.kept ≤ l.index;
  keeps : KeepsBench g.B.Bench.reported g.B.Bench.state g.B.Bench.identity l.fn.bench l.bench;
  ends : EndsShowing {T = Unit {0}} g.K.Sink.written g.K.Sink.faults (Ok tt) (g.B.Bench.reported l.fn.bench) (g.B.Bench.reported l.bench) l.fn.sink l.sink;
}
