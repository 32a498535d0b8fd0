use Rattle.std.proofs.Common.{IfSome, Ok, take}
use Rattle.std.specs.Io.KnownBytes.{Appends}
use Rattle.report_lines.specs.Frame.{ShowsView}
use Rattle.report_lines.specs.Target.{watch_lines}
use Rattle.report_lines.proofs.target.write_watch.Given as goal

abbrev pub invariant-loop-item : goal.invariant-loop-item
invariant-loop-item g l = record {
  text : IfSome (g.S.ShowsTarget.known l.fn.shower).target (λ t. Appends (g.K.Sink.written l.fn.sink) (g.K.Sink.written l.sink) (watch_lines t (take l.item-index l.watch)));
  shows : ShowsView {T = Unit {0}} g.S.ShowsTarget.known g.K.Sink.written g.K.Sink.faults (Ok tt) l.fn.shower l.shower l.fn.sink l.sink;
}
