use Rattle.std.proofs.Common.{IfSome, Ok}
use Rattle.std.specs.Io.KnownBytes.{Appends}
use Rattle.report_lines.specs.Frame.{ShowsView}
use Rattle.report_lines.specs.Target.{lines_below, listed_port_line}
use Rattle.report_lines.proofs.target.write_ports.Given as goal

abbrev pub invariant-loop-number : goal.invariant-loop-number
invariant-loop-number g l = record {
  text : IfSome (g.S.ShowsTarget.known l.fn.shower).target (λ t. Appends (g.K.Sink.written l.fn.sink) (g.K.Sink.written l.sink) (lines_below (listed_port_line t l.aps) l.number));
  shows : ShowsView {T = Unit {0}} g.S.ShowsTarget.known g.K.Sink.written g.K.Sink.faults (Ok tt) l.fn.shower l.shower l.fn.sink l.sink;
}
