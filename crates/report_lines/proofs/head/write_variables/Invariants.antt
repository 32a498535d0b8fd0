use Rattle.std.proofs.Common.{Ok, take}
use Rattle.std.specs.Io.KnownBytes.{Appends}
use Rattle.report_lines.specs.Frame.{EndsPutting}
use Rattle.report_lines.specs.Endings.{variable_lines}
use Rattle.report_lines.proofs.head.write_variables.Given as goal

abbrev pub invariant-loop-variable : goal.invariant-loop-variable
invariant-loop-variable g l = record {
  text : Appends (g.K.Sink.written l.fn.sink) (g.K.Sink.written l.sink) (variable_lines (take l.variable-index l.variables));
  ends : EndsPutting {T = Unit {0}} g.K.Sink.written g.K.Sink.faults (Ok tt) l.fn.sink l.sink;
}
