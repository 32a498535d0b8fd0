use Rattle.std.proofs.Common.{◌≡◌, take}
use Rattle.std.specs.Io.KnownBytes.{Appends}
use Rattle.std.specs.List.{flat_map}
use Rattle.fault_lines.specs.WarningText.{warning_text}
use Rattle.fault_lines.proofs.warned.write_warnings.Given as goal

abbrev pub invariant-loop-warning : goal.invariant-loop-warning
invariant-loop-warning g l = record {
  text : Appends (g.K.Sink.written l.fn.sink) (g.K.Sink.written l.sink) (flat_map (warning_text l.sets) (take l.warning-index l.warnings));
  sink : g.K.Sink.faults l.sink ≡ g.K.Sink.faults l.fn.sink;
}
