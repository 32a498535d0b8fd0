use Rattle.std.proofs.Common.{◌≡◌, take}
use Rattle.std.specs.Io.KnownBytes.{Appends}
use Rattle.std.specs.List.{flat_map}
use Rattle.check_lines.specs.CheckLines.{sequence_line}
use Rattle.check_lines.proofs.writing.write_sequences.Given as goal

abbrev pub invariant-loop-entry : goal.invariant-loop-entry
invariant-loop-entry g l = record {
  text : Appends (g.K.Sink.written l.fn.sink) (g.K.Sink.written l.sink) (flat_map sequence_line (take l.entry-index l.entries));
  sink : g.K.Sink.faults l.sink ≡ g.K.Sink.faults l.fn.sink;
}
