use Rattle.std.proofs.Common.{◌≡◌, take}
use Rattle.std.specs.Io.KnownBytes.{Appends}
use Rattle.std.specs.List.{flat_map}
use Rattle.fault_lines.specs.FaultText.{fault_text}
use Rattle.fault_lines.proofs.writing.write_each.Given as goal

abbrev pub invariant-loop-fault : goal.invariant-loop-fault
invariant-loop-fault g l = record {
  text : Appends (g.K.Sink.written l.fn.sink) (g.K.Sink.written l.sink) (flat_map (fault_text l.sets) (take l.fault-index l.faults));
  sink : g.K.Sink.faults l.sink ≡ g.K.Sink.faults l.fn.sink;
}
