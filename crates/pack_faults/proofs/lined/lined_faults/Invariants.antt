use Rattle.std.proofs.Common.{◌≡◌, map, take}
use Rattle.pack_faults.specs.Answers.{found_in}
use Rattle.pack_faults.specs.Lined.{lined_view}
use Rattle.set_lines.specs.Rests.{AreLines}
use Rattle.pack_faults.proofs.lined.lined_faults.Given as goal

abbrev pub invariant-loop-fault : goal.invariant-loop-fault
invariant-loop-fault l = record {
  done : map lined_view l.lined ≡ map (found_in l.set) (take l.fault-index l.faults);
  set : l.lines.set.now ≡ l.set;
  fine : AreLines l.lines;
}
