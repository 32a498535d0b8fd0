use Rattle.std.proofs.Common.{◌≡◌, map, take}
use Rattle.set_lines.specs.Rests.{AreLines}
use Rattle.pack_warnings.specs.Answers.{warning_found_in}
use Rattle.pack_warnings.specs.Lined.{lined_warning_view}
use Rattle.pack_warnings.proofs.lined.lined_warnings.Given as goal

abbrev pub invariant-loop-warning : goal.invariant-loop-warning
invariant-loop-warning l = record {
  done : map lined_warning_view l.lined ≡ map (warning_found_in l.set) (take l.warning-index l.warnings);
  set : l.lines.set.now ≡ l.set;
  fine : AreLines l.lines;
}
