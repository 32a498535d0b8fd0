use Rattle.std.proofs.Common.{take}
use Rattle.sequence_trees.specs.Texts.{IsCodeOf}
use Rattle.sequence_trees.specs.Reading.{ReadsEntries}
use Rattle.sequence_trees.specs.SetView.{set_trees}
use Rattle.sequence_trees.proofs.set_reader.set_of.Given as goal

abbrev pub invariant-loop-entry : goal.invariant-loop-entry
invariant-loop-entry l = record {
  debugvars : IsCodeOf l.set.debugvars (set_trees l.read).debugvars;
  sequences : ReadsEntries (take l.entry-index l.set.entries) (set_trees l.read).sequences;
}
