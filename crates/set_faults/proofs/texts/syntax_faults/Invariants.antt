use Rattle.std.proofs.Common.{◌++◌, [], take}
use Rattle.sequence_trees.specs.Order.{debugvars_texts, entries_texts}
use Rattle.set_faults.specs.Syntax.{AddsFaultsOf}
use Rattle.set_faults.proofs.texts.syntax_faults.Given as goal

abbrev pub invariant-loop-entry : goal.invariant-loop-entry
invariant-loop-entry l = AddsFaultsOf (debugvars_texts l.set.debugvars ++ entries_texts (take l.entry-index l.set.entries)) [] l.found
