-- What a `ReadSet` stands for.
use Rattle.std.specs.Prelude.{List, map, String, string_bytes}
use Rattle.std.specs.declared.alloc.Global.{Global}
use Rattle.expr_grammar.specs.Tree.{code_trees}
use Rattle.sequence_trees.specs.declared.set.ReadSet.{ReadSet}
use Rattle.sequence_trees.specs.declared.steps.CheckedStep.{CheckedStep}
use Rattle.sequence_trees.specs.Trees.{steps_tree, SequenceTrees, SetTrees}

-- the sequence of an entry of the table
abbrev pub entry_view : String Global × List CheckedStep → SequenceTrees
entry_view entry = record { name = string_bytes entry.0; steps = steps_tree entry.1 }

-- the trees of a set
abbrev pub set_trees : ReadSet → SetTrees
set_trees set = record { debugvars = code_trees set.debugvars; sequences = map entry_view set.sequences.entries }
