use Rattle.std.proofs.Common.{take}
use Rattle.expr_grammar.specs.Tree.{arg_trees}
use Rattle.code_check.specs.Notes.{Notes}
use Rattle.code_check.specs.ExprFaults.{KindsFault}
use Rattle.code_check.proofs.calls.note_kinds.Given as goal

abbrev pub invariant-loop-index : goal.invariant-loop-index
invariant-loop-index l = Notes (KindsFault l.function 0 (arg_trees (take l.index l.args))) l.fn.found l.found
