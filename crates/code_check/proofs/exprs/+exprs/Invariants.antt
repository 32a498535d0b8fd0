use Rattle.std.proofs.Common.{take}
use Rattle.expr_grammar.specs.Tree.{arg_trees}
use Rattle.code_check.specs.Notes.{Notes}
use Rattle.code_check.specs.ExprFaults.{ArgsFault}
use Rattle.code_check.specs.Views.{scope_view}
use Rattle.code_check.proofs.exprs.+exprs.Given as goal

abbrev pub invariant-note_args-loop-arg : goal.invariant-note_args-loop-arg
invariant-note_args-loop-arg l = Notes (ArgsFault (scope_view l.scope) (arg_trees (take l.arg-index l.args))) l.fn.found l.found
