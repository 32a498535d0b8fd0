use Rattle.std.proofs.Common.{take}
use Rattle.expr_grammar.specs.Tree.{arg_trees}
use Rattle.code_check.specs.ExprFaults.{ArgsFault}
use Rattle.code_check.specs.Views.{scope_view}
use Rattle.set_faults.specs.Listed.{Adds}
use Rattle.set_faults.proofs.exprs.+exprs.Given as goal

abbrev pub invariant-add_args-loop-arg : goal.invariant-add_args-loop-arg
invariant-add_args-loop-arg l = Adds (ArgsFault (scope_view l.scope) (arg_trees (take l.arg-index l.args))) l.fn.found l.found
