use Rattle.std.proofs.Common.{take}
use Rattle.expr_grammar.specs.Tree.{arg_trees}
use Rattle.code_check.specs.ExprFaults.{KindsFault}
use Rattle.set_faults.specs.Listed.{Adds}
use Rattle.set_faults.proofs.calls.add_kinds.Given as goal

abbrev pub invariant-loop-index : goal.invariant-loop-index
invariant-loop-index l = Adds (KindsFault l.function 0 (arg_trees (take l.index l.args))) l.fn.found l.found
