use Rattle.std.proofs.Common.{◌≡◌, ◌++◌, take}
use Rattle.expr_grammar.specs.Tree.{arg_trees}
use Rattle.set_warnings.specs.Sites.{part_at}
use Rattle.set_warnings.specs.Assigned.{args_warnings}
use Rattle.set_warnings.proofs.assigned.+assignments.Given as goal

abbrev pub invariant-add_args-loop-arg : goal.invariant-add_args-loop-arg
invariant-add_args-loop-arg l = l.found ≡ l.fn.found ++ args_warnings l.vars (part_at l.site) (arg_trees (take l.arg-index l.args))
