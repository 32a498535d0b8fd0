use Rattle.std.proofs.Common.{◌≡◌, ◌++◌, take}
use Rattle.expr_grammar.specs.Tree.{arg_trees}
use Rattle.run_coverage.specs.Reach.{args_names}
use Rattle.run_coverage.proofs.calls.+calls.Given as goal

abbrev pub invariant-push_args-loop-arg : goal.invariant-push_args-loop-arg
invariant-push_args-loop-arg l = l.names ≡ l.fn.names ++ args_names (arg_trees (take l.arg-index l.args))
