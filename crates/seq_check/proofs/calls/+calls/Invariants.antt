use Rattle.std.proofs.Common.{◌≡◌, ◌++◌, take}
use Rattle.expr_grammar.specs.Tree.{arg_trees}
use Rattle.seq_check.specs.Calls.{args_calls}
use Rattle.seq_check.proofs.calls.+calls.Given as goal

abbrev pub invariant-push_args-loop-arg : goal.invariant-push_args-loop-arg
invariant-push_args-loop-arg l = l.calls ≡ l.fn.calls ++ args_calls l.names (arg_trees (take l.arg-index l.args))
