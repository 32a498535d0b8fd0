use Rattle.std.proofs.Common.{take}
use Rattle.expr_grammar.specs.Tree.{arg_tree, arg_trees}
use Rattle.seq_check.proofs.CallLemmas.{grown}
use Rattle.run_coverage.specs.Reach.{arg_names, args_names}
use Rattle.run_coverage.proofs.CallLemmas.{args_names_more}
use Rattle.run_coverage.proofs.calls.+calls.Goals as goal

pub push_args-loop-arg-preserved : goal.push_args-loop-arg-preserved
push_args-loop-arg-preserved t c =
    let xs = c.args.args.now in
    let i = c.loop-arg.arg-index in
    let x = c.arg-item.result in
    grown c.args.names.now c.loop-arg.names c.push_arg.new.names (args_names (arg_trees (take i xs))) (arg_names (arg_tree x)) _ c.in_ok-push_arg.ensures c.loop-arg.invariant
    (rw (← c.arg-item.is) at (args_names_more xs i x c.loop-arg-test.true))
