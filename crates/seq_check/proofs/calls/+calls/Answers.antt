use Rattle.expr_grammar.specs.Tree.{arg_tree, arg_trees}
use Rattle.std.proofs.Common.{take}
use Rattle.seq_check.specs.Calls.{arg_calls, args_calls}
use Rattle.seq_check.proofs.CallLemmas.{grown, args_calls_more}
use Rattle.seq_check.proofs.calls.+calls.Goals as goal

pub push_args-loop-arg-preserved : goal.push_args-loop-arg-preserved
push_args-loop-arg-preserved t c =
    let names = c.args.names.now in
    let xs = c.args.args.now in
    let i = c.loop-arg.arg-index in
    let x = c.arg-item.result in
    grown c.args.calls.now c.loop-arg.calls c.push_arg.new.calls (args_calls names (arg_trees (take i xs))) (arg_calls names (arg_tree x)) _ c.in_ok-push_arg.ensures c.loop-arg.invariant
    (rw (← c.arg-item.is) at (args_calls_more names xs i x c.loop-arg-test.true))
