use Rattle.expr_grammar.specs.Tree.{arg_tree, arg_trees}
use Rattle.std.proofs.Common.{take}
use Rattle.seq_check.proofs.CallLemmas.{grown}
use Rattle.set_warnings.specs.Sites.{part_at}
use Rattle.set_warnings.specs.Assigned.{arg_warnings, args_warnings}
use Rattle.set_warnings.proofs.WalkLemmas.{args_warnings_more}
use Rattle.set_warnings.proofs.assigned.+assignments.Goals as goal

pub add_args-loop-arg-preserved : goal.add_args-loop-arg-preserved
add_args-loop-arg-preserved t c =
    let vars = c.args.vars.now in
    let at = part_at c.args.site in
    let xs = c.args.args.now in
    let i = c.loop-arg.arg-index in
    let x = c.arg-item.result in
    grown c.args.found.now c.loop-arg.found c.add_arg.new.found (args_warnings vars at (arg_trees (take i xs))) (arg_warnings vars at (arg_tree x)) _ c.in_ok-add_arg.ensures c.loop-arg.invariant
    (rw (← c.arg-item.is) at (args_warnings_more vars at xs i x c.loop-arg-test.true))
