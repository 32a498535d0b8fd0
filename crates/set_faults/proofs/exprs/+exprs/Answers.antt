use Rattle.std.proofs.lemmas.Result.{on_ok_weaker}
use Rattle.code_check.specs.Views.{scope_view}
use Rattle.code_check.proofs.TreeLemmas.{tree-Number, tree-Binary, tree-Cond, tree-Assign, tree-Call, arg_tree-Text}
use Rattle.set_faults.proofs.AddLemmas.{adds_nowhere, adds_two}
use Rattle.set_faults.proofs.CallLemmas.{args_more}
use Rattle.set_faults.proofs.exprs.+exprs.Goals as goal

pub add_expr-returns-in-Number : goal.add_expr-returns-in-Number
add_expr-returns-in-Number t c = rw (c.in-Number.is, tree-Number c.in-Number.field-0) (adds_nowhere c.args.found.now)

pub add_expr-returns-in_ok-add_expr-in-Binary : goal.add_expr-returns-in_ok-add_expr-in-Binary
add_expr-returns-in_ok-add_expr-in-Binary t c =
    let a = c.in-Binary in
    rw (a.is, tree-Binary a.field-0 a.left a.right, ← c.deref-in-Binary.ensures, ← c.deref-in-Binary-2.ensures)
    (on_ok_weaker c.add_expr-in-Binary-2.result (adds_two c.in_ok-add_expr-in-Binary.ensures) c.add_expr-in-Binary-2.ensures)

pub add_expr-returns-in_ok-add_expr-in-Cond-2 : goal.add_expr-returns-in_ok-add_expr-in-Cond-2
add_expr-returns-in_ok-add_expr-in-Cond-2 t c =
    let a = c.in-Cond in
    rw (a.is, tree-Cond a.test a.first a.second, ← c.deref-in-Cond.ensures, ← c.deref-in-Cond-2.ensures, ← c.deref-in-Cond-3.ensures)
    (on_ok_weaker c.add_expr-in-Cond-3.result (λ last. adds_two c.in_ok-add_expr-in-Cond.ensures (adds_two c.in_ok-add_expr-in-Cond-2.ensures last)) c.add_expr-in-Cond-3.ensures)

pub add_expr-returns-in_ok-add_name-in-Assign : goal.add_expr-returns-in_ok-add_name-in-Assign
add_expr-returns-in_ok-add_name-in-Assign t c =
    let a = c.in-Assign in
    rw (a.is, tree-Assign a.name a.value, ← c.deref-in-Assign.ensures, ← c.deref-in-Assign-2.ensures)
    (on_ok_weaker c.add_expr-in-Assign.result (adds_two c.in_ok-add_name-in-Assign.ensures) c.add_expr-in-Assign.ensures)

pub add_expr-returns-in_ok-add_call-in-Call : goal.add_expr-returns-in_ok-add_call-in-Call
add_expr-returns-in_ok-add_call-in-Call t c =
    let a = c.in-Call in
    rw (a.is, tree-Call a.called a.args, ← c.deref-in-Call.ensures)
    (on_ok_weaker c.add_args.result (adds_two {mid = c.add_call.new.found} (rw (← c.as_slice.ensures) c.in_ok-add_call-in-Call.ensures)) (rw (← c.as_slice-in-Call.ensures) c.add_args.ensures))

pub add_arg-returns-in-Text : goal.add_arg-returns-in-Text
add_arg-returns-in-Text t c = rw (c.in-Text.is, arg_tree-Text c.in-Text.field-0) (adds_nowhere c.args.found.now)

pub add_args-loop-arg-preserved : goal.add_args-loop-arg-preserved
add_args-loop-arg-preserved t c =
    args_more (scope_view c.args.scope) c.args.args.now c.loop-arg.arg-index c.arg-item.result c.loop-arg-test.true c.args.found.now c.loop-arg.found c.add_arg.new.found c.loop-arg.invariant
    (rw (← c.arg-item.is) c.in_ok-add_arg.ensures)
