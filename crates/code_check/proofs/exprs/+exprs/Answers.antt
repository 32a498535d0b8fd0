use Rattle.code_check.specs.Views.{scope_view}
use Rattle.code_check.proofs.NoteLemmas.{notes_nowhere, notes_two, notes_joined}
use Rattle.code_check.proofs.TreeLemmas.{tree-Number, tree-Binary, tree-Cond, tree-Assign, tree-Call, arg_tree-Text}
use Rattle.code_check.proofs.ArgLemmas.{args_more}
use Rattle.code_check.proofs.exprs.+exprs.Goals as goal

pub note_expr-returns-in-Number : goal.note_expr-returns-in-Number
note_expr-returns-in-Number t c = rw (c.in-Number.is, tree-Number c.in-Number.field-0) (notes_nowhere c.args.found.now)

pub note_expr-returns-in-Binary : goal.note_expr-returns-in-Binary
note_expr-returns-in-Binary t c =
    let a = c.in-Binary in
    rw (a.is, tree-Binary a.field-0 a.left a.right, ← c.deref-in-Binary.ensures, ← c.deref-in-Binary-2.ensures) (notes_two c.note_expr-in-Binary.ensures c.note_expr-in-Binary-2.ensures)

pub note_expr-returns-in-Cond : goal.note_expr-returns-in-Cond
note_expr-returns-in-Cond t c =
    let a = c.in-Cond in
    rw (a.is, tree-Cond a.test a.first a.second, ← c.deref-in-Cond.ensures, ← c.deref-in-Cond-2.ensures, ← c.deref-in-Cond-3.ensures)
    (notes_two c.note_expr-in-Cond.ensures (notes_two c.note_expr-in-Cond-2.ensures c.note_expr-in-Cond-3.ensures))

pub note_expr-returns-in-Assign : goal.note_expr-returns-in-Assign
note_expr-returns-in-Assign t c =
    let a = c.in-Assign in
    rw (a.is, tree-Assign a.name a.value, ← c.deref-in-Assign.ensures, ← c.deref-in-Assign-2.ensures) (notes_two c.note_name-in-Assign.ensures c.note_expr-in-Assign.ensures)

pub note_expr-returns-in-Call : goal.note_expr-returns-in-Call
note_expr-returns-in-Call t c =
    let a = c.in-Call in
    rw (a.is, tree-Call a.called a.args, ← c.deref-in-Call.ensures) (notes_two {mid = c.note_call.new.found} (rw (← c.as_slice.ensures) c.note_call.ensures) (rw (← c.as_slice-in-Call.ensures) c.note_args.ensures))

pub note_arg-returns-in-Text : goal.note_arg-returns-in-Text
note_arg-returns-in-Text t c = rw (c.in-Text.is, arg_tree-Text c.in-Text.field-0) (notes_nowhere c.args.found.now)

pub note_args-loop-arg-preserved : goal.note_args-loop-arg-preserved
note_args-loop-arg-preserved t c =
    notes_joined (args_more (scope_view c.args.scope) c.args.args.now c.loop-arg.arg-index c.arg-item.result c.loop-arg-test.true) c.loop-arg.invariant (rw (← c.arg-item.is) c.note_arg.ensures)
