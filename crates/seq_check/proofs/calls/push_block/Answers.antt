use Rattle.expr_grammar.specs.Tree.{stmt_tree, code_trees}
use Rattle.std.proofs.Common.{take}
use Rattle.seq_check.specs.Calls.{statement_calls, block_calls}
use Rattle.seq_check.proofs.CallLemmas.{grown, block_calls_more}
use Rattle.seq_check.proofs.calls.push_block.Goals as goal

pub loop-statement-preserved : goal.loop-statement-preserved
loop-statement-preserved c =
    let names = c.args.names.now in
    let xs = c.args.code.now in
    let i = c.loop-statement.statement-index in
    let x = c.statement-item.result in
    grown c.args.calls.now c.loop-statement.calls c.push_statement.new.calls (block_calls names (code_trees (take i xs))) (statement_calls names (stmt_tree x)) _ c.in_ok-push_statement.ensures c.loop-statement.invariant
    (rw (← c.statement-item.is) at (block_calls_more names xs i x c.loop-statement-test.true))
