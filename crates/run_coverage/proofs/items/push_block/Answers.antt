use Rattle.std.proofs.Common.{take}
use Rattle.expr_grammar.specs.Tree.{stmt_tree, code_trees}
use Rattle.seq_check.proofs.CallLemmas.{grown}
use Rattle.run_coverage.specs.Items.{statement_items, block_items}
use Rattle.run_coverage.proofs.ItemLemmas.{block_items_more}
use Rattle.run_coverage.proofs.items.push_block.Goals as goal

pub loop-statement-preserved : goal.loop-statement-preserved
loop-statement-preserved c =
    let name = c.args.sequence.now in
    let path = c.args.path.now in
    let xs = c.args.code.now in
    let i = c.loop-statement.statement-index in
    let x = c.statement-item.result in
    grown c.args.items.now c.loop-statement.items c.push_statement.new.items (block_items name path (code_trees (take i xs))) (statement_items name path (stmt_tree x)) _
    c.in_ok-push_statement.ensures c.loop-statement.invariant (rw (← c.statement-item.is) at (block_items_more name path xs i x c.loop-statement-test.true))
