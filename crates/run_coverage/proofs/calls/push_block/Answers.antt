use Rattle.std.proofs.Common.{take}
use Rattle.expr_grammar.specs.Tree.{stmt_tree, code_trees}
use Rattle.seq_check.proofs.CallLemmas.{grown}
use Rattle.run_coverage.specs.Reach.{statement_names, block_names}
use Rattle.run_coverage.proofs.CallLemmas.{block_names_more}
use Rattle.run_coverage.proofs.calls.push_block.Goals as goal

pub loop-statement-preserved : goal.loop-statement-preserved
loop-statement-preserved c =
    let xs = c.args.code.now in
    let i = c.loop-statement.statement-index in
    let x = c.statement-item.result in
    grown c.args.names.now c.loop-statement.names c.push_statement.new.names (block_names (code_trees (take i xs))) (statement_names (stmt_tree x)) _ c.in_ok-push_statement.ensures c.loop-statement.invariant
    (rw (← c.statement-item.is) at (block_names_more xs i x c.loop-statement-test.true))
