use Rattle.expr_grammar.specs.Tree.{stmt_tree, code_trees}
use Rattle.std.proofs.Common.{take}
use Rattle.seq_check.proofs.CallLemmas.{grown}
use Rattle.set_warnings.specs.Sites.{part_at}
use Rattle.set_warnings.specs.Assigned.{statement_warnings, block_warnings}
use Rattle.set_warnings.proofs.WalkLemmas.{block_warnings_more}
use Rattle.set_warnings.proofs.assigned.add_block.Goals as goal

pub loop-statement-preserved : goal.loop-statement-preserved
loop-statement-preserved c =
    let vars = c.args.vars.now in
    let at = part_at c.args.site in
    let xs = c.args.code.now in
    let i = c.loop-statement.statement-index in
    let x = c.statement-item.result in
    grown c.args.found.now c.loop-statement.found c.add_statement.new.found (block_warnings vars at (code_trees (take i xs))) (statement_warnings vars at (stmt_tree x)) _ c.in_ok-add_statement.ensures c.loop-statement.invariant
    (rw (← c.statement-item.is) at (block_warnings_more vars at xs i x c.loop-statement-test.true))
