use Rattle.std.proofs.Common.{◌∙◌, ap, sym, []}
use Rattle.expr_grammar.specs.Tree.{stmt_tree}
use Rattle.code_check.specs.BlockFaults.{names_after}
use Rattle.code_check.proofs.BlockLemmas.{names_more}
use Rattle.set_warnings.proofs.sequences.debug_variables.Goals as goal

pub loop-statement-preserved : goal.loop-statement-preserved
loop-statement-preserved c =
    let x = c.statement-item.result in
    c.in_ok-add_declared.ensures ∙ ap (λ ns. names_after ns (stmt_tree x)) c.loop-statement.invariant
    ∙ sym (rw (← c.statement-item.is) at (names_more [] c.args.code.now c.loop-statement.statement-index x c.loop-statement-test.true))
