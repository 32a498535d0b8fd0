use Rattle.std.proofs.lemmas.Result.{err_from_is_err_and}
use Rattle.expr_grammar.specs.declared.limit.Span.TheVariants as spans
use Rattle.expr_grammar.specs.Grammar.{ReadsExpr}
use Rattle.expr_grammar.specs.Tree.{tree}
use Rattle.sequence_trees.proofs.TextLaws.{exact_condition, uncut, refused}
use Rattle.sequence_trees.proofs.text.condition_of.Goals as goal

pub returns-in_err-found : goal.returns-in_err-found
returns-in_err-found c =
    let p = err_from_is_err_and c.from_residual.result c.from_residual.ensures.1 in
    rw (p.1, p.2) (uncut ReadsExpr spans.Text exact_condition c.args.text.now tree c.in_err-found.field-0.0 c.in_err-found.ensures.answer)

pub returns-in_err-parse_expr : goal.returns-in_err-parse_expr
returns-in_err-parse_expr c =
    let p = err_from_is_err_and c.from_residual-in_err-parse_expr.result c.from_residual-in_err-parse_expr.ensures.1 in
    rw (p.1, p.2) (refused ReadsExpr spans.Text exact_condition c.args.text.now tree c.in_ok-found.found c.in_ok-found.ensures.answer c.in_err-parse_expr.field-0.0 c.in_err-parse_expr.ensures.answer)
