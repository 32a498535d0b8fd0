use Rattle.std.proofs.lemmas.Result.{err_from_is_err_and}
use Rattle.expr_grammar.specs.declared.limit.Span.TheVariants as spans
use Rattle.expr_grammar.specs.Grammar.{ReadsCode}
use Rattle.expr_grammar.specs.Tree.{code_trees}
use Rattle.sequence_trees.proofs.TextLaws.{exact_code, uncut, refused}
use Rattle.sequence_trees.proofs.text.code_of.Goals as goal

pub returns-in_err-found : goal.returns-in_err-found
returns-in_err-found c =
    let p = err_from_is_err_and c.from_residual.result c.from_residual.ensures.1 in
    rw (p.1, p.2) (uncut ReadsCode spans.Statement exact_code c.args.text.now code_trees c.in_err-found.field-0.0 c.in_err-found.ensures.answer)

pub returns-in_err-parse_code : goal.returns-in_err-parse_code
returns-in_err-parse_code c =
    let p = err_from_is_err_and c.from_residual-in_err-parse_code.result c.from_residual-in_err-parse_code.ensures.1 in
    rw (p.1, p.2) (refused ReadsCode spans.Statement exact_code c.args.text.now code_trees c.in_ok-found.found c.in_ok-found.ensures.answer c.in_err-parse_code.field-0.0 c.in_err-parse_code.ensures.answer)
