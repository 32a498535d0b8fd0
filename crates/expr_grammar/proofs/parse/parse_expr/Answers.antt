use Rattle.expr_grammar.specs.declared.limit.Span.TheVariants.{Text}
use Rattle.expr_grammar.specs.Tree.{tree}
use Rattle.expr_grammar.specs.Grammar.{ReadsExpr}
use Rattle.expr_grammar.specs.Reading.{read, whole}
use Rattle.expr_grammar.proofs.CompleteArgs.{reads_whole}
use Rattle.expr_grammar.proofs.Sound.{whole_outcome}
use Rattle.expr_grammar.proofs.Whole.{only_value, only_unexpected, only_too_deep}
use Rattle.expr_grammar.proofs.parse.parse_expr.Goals as goal

pub returns-clause-only : goal.returns-clause-only
returns-clause-only c = λ e r. only_value ReadsExpr (whole read) reads_whole whole_outcome tree Text c.args.tokens.now c.expr_answer.result c.expr_answer.ensures e r

pub returns-clause-only_unexpected : goal.returns-clause-only_unexpected
returns-clause-only_unexpected c = λ i u. only_unexpected ReadsExpr (whole read) reads_whole whole_outcome tree Text c.args.tokens.now c.expr_answer.result c.expr_answer.ensures i u

pub returns-clause-only_too_deep : goal.returns-clause-only_too_deep
returns-clause-only_too_deep c = λ i d. only_too_deep ReadsExpr (whole read) reads_whole whole_outcome tree Text c.args.tokens.now c.expr_answer.result c.expr_answer.ensures i d
