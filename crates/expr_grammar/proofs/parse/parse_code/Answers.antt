use Rattle.expr_grammar.specs.declared.limit.Span.TheVariants.{Statement}
use Rattle.expr_grammar.specs.Tree.{code_trees}
use Rattle.expr_grammar.specs.Grammar.{ReadsCode}
use Rattle.expr_grammar.specs.Reading.{read, statements}
use Rattle.expr_grammar.proofs.CompleteCode.{code_complete}
use Rattle.expr_grammar.proofs.Sound.{statements_outcome}
use Rattle.expr_grammar.proofs.Whole.{only_value, only_unexpected, only_too_deep}
use Rattle.expr_grammar.proofs.parse.parse_code.Goals as goal

pub returns-clause-only : goal.returns-clause-only
returns-clause-only c = λ e r. only_value ReadsCode (statements read) code_complete statements_outcome code_trees Statement c.args.tokens.now c.code_answer.result c.code_answer.ensures e r

pub returns-clause-only_unexpected : goal.returns-clause-only_unexpected
returns-clause-only_unexpected c = λ i u. only_unexpected ReadsCode (statements read) code_complete statements_outcome code_trees Statement c.args.tokens.now c.code_answer.result c.code_answer.ensures i u

pub returns-clause-only_too_deep : goal.returns-clause-only_too_deep
returns-clause-only_too_deep c = λ i d. only_too_deep ReadsCode (statements read) code_complete statements_outcome code_trees Statement c.args.tokens.now c.code_answer.result c.code_answer.ensures i d
