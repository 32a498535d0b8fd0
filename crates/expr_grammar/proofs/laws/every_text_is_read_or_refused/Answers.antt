use Rattle.expr_grammar.proofs.SomeTokens.{cut}
use Rattle.expr_grammar.proofs.SomeTree as trees
use Rattle.expr_grammar.proofs.laws.every_text_is_read_or_refused.Goals as goal

pub returns-clause-tokens : goal.returns-clause-tokens
returns-clause-tokens c = cut

pub returns-clause-expression : goal.returns-clause-expression
returns-clause-expression c = trees.expression

pub returns-clause-code : goal.returns-clause-code
returns-clause-code c = trees.code
