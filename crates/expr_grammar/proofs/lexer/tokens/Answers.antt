use Rattle.expr_grammar.proofs.OneDivision.{gives_tokens, gives_bad}
use Rattle.expr_grammar.proofs.lexer.tokens.Goals as goal

pub returns-clause-only : goal.returns-clause-only
returns-clause-only c = λ ts d. gives_tokens c.args.text.now c.cut_tokens.result c.cut_tokens.ensures ts d

pub returns-clause-only_fault : goal.returns-clause-only_fault
returns-clause-only_fault c = λ bad b. gives_bad c.args.text.now c.cut_tokens.result c.cut_tokens.ensures bad b
