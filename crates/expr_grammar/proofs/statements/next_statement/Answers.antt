use Rattle.expr_grammar.specs.Lexeme.{lexemes}
use Rattle.expr_grammar.proofs.ArgTurns.{one_statement}
use Rattle.expr_grammar.proofs.statements.next_statement.Goals as goal

pub returns-clause-reads : goal.returns-clause-reads
returns-clause-reads c = one_statement (lexemes c.args.tokens.now) _ _ c.in_ok-statement.ensures.reads
