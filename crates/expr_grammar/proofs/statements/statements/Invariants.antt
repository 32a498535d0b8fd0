use Rattle.std.proofs.Common.{◌≡◌}
use Rattle.expr_grammar.specs.Tree.{code_trees}
use Rattle.expr_grammar.specs.Lexeme.{lexemes}
use Rattle.expr_grammar.specs.Reading.{read, statements}
use Rattle.expr_grammar.specs.Found.{found_statements}
use Rattle.expr_grammar.proofs.ArgTurns.{with_code, left}
use Rattle.expr_grammar.proofs.statements.statements.Given as goal

abbrev pub invariant-loop-found : goal.invariant-loop-found
invariant-loop-found l = with_code (code_trees l.code) (found_statements l.found) ≡ statements read (lexemes l.tokens)

abbrev pub decreases-loop-found : goal.decreases-loop-found
decreases-loop-found l = left l.found
