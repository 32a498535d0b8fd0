use Rattle.std.proofs.Common.{◌≡◌, ◌+◌, drop}
use Rattle.expr_grammar.specs.Lexeme.{lexemes}
use Rattle.dbgconf_text.specs.Splicing.{statement_len}
use Rattle.dbgconf_text.proofs.splicing.first_statement.Given as goal

abbrev pub invariant-loop-i : goal.invariant-loop-i
invariant-loop-i l = l.i + statement_len (lexemes (drop l.i l.tokens)) ≡ statement_len (lexemes l.tokens)
