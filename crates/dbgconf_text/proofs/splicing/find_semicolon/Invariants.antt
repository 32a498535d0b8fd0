use Rattle.std.proofs.Common.{◌≡◌, drop}
use Rattle.expr_grammar.specs.Lexeme.{lexemes}
use Rattle.dbgconf_text.specs.Cuts.{semicolon}
use Rattle.dbgconf_text.proofs.splicing.find_semicolon.Given as goal

abbrev pub invariant-loop-token : goal.invariant-loop-token
invariant-loop-token l = semicolon (lexemes (drop l.token-index l.tokens)) ≡ semicolon (lexemes l.tokens)
