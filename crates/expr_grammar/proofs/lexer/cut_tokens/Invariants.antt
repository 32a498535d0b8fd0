use Rattle.std.proofs.Common.{◌≡◌, ◌-◌, ◌≤◌, length, drop, IsUtf8}
use Rattle.expr_grammar.specs.Lexeme.{lexemes}
use Rattle.expr_grammar.specs.Lexing.{Divides, place_at}
use Rattle.expr_grammar.proofs.lexer.cut_tokens.Given as goal

abbrev pub invariant-loop-rest : goal.invariant-loop-rest
invariant-loop-rest l = record {
  utf8 : IsUtf8 l.rest;
  within : length l.rest ≤ length l.text;
  back : l.rest ≡ drop (length l.text - length l.rest) l.text;
  divides : Divides l.text 0 (lexemes l.items) (length l.text - length l.rest);
  place : l.at ≡ place_at l.text (length l.text - length l.rest);
}

abbrev pub decreases-loop-rest : goal.decreases-loop-rest
decreases-loop-rest l = length l.rest
