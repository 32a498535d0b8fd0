-- Tokens as plain values: without where their text lies in memory.
use Rattle.std.specs.Prelude.{ℕ, List, map}
use Rattle.dap_base.specs.declared.text.Place.{Place}
use Rattle.expr_grammar.specs.declared.token.TokenKind.{TokenKind}
use Rattle.expr_grammar.specs.declared.token.Token.{Token}

-- a token: its kind, its bytes, their offset in the text, and its line and column
pub record Lexeme : Type 0 where
  pub kind : TokenKind
  pub text : List ℕ
  pub start : ℕ
  pub at : Place

-- a token of the program
abbrev pub lexeme : Token → Lexeme
lexeme t = record { kind = t.kind; text = t.text.now; start = t.start; at = t.at }

-- tokens of the program
abbrev pub lexemes : List Token → List Lexeme
lexemes = map lexeme
