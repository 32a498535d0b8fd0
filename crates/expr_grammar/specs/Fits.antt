-- Statements in which no token is too deep, token by token.
use Rattle.std.specs.Prelude.{List, [], ◌∷◌, ◌++◌, codes, if◌then◌else◌, ⊤}
use Rattle.expr_grammar.specs.Lexeme.{Lexeme}
use Rattle.expr_grammar.specs.Reading.{is_mark}
use Rattle.expr_grammar.specs.Refusal.{IsOneTooMany}

-- The tokens of the statement so far, after one token more: none after a `;`.
abbrev pub counted_after : List Lexeme → Lexeme → List Lexeme
counted_after own k = if is_mark (codes ";") k then [] else own ++ k ∷ []

-- None of the tokens is too deep, where the first list has those before them in their statement.
abbrev pub Fits : List Lexeme → List Lexeme → Type 0
Fits own [] = ⊤
Fits own (k ∷ ts) = (IsOneTooMany own k → ⊥) × Fits (counted_after own k) ts
