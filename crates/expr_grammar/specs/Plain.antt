-- The tokens that an expression can have.
use Rattle.std.specs.Prelude.{◌≡◌, false, List, [], ◌∷◌, codes, ⊤}
use Rattle.expr_grammar.specs.Lexeme.{Lexeme}
use Rattle.expr_grammar.specs.Reading.{is_mark}

-- neither `;` nor `__var`
pub record IsPlain (k : Lexeme) : Type 0 where
  pub semicolon : is_mark (codes ";") k ≡ false
  pub keyword : is_mark (codes "__var") k ≡ false

-- each of the tokens is neither
abbrev pub ArePlain : List Lexeme → Type 0
ArePlain [] = ⊤
ArePlain (k ∷ ts) = IsPlain k × ArePlain ts
