-- Tokens that differ only in their place and in how a number is spelled.
use Rattle.std.specs.Prelude.{◌≡◌, List, [], ◌∷◌, ⊤}
use Rattle.dap_base.specs.Number.{number_value}
use Rattle.expr_grammar.specs.declared.token.TokenKind.TheVariants as kinds
use Rattle.expr_grammar.specs.Lexeme.{Lexeme}

-- tokens of one kind and one text, or numbers of one value
pub data AlikeTokens : Lexeme → Lexeme → Type 0 where
  same_text : {a b : Lexeme} → a.kind ≡ b.kind → a.text ≡ b.text → AlikeTokens a b
  same_number : {a b : Lexeme} → a.kind ≡ kinds.Number → b.kind ≡ kinds.Number → number_value a.text ≡ number_value b.text → AlikeTokens a b

-- the same, one for one
abbrev pub AllAlike : List Lexeme → List Lexeme → Type 0
AllAlike [] [] = ⊤
AllAlike [] (b ∷ bs) = ⊥
AllAlike (a ∷ more) [] = ⊥
AllAlike (a ∷ more) (b ∷ bs) = AlikeTokens a b × AllAlike more bs
