-- Texts that begin alike, and tokens that are the same except for their places.
use Rattle.std.specs.Prelude.{◌≡◌, ℕ, List, [], ◌∷◌, take, ⊤}
use Rattle.expr_grammar.specs.Lexeme.{Lexeme}

-- the first n bytes of both are the same; or both have fewer, and are the same
abbrev pub SameFront : ℕ → List ℕ → List ℕ → Type 0
SameFront n bs cs = take n bs ≡ take n cs

-- a token of the same kind and the same bytes
pub record IsMovedToken (t u : Lexeme) : Type 0 where
  pub kind : u.kind ≡ t.kind
  pub text : u.text ≡ t.text

-- the same tokens, one for one, at whichever places
abbrev pub AreMoved : List Lexeme → List Lexeme → Type 0
AreMoved [] [] = ⊤
AreMoved [] (u ∷ us) = ⊥
AreMoved (t ∷ ts) [] = ⊥
AreMoved (t ∷ ts) (u ∷ us) = IsMovedToken t u × AreMoved ts us
