-- How the tokens of the sequence language are spelled.
use Rattle.std.specs.Prelude.{◌≡◌, ◌≢◌, ℕ, Bool, true, false, ◌&&◌, ◌||◌, ◌==◌, nat_le, List, [], ◌∷◌, ◌++◌, IsSome, slice_index, codes}
use Rattle.std.specs.List.{list_all}
use Rattle.std.specs.Char.{is_ascii_alphabetic, is_ascii_alphanumeric}
use Rattle.dap_base.specs.Number.{number_value}
use Rattle.expr_grammar.specs.declared.token.TokenKind.{TokenKind}
use Rattle.expr_grammar.specs.declared.token.TokenKind.TheVariants as kinds

-- an ASCII letter or `_`
abbrev pub is_letter : ℕ → Bool
is_letter b = is_ascii_alphabetic b || b == 95

-- an ASCII letter, a digit or `_`
abbrev pub is_word : ℕ → Bool
is_word b = is_ascii_alphanumeric b || b == 95

-- one of these bytes
abbrev pub is_among : List ℕ → ℕ → Bool
is_among [] b = false
is_among (c ∷ cs) b = b == c || is_among cs b

-- the marks of one byte
abbrev pub is_single : ℕ → Bool
is_single b = is_among (codes "(),;?:!~+-*/%<>&^|=") b

-- the marks of two bytes: <= >= == != and << >> && ||
abbrev pub is_pair : ℕ → ℕ → Bool
is_pair a b = (b == 61 && is_among (codes "<>=!") a) || (a == b && is_among (codes "<>&|") a)

-- the one keyword, which begins a declaration
abbrev pub keyword : List ℕ
keyword = codes "__var"

-- a mark of one byte or of two, or the keyword
pub data IsMarkText : List ℕ → Type 0 where
  single : {a : ℕ} → is_single a ≡ true → IsMarkText (a ∷ [])
  pair : {a b : ℕ} → is_pair a b ≡ true → IsMarkText (a ∷ b ∷ [])
  var : IsMarkText (codes "__var")

-- a letter or `_`, then letters, digits and `_`; not the keyword
pub record IsNameText (text : List ℕ) : Type 0 where
  pub first : is_letter (slice_index text 0) ≡ true
  pub words : list_all is_word text ≡ true
  pub other : text ≢ keyword

-- what stands between the quotes: no quote, backslash or line feed, unless a backslash takes the byte after it, which is no line feed
pub data IsQuoted : List ℕ → Type 0 where
  nothing : IsQuoted []
  plain : {b : ℕ} {bs : List ℕ} → b ≢ 34 → b ≢ 92 → b ≢ 10 → IsQuoted bs → IsQuoted (b ∷ bs)
  escaped : {b : ℕ} {bs : List ℕ} → b ≢ 10 → IsQuoted bs → IsQuoted (92 ∷ b ∷ bs)

-- a text between quotes
pub record IsStringText (text : List ℕ) : Type 0 where
  pub body : List ℕ
  pub parts : text ≡ 34 ∷ body ++ 34 ∷ []
  pub quoted : IsQuoted body

-- how a token of each kind is spelled
abbrev pub IsTokenText : TokenKind → List ℕ → Type 0
IsTokenText kinds.Number text = IsSome (number_value text)
IsTokenText kinds.Name text = IsNameText text
IsTokenText kinds.Text text = IsStringText text
IsTokenText kinds.Mark text = IsMarkText text
