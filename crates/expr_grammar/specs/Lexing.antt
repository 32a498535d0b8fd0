-- How a text is cut into tokens, with blanks and comments between them.
use Rattle.std.specs.Prelude.{⊤}
use Rattle.std.specs.Prelude.{◌≡◌, ℕ, ◌+◌, ◌<◌, ◌≤◌, Bool, true, false, not, ◌&&◌, ◌||◌, ◌==◌, List, [], ◌∷◌, length, take, drop, slice_index, count_by, Result, Ok, Err}
use Rattle.std.specs.List.{suffix_len}
use Rattle.dap_base.specs.declared.text.Place.{Place}
use Rattle.expr_grammar.specs.declared.token.TokenKind.{TokenKind}
use Rattle.expr_grammar.specs.declared.token.TokenKind.TheVariants as kinds
use Rattle.expr_grammar.specs.declared.token_list.TokenError.{TokenError}
use Rattle.expr_grammar.specs.declared.token_list.TokenError.TheVariants.{BadToken, OutOfMemory}
use Rattle.expr_grammar.specs.Lexeme.{Lexeme}
use Rattle.expr_grammar.specs.Spelling.{is_word, IsTokenText}

-- space, tab, carriage return and line feed
abbrev pub is_blank : ℕ → Bool
is_blank b = b == 32 || b == 9 || b == 13 || b == 10

-- any byte but a line feed
abbrev pub is_in_line : ℕ → Bool
is_in_line b = not (b == 10)

-- The place of the byte at an offset: lines count line feeds from 1, columns count bytes from 1.
abbrev pub place_after : List ℕ → Place
place_after before = record { line = 1 + count_by (λ b. b == 10) before; column = 1 + suffix_len is_in_line before }

-- the place of the byte at this offset of a text
abbrev pub place_at : List ℕ → ℕ → Place
place_at text n = place_after (take n text)

-- `//`
abbrev pub begins_line_comment : List ℕ → Bool
begins_line_comment bs = slice_index bs 0 == 47 && slice_index bs 1 == 47

-- `/*`
abbrev pub begins_block_comment : List ℕ → Bool
begins_block_comment bs = slice_index bs 0 == 47 && slice_index bs 1 == 42

-- `*/`
abbrev pub closes : List ℕ → ℕ → Bool
closes bs k = slice_index bs k == 42 && slice_index bs (k + 1) == 47

-- the first n bytes are a comment from `//` to the line feed or the end
pub record IsLineComment (n : ℕ) (bs : List ℕ) : Type 0 where
  pub opens : begins_line_comment bs ≡ true
  pub within : n ≤ length bs
  pub inside : (k : ℕ) → k < n → is_in_line (slice_index bs k) ≡ true
  pub ends : n < length bs → is_in_line (slice_index bs n) ≡ false

-- the first n bytes are a comment from `/*` to the next `*/`
pub record IsBlockComment (n : ℕ) (bs : List ℕ) : Type 0 where
  pub close : ℕ
  pub opens : begins_block_comment bs ≡ true
  pub after : 2 ≤ close
  pub inside : (k : ℕ) → 2 ≤ k → k < close → closes bs k ≡ false
  pub ends : closes bs close ≡ true
  pub size : n ≡ close + 2

-- the first n bytes are one blank or one comment
pub data IsGapFront : ℕ → List ℕ → Type 0 where
  blank : {bs : List ℕ} → is_blank (slice_index bs 0) ≡ true → IsGapFront 1 bs
  line : {n : ℕ} {bs : List ℕ} → IsLineComment n bs → IsGapFront n bs
  block : {n : ℕ} {bs : List ℕ} → IsBlockComment n bs → IsGapFront n bs

-- The first n bytes are a token: the longest here. No token begins where a comment is opened, and
-- none that is a number ends before a letter, a digit or `_`.
pub record IsTokenFront (kind : TokenKind) (n : ℕ) (bs : List ℕ) : Type 0 where
  pub within : n ≤ length bs
  pub is : IsTokenText kind (take n bs)
  pub longest : (other : TokenKind) (m : ℕ) → n < m → m ≤ length bs → IsTokenText other (take m bs) → ⊥
  pub apart : kind ≡ kinds.Number → n < length bs → is_word (slice_index bs n) ≡ false
  pub no_line : begins_line_comment bs ≡ false
  pub no_block : begins_block_comment bs ≡ false

-- blanks and whole comments alone, from one offset of the text to another
pub data Gap (text : List ℕ) : ℕ → ℕ → Type 0 where
  nothing : {here : ℕ} → Gap text here here
  more : {here n there : ℕ} → IsGapFront n (drop here text) → Gap text (here + n) there → Gap text here there

-- a token of the text
pub record IsTokenOf (text : List ℕ) (t : Lexeme) : Type 0 where
  pub is_slice : t.text ≡ take (length t.text) (drop t.start text)
  pub front : IsTokenFront t.kind (length t.text) (drop t.start text)
  pub place : t.at ≡ place_at text t.start

-- The text from one offset to another is a gap, and then the tokens with a gap after each.
abbrev pub Divides : List ℕ → ℕ → List Lexeme → ℕ → Type 0
Divides text here [] there = Gap text here there
Divides text here (t ∷ ts) there = Gap text here t.start × IsTokenOf text t × Divides text (t.start + length t.text) ts there

-- the tokens of a text
abbrev pub AreTokensOf : List ℕ → List Lexeme → Type 0
AreTokensOf text ts = Divides text 0 ts (length text)

-- no token, blank or comment can be taken from the front
pub record IsStuck (bs : List ℕ) : Type 0 where
  pub no_gap : (n : ℕ) → IsGapFront n bs → ⊥
  pub no_token : (kind : TokenKind) (n : ℕ) → IsTokenFront kind n bs → ⊥

-- the first offset from which no token, blank or comment can be taken
pub record IsFirstBad (text : List ℕ) (bad : ℕ) : Type 0 where
  pub within : bad < length text
  pub before : List Lexeme
  pub divides : Divides text 0 before bad
  pub stuck : IsStuck (drop bad text)

-- what `tokens` answers: the tokens of the text, or the place of the first bad one
abbrev pub Lexes : List ℕ → Result (List Lexeme) TokenError → Type 0
Lexes text (Ok ts) = AreTokensOf text ts
Lexes text (Err (BadToken at)) = (bad : ℕ) × IsFirstBad text bad × (at ≡ place_at text bad)
Lexes text (Err OutOfMemory) = ⊤

-- these tokens, unless memory ran out
abbrev pub GivesTokens : List Lexeme → Result (List Lexeme) TokenError → Type 0
GivesTokens ts (Ok given) = given ≡ ts
GivesTokens ts (Err (BadToken at)) = ⊥
GivesTokens ts (Err OutOfMemory) = ⊤

-- a bad token at this place, unless memory ran out
abbrev pub GivesBad : Place → Result (List Lexeme) TokenError → Type 0
GivesBad at (Ok given) = ⊥
GivesBad at (Err (BadToken reported)) = reported ≡ at
GivesBad at (Err OutOfMemory) = ⊤
