-- What is at the front of a text, as the search for tokens finds it: what private contracts cite.
use Rattle.std.specs.Prelude.{◌≡◌, ℕ, suc, ◌+◌, ◌-◌, ◌<◌, ◌≤◌, Bool, true, false, not, ◌&&◌, ◌==◌, List}
use Rattle.std.specs.Prelude.{[], ◌∷◌, length, Option, Some, None, ◌⊎◌, slice_index, if◌then◌else◌}
use Rattle.expr_grammar.specs.declared.front.Piece.{Piece}
use Rattle.expr_grammar.specs.declared.front.Piece.TheVariants.{Gap, Token}
use Rattle.expr_grammar.specs.Spelling.{is_pair, is_single}
use Rattle.expr_grammar.specs.Lexing.{is_blank, closes, IsGapFront, IsTokenFront, IsStuck}

-- blanks, one or more, or a comment
pub data IsGapPiece : ℕ → List ℕ → Type 0 where
  blanks : {n : ℕ} {bs : List ℕ} → 0 < n → ((k : ℕ) → k < n → is_blank (slice_index bs k) ≡ true) → IsGapPiece n bs
  comment : {n : ℕ} {bs : List ℕ} → IsGapFront n bs → IsGapPiece n bs

-- a cut after n bytes takes some and falls between characters
pub record IsCut (n : ℕ) (bs : List ℕ) : Type 0 where
  pub some : 0 < n
  pub within : n ≤ length bs
  pub edge : (n < length bs → slice_index bs n < 128) ⊎ (slice_index bs (n - 1) < 128)

-- how many bytes the piece has
abbrev pub piece_len : Piece → ℕ
piece_len (Gap n) = n
piece_len (Token kind n) = n

-- the piece at the front, or none can be taken
abbrev pub FrontIs : List ℕ → Option Piece → Type 0
FrontIs bs None = IsStuck bs
FrontIs bs (Some (Gap n)) = IsGapPiece n bs × IsCut n bs
FrontIs bs (Some (Token kind n)) = IsTokenFront kind n bs × IsCut n bs

-- where the comment ends that is open: after the first `*/` from the third byte on
abbrev pub ClosesFirst : List ℕ → Option ℕ → Type 0
ClosesFirst bs None = (k : ℕ) → 2 ≤ k → closes bs k ≡ false
ClosesFirst bs (Some n) = (k : ℕ) × (2 ≤ k) × (n ≡ k + 2) × (closes bs k ≡ true) × ((j : ℕ) → 2 ≤ j → j < k → closes bs j ≡ false)

-- one more, where there is a number
abbrev pub one_more : Option ℕ → Option ℕ
one_more None = None
one_more (Some n) = Some (suc n)

-- how many bytes a string has after its opening quote, the closing one included
abbrev pub string_end : Bool → List ℕ → Option ℕ
string_end escaped [] = None
string_end escaped (b ∷ bs) =
    if b == 10 then None
    else (if b == 34 && not escaped then Some 1
    else one_more (string_end (not escaped && b == 92) bs))

-- how many bytes the longest mark has
abbrev pub mark_len : List ℕ → ℕ
mark_len [] = 0
mark_len (a ∷ []) = if is_single a then 1 else 0
mark_len (a ∷ b ∷ bs) = if is_pair a b then 2 else (if is_single a then 1 else 0)
