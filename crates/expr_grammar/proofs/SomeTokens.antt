-- A text has tokens, or a first offset from which nothing can be taken.
use Rattle.std.proofs.Common.{◌≡◌, ◌⊎◌, inl, inr, ℕ, zero, suc, ◌+◌, ◌<◌, ◌≤◌, List, [], ◌∷◌, ◌++◌, length, take, drop, Option, Some, None, refl, ap, subst, arith}
use Rattle.std.proofs.lemmas.Bool.{cases_lt}
use Rattle.std.proofs.lemmas.List.{length-drop, length-take-le}
use Rattle.expr_grammar.specs.declared.token.TokenKind.{TokenKind}
use Rattle.expr_grammar.specs.declared.front.Piece.{Piece}
use Rattle.expr_grammar.specs.declared.front.Piece.TheVariants.{Gap, Token}
use Rattle.expr_grammar.specs.Lexeme.{Lexeme}
use Rattle.expr_grammar.specs.Lexing as lexing
use Rattle.expr_grammar.specs.Lexing.{place_at, IsTokenFront, Divides, AreTokensOf, IsFirstBad}
use Rattle.expr_grammar.specs.Front.{IsGapPiece, IsCut, FrontIs}
use Rattle.expr_grammar.proofs.Division.{piece_gap, divides_gap, divides_token, token_of}
use Rattle.expr_grammar.proofs.SomeFront.{front}

-- its tokens, or its first bad offset
abbrev pub Cut : List ℕ → Type 0
Cut text = ((ts : List Lexeme) × AreTokensOf text ts) ⊎ ((bad : ℕ) × IsFirstBad text bad)

module _ (text : List ℕ) where
  -- what is left to be cut, from one offset on
  abbrev Further : ℕ → Type 0
  Further here = (ts : List Lexeme) → Divides text 0 ts here → here ≤ length text → Cut text

  over : (here : ℕ) → length text ≤ here → Further here
  over here past ts d within = let same : here ≡ length text = omega (arith, past, within) in inl (ts, subst (Divides text 0 ts) same d)

  room : (here n : ℕ) → here < length text → IsCut n (drop here text) → here + n ≤ length text
  room here n lt cut = omega (arith, lt, cut.within, length-drop here text)

  with_gap : (here n : ℕ) → here < length text → IsGapPiece n (drop here text) × IsCut n (drop here text) → Further (here + n) → Further here
  with_gap here n lt f more ts d within = more ts (divides_gap text 0 ts here (here + n) d (piece_gap text here n f.0)) (room here n lt f.1)

  with_token : (here n : ℕ) (kind : TokenKind) → here < length text → IsTokenFront kind n (drop here text) × IsCut n (drop here text) → Further (here + n) → Further here
  with_token here n kind lt f more ts d within =
      let taken = take n (drop here text) in
      let t : Lexeme = record { kind = kind; text = taken; start = here; at = place_at text here } in
      let size : length taken ≡ n = length-take-le n (drop here text) f.0.within in
      let next : here + length taken ≡ here + n = ap (λ (k : ℕ). here + k) size in
      let made = divides_token text 0 ts t d (token_of text kind here n (place_at text here) taken f.0 refl refl) in
      more (ts ++ t ∷ []) (subst (Divides text 0 (ts ++ t ∷ [])) next made) (room here n lt f.1)

  -- at an offset before the end, and the same for each one after it
  by_front : (here : ℕ) → here < length text → (o : Option Piece) → FrontIs (drop here text) o → ((n : ℕ) → 0 < n → Further (here + n)) → Further here
  by_front here lt None stuck later = λ ts d within. inr (here, record { within = lt; before = ts; divides = d; stuck = stuck })
  by_front here lt (Some (Gap n)) f later = with_gap here n lt f (later n f.1.some)
  by_front here lt (Some (Token kind n)) f later = with_token here n kind lt f (later n f.1.some)

  from : (fuel here : ℕ) → length text ≤ here + fuel → Further here
  from zero here enough = over here (omega (arith, enough))
  from (suc fuel) here enough = elim (cases_lt here (length text)) [
    | inl lt ↦
        let f = front (drop here text) (omega (arith, lt, length-drop here text)) in
        by_front here lt f.0 f.1 (λ n some. from fuel (here + n) (omega (arith, enough, some)))
    | inr past ↦ over here past
  ]

  pub cut : Cut text
  cut = from (length text) 0 (omega arith) [] lexing.nothing (omega arith)
