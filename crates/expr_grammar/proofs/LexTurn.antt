-- One turn of the search for tokens: a piece is taken from the front of the rest.
use Rattle.std.proofs.Common.{◌≡◌, ℕ, ◌+◌, ◌-◌, ◌≤◌, List, [], ◌∷◌, ◌++◌, length, take, drop, Some, sym, ap, subst, ◌∙◌, arith, IsUtf8}
use Rattle.std.proofs.lemmas.List.{length-drop, drop-drop, drop-take, take-append-drop, take-take}
use Rattle.std.proofs.lemmas.Str.{IsUtf8-drop}
use Rattle.dap_base.specs.declared.text.Place.{Place}
use Rattle.expr_grammar.specs.declared.token.TokenKind.{TokenKind}
use Rattle.expr_grammar.specs.declared.front.Piece.{Piece}
use Rattle.expr_grammar.specs.declared.front.Piece.TheVariants.{Gap, Token}
use Rattle.expr_grammar.specs.Lexeme.{Lexeme}
use Rattle.expr_grammar.specs.Lexing.{place_after, place_at, IsTokenFront, Divides}
use Rattle.expr_grammar.specs.Front.{IsGapPiece, IsCut, FrontIs, piece_len}
use Rattle.expr_grammar.proofs.Fronts.{boundary}
use Rattle.expr_grammar.proofs.Division.{piece_gap, divides_gap, divides_token, token_of}

pub front_cut : (bs : List ℕ) (p : Piece) → FrontIs bs (Some p) → IsCut (piece_len p) bs
front_cut bs (Gap n) f = f.1
front_cut bs (Token kind n) f = f.1

take_further : (start n : ℕ) (text : List ℕ) → take (start + n) text ≡ take start text ++ take n (drop start text)
take_further start n text =
    sym (take-append-drop start (take (start + n) text)) ∙ ap (λ (l : List ℕ). l ++ drop start (take (start + n) text)) (take-take start (start + n) text (omega arith)) ∙ ap (λ (l : List ℕ). take start text ++ l) (drop-take start n text)

pub record Turn (text rest after : List ℕ) (next : Place) (n : ℕ) : Type 0 where
  pub utf8 : IsUtf8 after
  pub within : length after ≤ length text
  pub back : after ≡ drop (length text - length after) text
  pub place : next ≡ place_at text (length text - length after)
  pub start : length text - length after ≡ (length text - length rest) + n

pub turned : (text rest after : List ℕ) (at next : Place) (n : ℕ) (front : List ℕ) → IsUtf8 rest → length rest ≤ length text → rest ≡ drop (length text - length rest) text → at ≡ place_at text (length text - length rest)
    → IsCut n rest → front ≡ take n rest → after ≡ drop n rest → ((before : List ℕ) → at ≡ place_after before → next ≡ place_after (before ++ front)) → Turn text rest after next n
turned text rest after at next n front utf8 within back place cut front_is after_is next_is =
    let len : length after ≡ length rest - n = ap length after_is ∙ length-drop n rest in
    let start : length text - length after ≡ (length text - length rest) + n = omega (arith, len, within, cut.within) in
    let further : take (length text - length rest) text ++ front ≡ take (length text - length after) text =
    ap (λ (l : List ℕ). take (length text - length rest) text ++ l) (front_is ∙ ap (take n) back) ∙ sym (take_further (length text - length rest) n text) ∙ ap (λ (k : ℕ). take k text) (sym start) in
    record {
      utf8 = subst IsUtf8 (sym after_is) (IsUtf8-drop rest n utf8 (boundary rest n utf8 cut));
      within = omega (arith, len, within);
      back = after_is ∙ ap (drop n) back ∙ drop-drop n (length text - length rest) text ∙ ap (λ (k : ℕ). drop k text) (sym start);
      place = next_is (take (length text - length rest) text) place ∙ ap place_after further;
      start = start;
    }

pub gap_kept : (text rest after : List ℕ) (next : Place) (n : ℕ) (ts : List Lexeme) → Turn text rest after next n → rest ≡ drop (length text - length rest) text → IsGapPiece n rest
    → Divides text 0 ts (length text - length rest) → Divides text 0 ts (length text - length after)
gap_kept text rest after next n ts t back gap d =
    subst (λ (k : ℕ). Divides text 0 ts k) (sym t.start) (divides_gap text 0 ts (length text - length rest) (length text - length rest + n) d (piece_gap text (length text - length rest) n (subst (IsGapPiece n) back gap)))

pub token_kept : (text rest after : List ℕ) (next at : Place) (kind : TokenKind) (n : ℕ) (front : List ℕ) (ts : List Lexeme) → Turn text rest after next n → rest ≡ drop (length text - length rest) text → IsTokenFront kind n rest
    → front ≡ take n rest → at ≡ place_at text (length text - length rest) → length front ≡ n
    → Divides text 0 ts (length text - length rest) → Divides text 0 (ts ++ record { kind = kind; text = front; start = length text - length rest; at = at } ∷ []) (length text - length after)
token_kept text rest after next at kind n front ts t back f front_is place size d =
    let start = length text - length rest in
    let is = token_of text kind start n at front (subst (IsTokenFront kind n) back f) (front_is ∙ ap (take n) back) place in
    let made = divides_token text 0 ts (record { kind = kind; text = front; start = start; at = at }) d is in
    let there : start + length front ≡ length text - length after = ap (λ (k : ℕ). start + k) size ∙ sym t.start in
    subst (λ (k : ℕ). Divides text 0 (ts ++ record { kind = kind; text = front; start = start; at = at } ∷ []) k) there made
