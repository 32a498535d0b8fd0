-- A text divided from its front into gaps and tokens, and places in it.
use Rattle.std.proofs.Common.{◌≡◌, ℕ, zero, suc, ◌+◌, ◌<◌, ◌≤◌, true, eqb, List, [], ◌∷◌, ◌++◌, length, take, drop, get_or, refl, sym, ap, subst, ◌∙◌, arith}
use Rattle.std.proofs.lemmas.List.{length-take-le, get_or-drop}
use Rattle.std.proofs.lemmas.List.Sums.{count_by-le-length, suffix_len-le-length}
use Rattle.dap_base.specs.declared.text.Place.{Place}
use Rattle.expr_grammar.specs.declared.token.TokenKind.{TokenKind}
use Rattle.expr_grammar.specs.Lexeme.{Lexeme}
use Rattle.expr_grammar.specs.Lexing.{is_blank, is_in_line, place_at, IsGapFront, blank, IsTokenFront, Gap, nothing, more, IsTokenOf, Divides}
use Rattle.expr_grammar.specs.Front.{IsGapPiece, blanks, comment}

-- ---- gaps and tokens, one after the other

pub gap_join : {text : List ℕ} {a b c : ℕ} → Gap text a b → Gap text b c → Gap text a c
gap_join nothing h = h
gap_join (more g rest) h = more g (gap_join rest h)

blanks_gap : (text : List ℕ) (here n : ℕ) → ((k : ℕ) → k < n → is_blank (get_or (drop here text) k 0) ≡ true) → Gap text here (here + n)
blanks_gap text here zero all = let same : here ≡ here + 0 = omega arith in subst (Gap text here) same nothing
blanks_gap text here (suc n) all =
    let shifted = λ (k : ℕ) (lt : k < n).
    let e : get_or (drop (here + 1) text) k 0 ≡ get_or (drop here text) (suc k) 0 = get_or-drop (here + 1) text k 0 ∙ ap (λ (i : ℕ). get_or text i 0) (omega arith) ∙ sym (get_or-drop here text (suc k) 0) in
    let is : is_blank (get_or (drop (here + 1) text) k 0) ≡ true = ap is_blank e ∙ all (suc k) (omega arith) in is in
    let there : here + 1 + n ≡ here + suc n = omega arith in
    more (blank (all 0 (omega arith))) (subst (Gap text (here + 1)) there (blanks_gap text (here + 1) n shifted))

pub piece_gap : (text : List ℕ) (here n : ℕ) → IsGapPiece n (drop here text) → Gap text here (here + n)
piece_gap text here n p = by_piece (drop here text) refl p where
  by_piece : (bs : List ℕ) → drop here text ≡ bs → IsGapPiece n bs → Gap text here (here + n)
  by_piece bs is (blanks some all) = blanks_gap text here n (λ k lt. ap (λ (l : List ℕ). is_blank (get_or l k 0)) is ∙ all k lt)
  by_piece bs is (comment g) = more (subst (IsGapFront n) (sym is) g) nothing

pub divides_gap : (text : List ℕ) (here : ℕ) (ts : List Lexeme) (there beyond : ℕ) → Divides text here ts there → Gap text there beyond → Divides text here ts beyond
divides_gap text here [] there beyond d g = gap_join d g
divides_gap text here (t ∷ ts) there beyond d g = (d.0, d.1, divides_gap text (t.start + length t.text) ts there beyond d.2 g)

pub divides_token : (text : List ℕ) (here : ℕ) (ts : List Lexeme) (t : Lexeme) → Divides text here ts t.start → IsTokenOf text t → Divides text here (ts ++ t ∷ []) (t.start + length t.text)
divides_token text here [] t d is = (d, is, nothing)
divides_token text here (k ∷ ts) t d is = (d.0, d.1, divides_token text (k.start + length k.text) ts t d.2 is)

-- a token that was taken from the front of the rest
pub token_of : (text : List ℕ) (kind : TokenKind) (start n : ℕ) (at : Place) (taken : List ℕ) → IsTokenFront kind n (drop start text) → taken ≡ take n (drop start text) → at ≡ place_at text start
    → IsTokenOf text (record { kind = kind; text = taken; start = start; at = at })
token_of text kind start n at taken f is place =
    let size : length taken ≡ n = ap length is ∙ length-take-le n (drop start text) f.within in
    record {
      is_slice = is ∙ ap (λ (k : ℕ). take k (drop start text)) (sym size);
      front = subst (λ (k : ℕ). IsTokenFront kind k (drop start text)) (sym size) f;
      place = place;
    }

-- ---- places

pub place_line : (text : List ℕ) (n : ℕ) → n ≤ length text → (place_at text n).line ≤ 1 + n
place_line text n le = omega (arith, count_by-le-length (λ b. eqb b 10) (take n text), length-take-le n text le)

pub place_column : (text : List ℕ) (n : ℕ) → n ≤ length text → (place_at text n).column ≤ 1 + n
place_column text n le = omega (arith, suffix_len-le-length is_in_line (take n text), length-take-le n text le)
