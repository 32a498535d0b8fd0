-- Places of tokens.
use Rattle.std.proofs.Common.{◌≡◌, ℕ, zero, suc, ◌+◌, ◌-◌, ◌<◌, ◌≤◌, List, [], ◌∷◌, length, take, drop, get_or, refl, ap, ◌∙◌, arith}
use Rattle.std.proofs.lemmas.List.{length-drop, length-take-le}
use Rattle.dap_base.specs.declared.text.Place.{Place}
use Rattle.expr_grammar.specs.declared.token.Token.{Token}
use Rattle.expr_grammar.specs.Lexeme.{Lexeme, lexeme, lexemes}
use Rattle.expr_grammar.specs.Lexing.{IsTokenOf, Divides, AreTokensOf}
use Rattle.expr_grammar.specs.Refusal.{place_of, past}
use Rattle.expr_grammar.proofs.Fronts.{token_some}
use Rattle.expr_grammar.proofs.Division.{place_column}

pub place_here : (ts : List Token) (i : ℕ) (d : Token) → i < length ts → (get_or ts i d).at ≡ place_of (lexemes ts) i
place_here [] i d lt = absurd (omega arith)
place_here (k ∷ ts) zero d lt = refl
place_here (k ∷ []) (suc i) d lt = absurd (omega arith)
place_here (k ∷ j ∷ ts) (suc i) d lt = place_here (j ∷ ts) i d (omega arith)

pub place_past : (ts : List Token) (i : ℕ) (d : Token) → length ts ≤ i → 0 < length ts → past (lexeme (get_or ts (length ts - 1) d)) ≡ place_of (lexemes ts) i
place_past [] i d le pos = absurd (omega arith)
place_past (k ∷ ts) zero d le pos = absurd (omega arith)
place_past (k ∷ []) (suc i) d le pos = refl
place_past (k ∷ j ∷ ts) (suc i) d le pos =
    let e : length (k ∷ j ∷ ts) - 1 ≡ suc (length (j ∷ ts) - 1) = omega arith in
    ap (λ (n : ℕ). past (lexeme (get_or (k ∷ j ∷ ts) n d))) e ∙ place_past (j ∷ ts) i d (omega arith) (omega arith)

token_fits : (text : List ℕ) (t : Lexeme) → IsTokenOf text t → t.at.column + length t.text ≤ 1 + length text
token_fits text t is =
    let within : length t.text ≤ length text - t.start = omega (arith, is.front.within, length-drop t.start text) in
    let some : 0 < length t.text = omega (arith, token_some t.kind (take (length t.text) (drop t.start text)) is.front.is, length-take-le (length t.text) (drop t.start text) is.front.within) in
    let column : t.at.column ≤ 1 + t.start = omega (arith, ap (λ (p : Place). p.column) is.place, place_column text t.start (omega (arith, within, some))) in
    omega (arith, within, some, column)

fits_by : (text : List ℕ) (here there : ℕ) (ts : List Token) (i : ℕ) (d : Token) → Divides text here (lexemes ts) there → i < length ts → (get_or ts i d).at.column + length (get_or ts i d).text.now ≤ 1 + length text
fits_by text here there [] i d div lt = absurd (omega arith)
fits_by text here there (t ∷ ts) zero d div lt = token_fits text (lexeme t) div.1
fits_by text here there (t ∷ ts) (suc i) d div lt = fits_by text (t.start + length t.text.now) there ts i d div.2 (omega arith)

-- a token ends within its text
pub fits : (text : List ℕ) (ts : List Token) (i : ℕ) (d : Token) → AreTokensOf text (lexemes ts) → i < length ts → (get_or ts i d).at.column + length (get_or ts i d).text.now ≤ 1 + length text
fits text ts i d div lt = fits_by text 0 (length text) ts i d div lt
