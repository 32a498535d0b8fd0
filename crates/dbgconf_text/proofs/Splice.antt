-- A text in which numbers are put between tokens: its tokens.
use Rattle.std.proofs.Common.{◌≡◌, ℕ, suc, ◌+◌, ◌-◌, ◌^◌, ◌<◌, ◌≤◌, true, false, List, [], ◌∷◌, ◌++◌, length, take, drop, get_or, Some, refl, sym, ap, subst, ◌∙◌, arith}
use Rattle.std.specs.Prelude.{codes, is_some}
use Rattle.std.specs.List.{prefix_len}
use Rattle.std.proofs.lemmas.Bool.{both_ways}
use Rattle.std.proofs.lemmas.List.{length-take, length-take-le, length-append, length-drop, drop-drop, drop-take, drop_at, drop-append-le, take_at, get_or-take, get_or_append_left, get_or-append_right}
use Rattle.std.proofs.lemmas.List.Sums.{prefix_len_is}
use Rattle.dap_base.specs.Number.{number_value}
use Rattle.text_lines.specs.Hex.{hex}
use Rattle.expr_grammar.specs.declared.token.TokenKind.{TokenKind}
use Rattle.expr_grammar.specs.declared.token.TokenKind.TheVariants as kinds
use Rattle.expr_grammar.specs.Lexeme.{Lexeme}
use Rattle.expr_grammar.specs.Grammar.{IsMark}
use Rattle.expr_grammar.specs.Spelling.{is_letter, is_word, is_pair, IsMarkText, single, pair, var, IsTokenText}
use Rattle.expr_grammar.specs.Lexing.{is_blank, place_at, IsGapFront, blank, IsTokenFront, Gap, nothing, IsTokenOf, Divides}
use Rattle.expr_grammar.specs.Lexing as lexing
use Rattle.expr_grammar.proofs.Fronts.{first, number_taken, number_text, list_all_get}
use Rattle.expr_grammar.specs.Moved.{AreMoved}
use Rattle.dbgconf_text.specs.Cuts.{Cut, spliced_text}
use Rattle.dbgconf_text.proofs.Numbers.{hex_number}
use Rattle.expr_grammar.proofs.Local.{size_of_mark, mark_by_first}
use Rattle.expr_grammar.proofs.Moves.{MovedTo, divides_moves, divides_order}
use Rattle.function_table.specs.Format.{is_decimal}

-- ---- the token `=` before a space

pub pair_of : {t : List ℕ} → IsMarkText t → is_letter (first t) ≡ false → length t ≡ 2 → is_pair (get_or t 0 0) (get_or t 1 0) ≡ true
pair_of (single is) l two = absurd (omega (arith, two))
pair_of (pair is) l two = is
pair_of var l two = absurd cc

equals_longest : (rest : List ℕ) (other : TokenKind) (m : ℕ) → 1 < m → m ≤ length (61 ∷ 32 ∷ rest) → IsTokenText other (take m (61 ∷ 32 ∷ rest)) → ⊥
equals_longest rest other m lt le t =
    let bs = 61 ∷ 32 ∷ rest in
    let head : first (take m bs) ≡ 61 = get_or-take m bs 0 0 (omega (arith, lt)) in
    let mk = mark_by_first 61 refl refl other (take m bs) head t in
    let letter : is_letter (first (take m bs)) ≡ false = ap is_letter head in
    let two : m ≡ 2 = omega (arith, size_of_mark mk letter, length-take-le m bs le, lt) in
    let size : length (take m bs) ≡ 2 = length-take-le m bs le ∙ two in
    let is = pair_of mk letter size in
    let at0 : get_or (take m bs) 0 0 ≡ 61 = head in
    let at1 : get_or (take m bs) 1 0 ≡ 32 = get_or-take m bs 1 0 lt in
    let no : is_pair (get_or (take m bs) 0 0) (get_or (take m bs) 1 0) ≡ false = rw (at0, at1) refl in
    both_ways (is_pair (get_or (take m bs) 0 0) (get_or (take m bs) 1 0)) no is

pub equals_front : (rest : List ℕ) → IsTokenFront kinds.Mark 1 (61 ∷ 32 ∷ rest)
equals_front rest = record {
  within = omega arith;
  is = single refl;
  longest = λ other m lt le t. equals_longest rest other m lt le t;
  apart = λ is. absurd cc;
  no_line = refl;
  no_block = refl;
}

-- ---- a number before what is no letter, digit or `_`

pub number_front : (num tail : List ℕ) (v : ℕ) → number_value num ≡ Some v → is_word (first tail) ≡ false → IsTokenFront kinds.Number (length num) (num ++ tail)
number_front num tail v e apart =
    let text : IsTokenText kinds.Number num = ap is_some e in
    let shape = number_text num text in
    let pos : 0 < length num = some num shape.digit in
    let head : first (num ++ tail) ≡ first num = get_or_append_left num tail 0 0 pos in
    let within : length num ≤ length (num ++ tail) = omega (arith, length-append num tail) in
    let passes = λ (k : ℕ) (lt : k < length num). let is : is_word (get_or (num ++ tail) k 0) ≡ true = ap is_word (get_or_append_left num tail 0 k lt) ∙ list_all_get is_word num shape.words k lt in is in
    let stop : get_or (num ++ tail) (length num) 0 ≡ first tail = get_or-append_right num tail (length num) (length num) 0 refl (omega arith) ∙ ap (λ (k : ℕ). get_or tail k 0) (omega arith) in
    let run : prefix_len is_word (num ++ tail) ≡ length num = prefix_len_is is_word (num ++ tail) (length num) 0 within passes (λ lt. ap is_word stop ∙ apart) in
    let front : take (length num) (num ++ tail) ≡ num = take_at num tail (length num) refl in
    (number_taken (num ++ tail) (length num) v (ap is_decimal head ∙ shape.digit) (sym run) (ap number_value front ∙ e)).0 where
      some : (bs : List ℕ) → is_decimal (first bs) ≡ true → 0 < length bs
      some [] is = absurd cc
      some (b ∷ bs) is = omega arith

-- ---- tokens in a row

pub record Parts (text : List ℕ) (a : ℕ) (front : List Lexeme) (t : Lexeme) (rest : List Lexeme) (b : ℕ) : Type 0 where
  pub before : Divides text a front t.start
  pub here : IsTokenOf text t
  pub after : Divides text (t.start + length t.text) rest b

pub apart : (text : List ℕ) (a : ℕ) (front : List Lexeme) (t : Lexeme) (rest : List Lexeme) (b : ℕ) → Divides text a (front ++ t ∷ rest) b → Parts text a front t rest b
apart text a [] t rest b d = record { before = d.0; here = d.1; after = d.2 }
apart text a (k ∷ front) t rest b d =
    let p = apart text (k.start + length k.text) front t rest b d.2 in
    record { before = (d.0, d.1, p.before); here = p.here; after = p.after }

together : (text : List ℕ) (a : ℕ) (front : List Lexeme) (t : Lexeme) (rest : List Lexeme) (b : ℕ) → Divides text a front t.start → IsTokenOf text t → Divides text (t.start + length t.text) rest b → Divides text a (front ++ t ∷ rest) b
together text a [] t rest b d is e = (d, is, e)
together text a (k ∷ front) t rest b d is e = (d.0, d.1, together text (k.start + length k.text) front t rest b d.2 is e)

moved_append : (ts us vs ws : List Lexeme) → AreMoved ts us → AreMoved vs ws → AreMoved (ts ++ vs) (us ++ ws)
moved_append [] [] vs ws m n = n
moved_append [] (u ∷ us) vs ws m n = absurd m
moved_append (t ∷ ts) [] vs ws m n = absurd m
moved_append (t ∷ ts) (u ∷ us) vs ws m n = (m.0, moved_append ts us vs ws m.1 n)

-- ---- the tokens of a spliced text

-- these tokens with numbers in the place of some of them, each between a `=` and a `;`
pub data Cutting : List Lexeme → List Lexeme → List Cut → Type 0 where
  done : {ts : List Lexeme} → Cutting ts ts []
  cut : (front mid rest changed : List Lexeme) (equals number semi : Lexeme) (v : ℕ) (more : List Cut) → IsMark (codes "=") equals → IsMark (codes ";") semi → number.kind ≡ kinds.Number → number.text ≡ hex v → v < 2 ^ 64
      → Cutting (semi ∷ rest) changed more → Cutting (front ++ equals ∷ (mid ++ semi ∷ rest)) (front ++ equals ∷ number ∷ changed) (record { from = equals.start + 1; to = semi.start; value = v } ∷ more)

one_equals : (equals : Lexeme) → IsMark (codes "=") equals → length equals.text ≡ 1
one_equals equals is = ap length is.text_is

pub token_within : (text : List ℕ) (t : Lexeme) → IsTokenOf text t → 0 < length t.text → t.start + length t.text ≤ length text
token_within text t is pos = omega (arith, is.front.within, length-drop t.start text, pos)

spliced_first : (text : List ℕ) {ts changed : List Lexeme} {cs : List Cut} → Cutting ts changed cs → (a : ℕ) → Divides text a ts (length text) → a < length text → first (spliced_text text a cs) ≡ first (drop a text)
spliced_first text done a d lt = refl
spliced_first text (cut front mid rest changed equals number semi v more eq_is semi_is kind_is text_is small sub) a d lt =
    let p = apart text a front equals (mid ++ semi ∷ rest) (length text) d in
    let low : a ≤ equals.start = divides_order text a front equals.start p.before in
    let n : 0 < equals.start + 1 - a = omega (arith, low) in
    let long : 0 < length (take (equals.start + 1 - a) (drop a text)) = omega (arith, n, length-take (equals.start + 1 - a) (drop a text), length-drop a text, lt) in
    get_or_append_left (take (equals.start + 1 - a) (drop a text)) (32 ∷ (hex v ++ spliced_text text semi.start more)) 0 0 long ∙ get_or-take (equals.start + 1 - a) (drop a text) 0 0 n

module _ (text new : List ℕ) where
  pub spliced_tokens : {ts changed : List Lexeme} {cs : List Cut} → Cutting ts changed cs → (a c : ℕ) → Divides text a ts (length text) → a ≤ length text → c ≤ length new → drop c new ≡ spliced_text text a cs → MovedTo new c (length new) changed
  spliced_tokens {ts} done a c d low low2 is =
      let len = length text - a in
      let same : take (suc len) (drop a text) ≡ take (suc len) (drop c new) = ap (take (suc len)) (sym is) in
      let m = divides_moves text new a (length text) c len ts d (omega (arith, low)) same in
      let end : c + len ≡ length new = omega (arith, low, low2, sym (length-drop c new) ∙ ap length is ∙ length-drop a text) in
      subst (λ (i : ℕ). MovedTo new c i ts) end m
  spliced_tokens (cut front mid rest changed equals number semi v more eq_is semi_is kind_is text_is small sub) a c d low low2 is =
      let p = apart text a front equals (mid ++ semi ∷ rest) (length text) d in
      let one = one_equals equals eq_is in
      let q = apart text (equals.start + length equals.text) mid semi rest (length text) p.after in
      let tail : Divides text semi.start (semi ∷ rest) (length text) = (nothing, q.here, q.after) in
      let semi_one : length semi.text ≡ 1 = ap length semi_is.text_is in
      let semi_in = token_within text semi q.here (omega (arith, semi_one)) in
      let equals_in = token_within text equals p.here (omega (arith, one)) in
      let start_low : a ≤ equals.start = divides_order text a front equals.start p.before in
      let k = equals.start - a in
      let X = drop a text in
      let H = hex v in
      let R = spliced_text text semi.start more in
      let Y = H ++ R in
      let T = take (k + 1) X in
      let size : length T ≡ k + 1 = length-take-le (k + 1) X (omega (arith, length-drop a text, equals_in, one, start_low)) in
      let n_is : equals.start + 1 - a ≡ k + 1 = omega (arith, start_low) in
      let whole : drop c new ≡ T ++ 32 ∷ Y = is ∙ ap (λ (i : ℕ). take i X ++ 32 ∷ Y) n_is in
      let suc_k : k + 1 ≡ suc k = omega arith in
      let same1 : take (k + 1) X ≡ take (k + 1) (drop c new) = sym (take_at T (32 ∷ Y) (k + 1) size) ∙ sym (ap (take (k + 1)) whole) in
      let same : take (suc k) X ≡ take (suc k) (drop c new) = subst (λ (i : ℕ). take i X ≡ take i (drop c new)) suc_k same1 in
      let frontm = divides_moves text new a equals.start c k front p.before (omega (arith, start_low)) same in
      let at_start : a + k ≡ equals.start = omega (arith, start_low) in
      let eq_text : take 1 (drop equals.start text) ≡ 61 ∷ [] = ap (λ (i : ℕ). take i (drop equals.start text)) (sym one) ∙ sym p.here.is_slice ∙ eq_is.text_is in
      let last : drop k T ≡ 61 ∷ [] = drop-take k 1 X ∙ ap (take 1) (drop-drop k a text ∙ ap (λ (i : ℕ). drop i text) at_start) ∙ eq_text in
      let at_equals : drop (c + k) new ≡ 61 ∷ 32 ∷ Y = sym (drop-drop k c new) ∙ ap (drop k) whole ∙ drop-append-le k T (32 ∷ Y) (omega (arith, size)) ∙ ap (λ (l : List ℕ). l ++ 32 ∷ Y) last in
      let at_space : drop (c + k + 1) new ≡ 32 ∷ Y = sym (drop-drop 1 (c + k) new) ∙ ap (drop 1) at_equals in
      let at_number : drop (c + k + 1 + 1) new ≡ Y = sym (drop-drop 1 (c + k + 1) new) ∙ ap (drop 1) at_space in
      let at_rest : drop (c + k + 1 + 1 + length H) new ≡ R = sym (drop-drop (length H) (c + k + 1 + 1) new) ∙ ap (drop (length H)) at_number ∙ drop_at H R (length H) refl in
      let sizes : length new - c ≡ (k + 1) + (1 + (length H + length R)) = omega (arith, sym (length-drop c new), ap length whole, length-append T (32 ∷ Y), size, length-append H R) in
      let semi_first : first (drop semi.start text) ≡ 59 = first_of (drop semi.start text) semi_one q.here.is_slice semi_is.text_is in
      let R_first : is_word (first R) ≡ false = ap is_word (spliced_first text sub semi.start tail (omega (arith, semi_in, semi_one)) ∙ semi_first) in
      let later = spliced_tokens sub semi.start (c + k + 1 + 1 + length H) tail (omega (arith, semi_in)) (omega (arith, sizes, low2)) at_rest in
      let eq_new : Lexeme = record { kind = kinds.Mark; text = 61 ∷ []; start = c + k; at = place_at new (c + k) } in
      let eq_token : IsTokenOf new eq_new = record { is_slice = sym (ap (take 1) at_equals); front = subst (IsTokenFront kinds.Mark 1) (sym at_equals) (equals_front Y); place = refl } in
      let gap : Gap new (c + k + 1) (c + k + 1 + 1) = lexing.more (blank (ap (λ (l : List ℕ). is_blank (first l)) at_space)) nothing in
      let num_new : Lexeme = record { kind = kinds.Number; text = H; start = c + k + 1 + 1; at = place_at new (c + k + 1 + 1) } in
      let num_front : IsTokenFront kinds.Number (length H) Y = number_front H R v (hex_number v small) R_first in
      let num_token : IsTokenOf new num_new = record { is_slice = sym (ap (take (length H)) at_number ∙ take_at H R (length H) refl); front = subst (IsTokenFront kinds.Number (length H)) (sym at_number) num_front; place = refl } in
      record {
        us = frontm.us ++ eq_new ∷ num_new ∷ later.us;
        divides = together new c frontm.us eq_new (num_new ∷ later.us) (length new) frontm.divides eq_token (gap, num_token, later.divides);
        moved = moved_append front frontm.us (equals ∷ number ∷ changed) (eq_new ∷ num_new ∷ later.us) frontm.moved
            (record { kind = sym eq_is.kind; text = sym eq_is.text_is }, (record { kind = sym kind_is; text = sym text_is }, later.moved));
      } where
        first_of : (bs : List ℕ) → length semi.text ≡ 1 → semi.text ≡ take (length semi.text) bs → semi.text ≡ codes ";" → first bs ≡ 59
        first_of bs one slice is =
            let e : take 1 bs ≡ 59 ∷ [] = ap (λ (i : ℕ). take i bs) (sym one) ∙ sym slice ∙ is in
            sym (get_or-take 1 bs 0 0 (omega arith)) ∙ ap first e
