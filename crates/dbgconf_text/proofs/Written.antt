-- A text that was written is read again.
use Rattle.std.proofs.Common.{◌≡◌, ℕ, ◌+◌, ◌-◌, ◌<◌, ◌≤◌, true, false, List, [], ◌∷◌, ◌++◌, length, take, drop, get_or, Result, Ok, Err, IfOk, refl, sym, ap, subst, ◌∙◌, append_assoc, arith}
use Rattle.std.specs.Prelude.{codes, map}
use Rattle.std.specs.List.{prefix_len, IsDistinct}
use Rattle.std.specs.Str.{bytes_eq}
use Rattle.std.proofs.lemmas.Bool.{both_ways}
use Rattle.std.proofs.lemmas.List.{length-append, length-drop, length-take-le, drop-drop, drop_at, take_at, get_or-take, get_or_append_left, get_or-append_right}
use Rattle.std.proofs.lemmas.List.Sums.{prefix_len_is}
use Rattle.text_lines.specs.Hex.{hex}
use Rattle.expr_grammar.specs.declared.token.TokenKind.{TokenKind}
use Rattle.expr_grammar.specs.declared.token.TokenKind.TheVariants as kinds
use Rattle.expr_grammar.specs.Lexeme.{Lexeme}
use Rattle.expr_grammar.specs.Spelling.{is_letter, is_word, is_pair, IsMarkText, single, IsNameText, IsTokenText}
use Rattle.expr_grammar.specs.Lexing.{place_at, is_blank, IsGapFront, blank, IsTokenFront, Gap, nothing, IsTokenOf, Divides}
use Rattle.expr_grammar.specs.Lexing as lexing
use Rattle.expr_grammar.proofs.Fronts.{first, list_all_get, some_bytes}
use Rattle.expr_grammar.proofs.Pieces.{word_taken}
use Rattle.expr_grammar.proofs.Division.{gap_join}
use Rattle.std.proofs.lemmas.Bool.Decides.{nat_tests}
use Rattle.dbgconf_text.specs.Cuts.{Setting}
use Rattle.dbgconf_text.specs.declared.conf.ConfItem.{ConfItem}
use Rattle.dbgconf_text.specs.Conf.{ReadsConf, names}
use Rattle.dbgconf_text.specs.Replacing.{settings_of}
use Rattle.dbgconf_text.specs.Written.{item_bytes, conf_bytes, AreSpelled, AreNames, IsConfText}
use Rattle.dbgconf_text.proofs.Numbers.{hex_number}
use Rattle.expr_grammar.proofs.Local.{size_of_mark, mark_by_first}
use Rattle.dbgconf_text.proofs.Splice.{equals_front, number_front, pair_of}

-- a name before what is no letter, digit or `_`
name_front : (name tail : List ℕ) → IsNameText name → is_word (first tail) ≡ false → IsTokenFront kinds.Name (length name) (name ++ tail)
name_front name tail n apart =
    let pos : 0 < length name = some_bytes is_letter name refl n.first in
    let head : first (name ++ tail) ≡ first name = get_or_append_left name tail 0 0 pos in
    let within : length name ≤ length (name ++ tail) = omega (arith, length-append name tail) in
    let passes = λ (k : ℕ) (lt : k < length name). let is : is_word (get_or (name ++ tail) k 0) ≡ true = ap is_word (get_or_append_left name tail 0 k lt) ∙ list_all_get is_word name n.words k lt in is in
    let stop : get_or (name ++ tail) (length name) 0 ≡ first tail = get_or-append_right name tail (length name) (length name) 0 refl (omega arith) ∙ ap (λ (k : ℕ). get_or tail k 0) (omega arith) in
    let run : prefix_len is_word (name ++ tail) ≡ length name = prefix_len_is is_word (name ++ tail) (length name) 0 within passes (λ lt. ap is_word stop ∙ apart) in
    let front : take (length name) (name ++ tail) ≡ name = take_at name tail (length name) refl in
    (word_taken (name ++ tail) (length name) kinds.Name (ap is_letter head ∙ n.first) (sym run) (subst (λ (l : List ℕ). IsTokenText kinds.Name l) (sym front) n)).0

no_semi_pair : (b : ℕ) → is_pair 59 b ≡ false
no_semi_pair b = grind (arith, nat_tests)

no_pair : (t : List ℕ) → IsMarkText t → is_letter (first t) ≡ false → first t ≡ 59 → length t ≡ 2 → ⊥
no_pair t mk letter head two =
    let is = pair_of mk letter two in
    let other : is_pair (get_or t 0 0) (get_or t 1 0) ≡ false = ap (λ (a : ℕ). is_pair a (get_or t 1 0)) head ∙ no_semi_pair (get_or t 1 0) in
    both_ways (is_pair (get_or t 0 0) (get_or t 1 0)) other is

semi_longest : (rest : List ℕ) (other : TokenKind) (m : ℕ) → 1 < m → m ≤ length (59 ∷ rest) → IsTokenText other (take m (59 ∷ rest)) → ⊥
semi_longest rest other m lt le t =
    let bs = 59 ∷ rest in
    let head : first (take m bs) ≡ 59 = get_or-take m bs 0 0 (omega (arith, lt)) in
    let mk = mark_by_first 59 refl refl other (take m bs) head t in
    let letter : is_letter (first (take m bs)) ≡ false = ap is_letter head in
    let two : m ≡ 2 = omega (arith, size_of_mark mk letter, length-take-le m bs le, lt) in
    no_pair (take m bs) mk letter head (length-take-le m bs le ∙ two)

-- `;` before anything
semi_front : (rest : List ℕ) → IsTokenFront kinds.Mark 1 (59 ∷ rest)
semi_front rest = record {
  within = omega arith;
  is = single refl;
  longest = λ other m lt le t. semi_longest rest other m lt le t;
  apart = λ is. absurd cc;
  no_line = refl;
  no_block = refl;
}

gap_first : (text : List ℕ) (a c : ℕ) (ts : List Lexeme) (b : ℕ) → Gap text a c → Divides text c ts b → Divides text a ts b
gap_first text a c [] b g d = gap_join g d
gap_first text a c (t ∷ ts) b g d = (gap_join g d.0, d.1, d.2)

one_blank : (text : List ℕ) (a : ℕ) (c : ℕ) (rest : List ℕ) → drop a text ≡ c ∷ rest → is_blank c ≡ true → Gap text a (a + 1)
one_blank text a c rest e is = lexing.more (blank (ap (λ (l : List ℕ). is_blank (first l)) e ∙ is)) nothing

next_drop : (text : List ℕ) (a : ℕ) (c : ℕ) (rest : List ℕ) → drop a text ≡ c ∷ rest → drop (a + 1) text ≡ rest
next_drop text a c rest e = sym (drop-drop 1 a text) ∙ ap (drop 1) e

token_at : (text : List ℕ) (kind : TokenKind) (a : ℕ) (own rest : List ℕ) → drop a text ≡ own ++ rest → IsTokenFront kind (length own) (own ++ rest) → IsTokenOf text (record { kind = kind; text = own; start = a; at = place_at text a })
token_at text kind a own rest e f = record {
  is_slice = sym (ap (take (length own)) e ∙ take_at own rest (length own) refl);
  front = subst (IsTokenFront kind (length own)) (sym e) f;
  place = refl;
}

record Read (text : List ℕ) (c : ℕ) (conf : List ConfItem) : Type 0 where
  tokens : List Lexeme
  again : List ConfItem
  divides : Divides text c tokens (length text)
  reads : ReadsConf tokens again
  same : settings_of again ≡ settings_of conf

read : (text : List ℕ) (conf : List ConfItem) (c : ℕ) → AreSpelled conf → c ≤ length text → drop c text ≡ conf_bytes conf → Read text c conf
read text [] c spelled le e =
    let end : c ≡ length text = omega (arith, le, sym (length-drop c text) ∙ ap length e) in
    record { tokens = []; again = []; divides = subst (Gap text c) end nothing; reads = refl; same = refl }
read text (item ∷ more) c spelled le e =
    let N = item.name.text in
    let H = hex item.value in
    let R = conf_bytes more in
    let n = length N in
    let h = length H in
    let parts : item_bytes item ++ R ≡ N ++ (32 ∷ 61 ∷ 32 ∷ (H ++ (59 ∷ 10 ∷ R))) =
    append_assoc ((N ++ codes " = ") ++ H) (codes ";\n") R ∙ append_assoc (N ++ codes " = ") H (59 ∷ 10 ∷ R) ∙ append_assoc N (codes " = ") (H ++ (59 ∷ 10 ∷ R)) in
    let e0 : drop c text ≡ N ++ (32 ∷ 61 ∷ 32 ∷ (H ++ (59 ∷ 10 ∷ R))) = e ∙ parts in
    let e1 : drop (c + n) text ≡ 32 ∷ 61 ∷ 32 ∷ (H ++ (59 ∷ 10 ∷ R)) = sym (drop-drop n c text) ∙ ap (drop n) e0 ∙ drop_at N (32 ∷ 61 ∷ 32 ∷ (H ++ (59 ∷ 10 ∷ R))) n refl in
    let e2 : drop (c + n + 1) text ≡ 61 ∷ 32 ∷ (H ++ (59 ∷ 10 ∷ R)) = next_drop text (c + n) 32 (61 ∷ 32 ∷ (H ++ (59 ∷ 10 ∷ R))) e1 in
    let e3 : drop (c + n + 1 + 1) text ≡ 32 ∷ (H ++ (59 ∷ 10 ∷ R)) = next_drop text (c + n + 1) 61 (32 ∷ (H ++ (59 ∷ 10 ∷ R))) e2 in
    let e4 : drop (c + n + 1 + 1 + 1) text ≡ H ++ (59 ∷ 10 ∷ R) = next_drop text (c + n + 1 + 1) 32 (H ++ (59 ∷ 10 ∷ R)) e3 in
    let e5 : drop (c + n + 1 + 1 + 1 + h) text ≡ 59 ∷ 10 ∷ R = sym (drop-drop h (c + n + 1 + 1 + 1) text) ∙ ap (drop h) e4 ∙ drop_at H (59 ∷ 10 ∷ R) h refl in
    let e6 : drop (c + n + 1 + 1 + 1 + h + 1) text ≡ 10 ∷ R = next_drop text (c + n + 1 + 1 + 1 + h) 59 (10 ∷ R) e5 in
    let e7 : drop (c + n + 1 + 1 + 1 + h + 1 + 1) text ≡ R = next_drop text (c + n + 1 + 1 + 1 + h + 1) 10 R e6 in
    let size : length text - c ≡ n + (3 + (h + (2 + length R))) = omega (arith, sym (length-drop c text) ∙ ap length e0, length-append N (32 ∷ 61 ∷ 32 ∷ (H ++ (59 ∷ 10 ∷ R))), length-append H (59 ∷ 10 ∷ R)) in
    let value = hex_number item.value spelled.1 in
    let t1 = token_at text kinds.Name c N (32 ∷ 61 ∷ 32 ∷ (H ++ (59 ∷ 10 ∷ R))) e0 (name_front N (32 ∷ 61 ∷ 32 ∷ (H ++ (59 ∷ 10 ∷ R))) spelled.0 refl) in
    let t2 = token_at text kinds.Mark (c + n + 1) (61 ∷ []) (32 ∷ (H ++ (59 ∷ 10 ∷ R))) e2 (equals_front (H ++ (59 ∷ 10 ∷ R))) in
    let t3 = token_at text kinds.Number (c + n + 1 + 1 + 1) H (59 ∷ 10 ∷ R) e4 (number_front H (59 ∷ 10 ∷ R) item.value value refl) in
    let t4 = token_at text kinds.Mark (c + n + 1 + 1 + 1 + h) (59 ∷ []) (10 ∷ R) e5 (semi_front (10 ∷ R)) in
    let g1 = one_blank text (c + n) 32 (61 ∷ 32 ∷ (H ++ (59 ∷ 10 ∷ R))) e1 refl in
    let g2 = one_blank text (c + n + 1 + 1) 32 (H ++ (59 ∷ 10 ∷ R)) e3 refl in
    let g3 = one_blank text (c + n + 1 + 1 + 1 + h + 1) 10 R e6 refl in
    let rest = read text more (c + n + 1 + 1 + 1 + h + 1 + 1) spelled.2 (omega (arith, size, le)) e7 in
    let later = gap_first text (c + n + 1 + 1 + 1 + h + 1) (c + n + 1 + 1 + 1 + h + 1 + 1) rest.tokens (length text) g3 rest.divides in
    let k1 : Lexeme = record { kind = kinds.Name; text = N; start = c; at = place_at text c } in
    let k2 : Lexeme = record { kind = kinds.Mark; text = 61 ∷ []; start = c + n + 1; at = place_at text (c + n + 1) } in
    let k3 : Lexeme = record { kind = kinds.Number; text = H; start = c + n + 1 + 1 + 1; at = place_at text (c + n + 1 + 1 + 1) } in
    let k4 : Lexeme = record { kind = kinds.Mark; text = 59 ∷ []; start = c + n + 1 + 1 + 1 + h; at = place_at text (c + n + 1 + 1 + 1 + h) } in
    let one : ConfItem = record { name = record { text = N; at = place_at text c }; value = item.value } in
    record {
      tokens = k1 ∷ k2 ∷ k3 ∷ k4 ∷ rest.tokens;
      again = one ∷ rest.again;
      divides = (nothing, t1, (g1, t2, (g2, t3, (nothing, t4, later))));
      reads = record {
        left = k1 ∷ k2 ∷ k3 ∷ k4 ∷ [];
        right = rest.tokens;
        parts = refl;
        first = record { name = k1; equals = k2; number = k3; semi = k4; parts = refl; is_name = record { kind = refl; text_is = refl; at_is = refl }; is_equals = record { kind = refl; text_is = refl }; is_number = record { kind = refl; value = value }; is_semi = record { kind = refl; text_is = refl } };
        second = rest.reads;
      };
      same = ap (λ (l : List Setting). record { name = N; value = item.value } ∷ l) rest.same;
    }

abbrev setting_name : Setting → List ℕ
setting_name s = s.name

names_by : (conf : List ConfItem) → names conf ≡ map setting_name (settings_of conf)
names_by [] = refl
names_by (item ∷ more) = ap (λ (l : List (List ℕ)). item.name.text ∷ l) (names_by more)

pub read_again : (conf : List ConfItem) (text : List ℕ) → AreNames conf → text ≡ conf_bytes conf → IsConfText conf text
read_again conf text n e =
    let r = read text conf 0 n.spelled (omega arith) e in
    let same_names : names r.again ≡ names conf = names_by r.again ∙ ap (map setting_name) r.same ∙ sym (names_by conf) in
    record {
      tokens = r.tokens;
      again = r.again;
      are = r.divides;
      is = record { reads = r.reads; distinct = subst (IsDistinct bytes_eq) (sym same_names) n.distinct };
      same = r.same;
    }

pub ok_again : {E : Type 0} (conf : List ConfItem) (r : Result (List ℕ) E) → AreNames conf → IfOk r (λ t. t ≡ conf_bytes conf) → IfOk r (IsConfText conf)
ok_again conf (Ok text) n e = read_again conf text n e
ok_again conf (Err x) n e = tt
