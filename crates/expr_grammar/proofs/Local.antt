-- A piece at the front of a text depends on its own bytes and on the next one alone.
use Rattle.std.proofs.Common.{◌≡◌, ℕ, zero, suc, ◌+◌, ◌-◌, ◌<◌, ◌≤◌, Bool, true, false, eqb, List, [], ◌∷◌, length, take, get_or, refl, sym, ap, subst, ◌∙◌, arith}
use Rattle.std.specs.List.{list_all}
use Rattle.std.specs.Str.{bytes_eq}
use Rattle.std.specs.Cmp.Lexicographic.{bytes_decides}
use Rattle.std.proofs.lemmas.Bool.{both_ways, eqb-true, and_parts}
use Rattle.std.proofs.lemmas.List.{length-take, length-take-le, get_or-take, take-take}
use Rattle.std.proofs.lemmas.Option.{same_Some}
use Rattle.expr_grammar.specs.declared.token.TokenKind.{TokenKind}
use Rattle.expr_grammar.specs.declared.token.TokenKind.TheVariants as kinds
use Rattle.expr_grammar.specs.Spelling.{is_letter, is_word, keyword, IsMarkText, single, pair, var, IsTokenText}
use Rattle.expr_grammar.specs.Lexing.{is_blank, is_in_line, begins_line_comment, begins_block_comment, closes, IsLineComment, IsBlockComment, IsGapFront, blank, line, block, IsTokenFront}
use Rattle.expr_grammar.specs.Moved.{SameFront}
use Rattle.expr_grammar.proofs.Fronts.{first, kind_is, token_some, words_of, list_all_get, decimal_is_word, letter_is_word, number_text, word_parts, single_no_quote, pair_no_quote, single_no_word, pair_no_word}
use Rattle.expr_grammar.proofs.Pieces.{string_found, text_kind, keyword_text, within_by}
use Rattle.function_table.specs.Format.{is_decimal}

pub same_get : (n k : ℕ) (bs cs : List ℕ) → SameFront n bs cs → k < n → get_or bs k 0 ≡ get_or cs k 0
same_get n k bs cs s lt = sym (get_or-take n bs k 0 lt) ∙ ap (λ (l : List ℕ). get_or l k 0) s ∙ get_or-take n cs k 0 lt

pub same_less : (n m : ℕ) (bs cs : List ℕ) → SameFront n bs cs → m ≤ n → SameFront m bs cs
same_less n m bs cs s le = sym (take-take m n bs le) ∙ ap (take m) s ∙ take-take m n cs le

pub same_within : (n : ℕ) (bs cs : List ℕ) → SameFront n bs cs → n ≤ length bs → n ≤ length cs
same_within n bs cs s le = omega (arith, length-take-le n bs le, ap length s, length-take n cs)

pub same_back : (n : ℕ) (bs cs : List ℕ) → SameFront n bs cs → SameFront n cs bs
same_back n bs cs s = sym s

-- ---- gaps

line_some : (n : ℕ) (bs : List ℕ) → IsLineComment n bs → 0 < n
line_some zero bs c =
    let slash : get_or bs 0 0 ≡ 47 = eqb-true (get_or bs 0 0) 47 (and_parts (eqb (get_or bs 0 0) 47) (eqb (get_or bs 1 0) 47) c.opens).0 in
    absurd (both_ways (is_in_line (get_or bs 0 0)) (c.ends (within_by bs 0 46 slash)) (rw slash refl))
line_some (suc n) bs c = omega arith

opens_line_same : (n : ℕ) (bs cs : List ℕ) → SameFront n bs cs → 2 ≤ n → begins_line_comment bs ≡ begins_line_comment cs
opens_line_same n bs cs s le = rw (same_get n 0 bs cs s (omega (arith, le)), same_get n 1 bs cs s (omega (arith, le))) refl

opens_block_same : (n : ℕ) (bs cs : List ℕ) → SameFront n bs cs → 2 ≤ n → begins_block_comment bs ≡ begins_block_comment cs
opens_block_same n bs cs s le = rw (same_get n 0 bs cs s (omega (arith, le)), same_get n 1 bs cs s (omega (arith, le))) refl

line_local : (n : ℕ) (bs cs : List ℕ) → SameFront (suc n) bs cs → IsLineComment n bs → IsLineComment n cs
line_local n bs cs s c =
    let pos = line_some n bs c in
    record {
      opens = sym (opens_line_same (suc n) bs cs s (omega (arith, pos))) ∙ c.opens;
      within = same_within n bs cs (same_less (suc n) n bs cs s (omega arith)) c.within;
      inside = λ k lt. ap is_in_line (sym (same_get (suc n) k bs cs s (omega (arith, lt)))) ∙ c.inside k lt;
      ends = λ lt. ap is_in_line (sym (same_get (suc n) n bs cs s (omega arith))) ∙ c.ends (same_within (suc n) cs bs (same_back (suc n) bs cs s) (omega (arith, lt)));
    }

closes_same : (n k : ℕ) (bs cs : List ℕ) → SameFront n bs cs → k + 1 < n → closes bs k ≡ closes cs k
closes_same n k bs cs s lt = rw (same_get n k bs cs s (omega (arith, lt)), same_get n (k + 1) bs cs s lt) refl

block_local : (n : ℕ) (bs cs : List ℕ) → SameFront (suc n) bs cs → IsBlockComment n bs → IsBlockComment n cs
block_local n bs cs s c =
    record {
      close = c.close;
      opens = sym (opens_block_same (suc n) bs cs s (omega (arith, c.size, c.after))) ∙ c.opens;
      after = c.after;
      inside = λ k le lt. sym (closes_same (suc n) k bs cs s (omega (arith, lt, c.size))) ∙ c.inside k le lt;
      ends = sym (closes_same (suc n) c.close bs cs s (omega (arith, c.size))) ∙ c.ends;
      size = c.size;
    }

-- a blank or comment of n bytes is one where the first n + 1 bytes are the same
pub gap_local : (n : ℕ) (bs cs : List ℕ) → SameFront (suc n) bs cs → IsGapFront n bs → IsGapFront n cs
gap_local n bs cs s (blank is) = blank (ap is_blank (sym (same_get 2 0 bs cs s (omega arith))) ∙ is)
gap_local n bs cs s (line c) = line (line_local n bs cs s c)
gap_local n bs cs s (block c) = block (block_local n bs cs s c)

-- ---- tokens

-- the bytes of a longer token are the next one's too
next_word : (n m : ℕ) (bs cs : List ℕ) (other : TokenKind) → SameFront (suc n) bs cs → n < m → m ≤ length cs → IsTokenText other (take m cs) → is_word (first bs) ≡ true → is_word (get_or bs n 0) ≡ true
next_word n m bs cs other s lt le t w =
    let head : first (take m cs) ≡ first bs = get_or-take m cs 0 0 (omega (arith, lt)) ∙ sym (same_get (suc n) 0 bs cs s (omega arith)) in
    let all = words_of other (take m cs) t (ap is_word head ∙ w) in
    let there : is_word (get_or (take m cs) n 0) ≡ true = list_all_get is_word (take m cs) all n (omega (arith, length-take-le m cs le, lt)) in
    ap is_word (same_get (suc n) n bs cs s (omega arith) ∙ sym (get_or-take m cs n 0 lt)) ∙ there

-- one letter, digit or `_` more
longer_words : (n : ℕ) (bs : List ℕ) → n < length bs → list_all is_word (take n bs) ≡ true → is_word (get_or bs n 0) ≡ true → list_all is_word (take (suc n) bs) ≡ true
longer_words n [] lt all w = absurd (omega (arith, lt))
longer_words zero (b ∷ bs) lt all w = rw w refl
longer_words (suc n) (b ∷ bs) lt all w =
    let two = and_parts (is_word b) (list_all is_word (take n bs)) all in
    rw (two.0, longer_words n bs (omega (arith, lt)) two.1 w) refl

longer_name : (n : ℕ) (bs : List ℕ) → n < length bs → is_letter (first bs) ≡ true → list_all is_word (take n bs) ≡ true → is_word (get_or bs n 0) ≡ true → (kind : TokenKind) × IsTokenText kind (take (suc n) bs)
longer_name n bs lt letter all w = by (bytes_eq (take (suc n) bs) keyword) refl where
  by : (v : Bool) → bytes_eq (take (suc n) bs) keyword ≡ v → (kind : TokenKind) × IsTokenText kind (take (suc n) bs)
  by true is = (kinds.Mark, keyword_text (take (suc n) bs) ((bytes_decides (take (suc n) bs) keyword).0 is))
  by false is = (
    kinds.Name,
    record {
      first = ap is_letter (get_or-take (suc n) bs 0 0 (omega arith)) ∙ letter;
      words = longer_words n bs lt all w;
      other = λ e. both_ways (bytes_eq (take (suc n) bs) keyword) is ((bytes_decides (take (suc n) bs) keyword).1 e);
    },
  )

-- a mark but the keyword has one byte or two
pub size_of_mark : {t : List ℕ} → IsMarkText t → is_letter (first t) ≡ false → length t ≤ 2
size_of_mark (single is) l = omega arith
size_of_mark (pair is) l = omega arith
size_of_mark var l = absurd cc

-- what begins with no letter, digit, `_` or quote is a mark
pub mark_by_first : (c : ℕ) → is_word c ≡ false → eqb c 34 ≡ false → (other : TokenKind) (u : List ℕ) → first u ≡ c → IsTokenText other u → IsMarkText u
mark_by_first c w quote other u head t =
    let two = word_parts c w in
    let k : other ≡ kinds.Mark = kind_is other u t ∙ rw (head, two.0, quote, two.1) refl in
    subst (λ (k : TokenKind). IsTokenText k u) k t

-- a token of one byte more
at_next : (kind : TokenKind) (n : ℕ) (bs cs : List ℕ) → SameFront (suc n) bs cs → IsTokenFront kind n bs → (other : TokenKind) (m : ℕ) → m ≡ suc n → m ≤ length cs → IsTokenText other (take m cs) → ⊥
at_next kind n bs cs s t other m is le u =
    let here : IsTokenText other (take (suc n) bs) = subst (λ (l : List ℕ). IsTokenText other l) (ap (λ (k : ℕ). take k cs) is ∙ sym s) u in
    t.longest other (suc n) (omega arith) (same_within (suc n) cs bs (sym s) (omega (arith, is, le))) here

-- a token of letters, digits and `_` that begins with a letter
words_longer : (kind : TokenKind) (n : ℕ) (bs cs : List ℕ) → SameFront (suc n) bs cs → IsTokenFront kind n bs → is_letter (first bs) ≡ true → list_all is_word (take n bs) ≡ true
    → (other : TokenKind) (m : ℕ) → n < m → m ≤ length cs → IsTokenText other (take m cs) → ⊥
words_longer kind n bs cs s t letter all other m lt le u =
    let w = next_word n m bs cs other s lt le u (letter_is_word (first bs) letter) in
    let within : suc n ≤ length bs = same_within (suc n) cs bs (sym s) (omega (arith, lt, le)) in
    let longer = longer_name n bs (omega (arith, within)) letter all w in
    t.longest longer.0 (suc n) (omega arith) within longer.1

module _ (n : ℕ) (bs cs : List ℕ) (s : SameFront (suc n) bs cs) (t : IsTokenFront kinds.Mark n bs) (pos : 0 < n) (other : TokenKind) (m : ℕ) (lt : n < m) (le : m ≤ length cs) (u : IsTokenText other (take m cs)) where
  same_first : (a : ℕ) → first (take n bs) ≡ a → first (take m cs) ≡ a
  same_first a e = get_or-take m cs 0 0 (omega (arith, lt)) ∙ sym (same_get (suc n) 0 bs cs s (omega arith)) ∙ sym (get_or-take n bs 0 0 pos) ∙ e

  at_most_two : (a : ℕ) → first (take n bs) ≡ a → is_word a ≡ false → eqb a 34 ≡ false → m ≤ 2
  at_most_two a e w quote =
      let head = same_first a e in
      let mk = mark_by_first a w quote other (take m cs) head u in
      omega (arith, size_of_mark mk (ap is_letter head ∙ (word_parts a w).1), length-take-le m cs le)

  mark_longer : {v : List ℕ} → IsMarkText v → take n bs ≡ v → ⊥
  mark_longer (single {a} is) e =
      let two = at_most_two a (ap first e) (single_no_word a is) (single_no_quote a is) in
      at_next kinds.Mark n bs cs s t other m (omega (arith, two, lt, pos)) le u
  mark_longer (pair {a} {b} is) e =
      let two = at_most_two a (ap first e) (pair_no_word a b is) (pair_no_quote a b is) in
      let size : n ≡ 2 = sym (length-take-le n bs t.within) ∙ ap length e in
      absurd (omega (arith, two, lt, size))
  mark_longer var e =
      let head : is_letter (first bs) ≡ true = ap is_letter (sym (get_or-take n bs 0 0 pos) ∙ ap first e) in
      words_longer kinds.Mark n bs cs s t head (ap (list_all is_word) e) other m lt le u

token_pos : (kind : TokenKind) (n : ℕ) (bs : List ℕ) → IsTokenFront kind n bs → 0 < n
token_pos kind n bs t = omega (arith, token_some kind (take n bs) t.is, length-take-le n bs t.within)

-- no longer token begins there
no_longer : (kind : TokenKind) (n : ℕ) (bs cs : List ℕ) → SameFront (suc n) bs cs → IsTokenFront kind n bs → (other : TokenKind) (m : ℕ) → n < m → m ≤ length cs → IsTokenText other (take m cs) → ⊥
no_longer kinds.Number n bs cs s t other m lt le u =
    let pos = token_pos kinds.Number n bs t in
    let digit : is_decimal (first bs) ≡ true = ap is_decimal (sym (get_or-take n bs 0 0 pos)) ∙ (number_text (take n bs) t.is).digit in
    let w = next_word n m bs cs other s lt le u (decimal_is_word (first bs) digit) in
    let within : suc n ≤ length bs = same_within (suc n) cs bs (sym s) (omega (arith, lt, le)) in
    both_ways (is_word (get_or bs n 0)) (t.apart refl (omega (arith, within))) w
no_longer kinds.Name n bs cs s t other m lt le u =
    let pos = token_pos kinds.Name n bs t in
    let letter : is_letter (first bs) ≡ true = ap is_letter (sym (get_or-take n bs 0 0 pos)) ∙ t.is.first in
    words_longer kinds.Name n bs cs s t letter t.is.words other m lt le u
no_longer kinds.Text n bs cs s t other m lt le u =
    let pos = token_pos kinds.Text n bs t in
    let quote : first bs ≡ 34 = sym (get_or-take n bs 0 0 pos) ∙ ap first t.is.parts in
    let head : first (take m cs) ≡ 34 = get_or-take m cs 0 0 (omega (arith, lt)) ∙ sym (same_get (suc n) 0 bs cs s (omega arith)) ∙ quote in
    let k : other ≡ kinds.Text = text_kind other (take m cs) head u in
    let far = string_found cs m le (subst (λ (k : TokenKind). IsTokenText k (take m cs)) k u) in
    let near = string_found cs n (omega (arith, lt, le)) (subst (λ (l : List ℕ). IsTokenText kinds.Text l) (same_less (suc n) n bs cs s (omega arith)) t.is) in
    let same : n - 1 ≡ m - 1 = same_Some (n - 1) (m - 1) (sym near ∙ far) in
    absurd (omega (arith, same, pos, lt))
no_longer kinds.Mark n bs cs s t other m lt le u = mark_longer n bs cs s t (token_pos kinds.Mark n bs t) other m lt le u t.is refl

-- a token of n bytes is one where the first n + 1 bytes are the same
pub token_local : (kind : TokenKind) (n : ℕ) (bs cs : List ℕ) → SameFront (suc n) bs cs → IsTokenFront kind n bs → IsTokenFront kind n cs
token_local kind n bs cs s t =
    let pos = token_pos kind n bs t in
    record {
      within = same_within n bs cs (same_less (suc n) n bs cs s (omega arith)) t.within;
      is = subst (λ (l : List ℕ). IsTokenText kind l) (same_less (suc n) n bs cs s (omega arith)) t.is;
      longest = no_longer kind n bs cs s t;
      apart = λ is lt. ap is_word (sym (same_get (suc n) n bs cs s (omega arith))) ∙ t.apart is (omega (arith, same_within (suc n) cs bs (sym s) (omega (arith, lt))));
      no_line = sym (opens_line_same (suc n) bs cs s (omega (arith, pos))) ∙ t.no_line;
      no_block = sym (opens_block_same (suc n) bs cs s (omega (arith, pos))) ∙ t.no_block;
    }
