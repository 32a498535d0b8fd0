-- From the front of a text that is not empty a piece can be taken, or none can.
use Rattle.std.proofs.Common.{◌≡◌, inl, inr, ℕ, zero, suc, ◌+◌, ◌<◌, Bool, true, false, eqb, List, length, take, drop, get_or, Option, Some, None, refl, sym, arith}
use Rattle.std.specs.List.{prefix_len}
use Rattle.std.specs.Str.{bytes_eq}
use Rattle.std.specs.Cmp.Lexicographic.{bytes_decides, same_text}
use Rattle.std.proofs.lemmas.Bool.{and_parts, both_ways, cases_lt, eqb-true, false_from_ne_true}
use Rattle.std.proofs.lemmas.List.{get_or_past}
use Rattle.dap_base.specs.Number.{number_value}
use Rattle.expr_grammar.specs.declared.token.TokenKind.TheVariants as kinds
use Rattle.expr_grammar.specs.declared.front.Piece.{Piece}
use Rattle.expr_grammar.specs.declared.front.Piece.TheVariants.{Gap, Token}
use Rattle.expr_grammar.specs.Spelling.{is_letter, is_word, keyword}
use Rattle.expr_grammar.specs.Lexing.{is_blank, is_in_line, begins_line_comment, begins_block_comment, closes}
use Rattle.expr_grammar.specs.Front.{FrontIs, ClosesFirst, string_end, mark_len}
use Rattle.expr_grammar.proofs.Fronts.{first, number_taken, number_stuck}
use Rattle.expr_grammar.proofs.Pieces.{word_taken, keyword_text, name_text, string_taken, string_stuck, block_taken, block_stuck, line_taken, blank_taken, mark_taken, mark_stuck}
use Rattle.dap_base.proofs.Least.{Decided, least}
use Rattle.function_table.specs.Format.{is_decimal}

-- ---- where a comment is closed

closes_decided : (bs : List ℕ) (k : ℕ) → Decided (closes bs k ≡ true)
closes_decided bs k = by (closes bs k) refl where
  by : (b : Bool) → closes bs k ≡ b → Decided (closes bs k ≡ true)
  by true is = inl is
  by false is = inr (λ other. both_ways (closes bs k) is other)

-- past the end nothing is closed
closes_within : (bs : List ℕ) (k : ℕ) → closes bs k ≡ true → k < length bs
closes_within bs k is = elim (cases_lt k (length bs)) [
  | inl lt ↦ lt
  | inr ge ↦
      let star : get_or bs k 0 ≡ 42 = eqb-true (get_or bs k 0) 42 (and_parts (eqb (get_or bs k 0) 42) (eqb (get_or bs (k + 1) 0) 47) is).0 in
      absurd (omega (arith, star, get_or_past bs k 0 ge))
]

closing : (bs : List ℕ) → (o : Option ℕ) × ClosesFirst bs o
closing bs = elim (least (λ k. closes bs k ≡ true) (closes_decided bs) (length bs) 2) [
  | inl l ↦ (Some (l.at + 2), (l.at, l.low, refl, l.holds, λ j ge lt. false_from_ne_true (closes bs j) (l.none_before j ge lt)))
  | inr none ↦ (None, λ k ge. false_from_ne_true (closes bs k) (λ is. none k ge (omega (arith, closes_within bs k is)) is))
]

-- ---- what stands at the front

abbrev pub Front : List ℕ → Type 0
Front bs = (o : Option Piece) × FrontIs bs o

module _ (bs : List ℕ) (some : 0 < length bs) where
  number_by : is_decimal (first bs) ≡ true → (o : Option ℕ) → number_value (take (prefix_len is_word bs) bs) ≡ o → Front bs
  number_by digit None is = (None, number_stuck bs (prefix_len is_word bs) digit refl is)
  number_by digit (Some v) is = (Some (Token kinds.Number (prefix_len is_word bs)), number_taken bs (prefix_len is_word bs) v digit refl is)

  word_by : is_letter (first bs) ≡ true → (b : Bool) → bytes_eq (take (prefix_len is_word bs) bs) keyword ≡ b → Front bs
  word_by letter true is =
      let n = prefix_len is_word bs in
      (Some (Token kinds.Mark n), word_taken bs n kinds.Mark letter refl (keyword_text (take n bs) (same_text (take n bs) keyword (sym is))))
  word_by letter false is =
      let n = prefix_len is_word bs in
      (Some (Token kinds.Name n), word_taken bs n kinds.Name letter refl (name_text bs n letter refl (λ same. both_ways (bytes_eq (take n bs) keyword) is ((bytes_decides (take n bs) keyword).1 same))))

  string_by : first bs ≡ 34 → (o : Option ℕ) → string_end false (drop 1 bs) ≡ o → Front bs
  string_by quote None is = (None, string_stuck bs quote is)
  string_by quote (Some k) is = (Some (Token kinds.Text (k + 1)), string_taken bs k quote is)

  comment_by : begins_block_comment bs ≡ true → (o : Option ℕ) → ClosesFirst bs o → Front bs
  comment_by opens None never = (None, block_stuck bs opens never)
  comment_by opens (Some n) ends = (Some (Gap n), block_taken bs n opens ends)

  module _ (blank : is_blank (first bs) ≡ false) (line : begins_line_comment bs ≡ false) (block : begins_block_comment bs ≡ false) where
    mark_by : is_decimal (first bs) ≡ false → is_letter (first bs) ≡ false → eqb (first bs) 34 ≡ false → (n : ℕ) → n ≡ mark_len bs → Front bs
    mark_by digit letter quote zero is = (None, mark_stuck bs blank line block digit letter quote 0 is refl)
    mark_by digit letter quote (suc n) is = (Some (Token kinds.Mark (suc n)), mark_taken bs blank line block digit letter quote (suc n) is (λ e. absurd (omega (arith, e))))

    quote_by : is_decimal (first bs) ≡ false → is_letter (first bs) ≡ false → (b : Bool) → eqb (first bs) 34 ≡ b → Front bs
    quote_by digit letter true is = string_by (eqb-true (first bs) 34 is) (string_end false (drop 1 bs)) refl
    quote_by digit letter false is = mark_by digit letter is (mark_len bs) refl

    letter_by : is_decimal (first bs) ≡ false → (b : Bool) → is_letter (first bs) ≡ b → Front bs
    letter_by digit true is = word_by is (bytes_eq (take (prefix_len is_word bs) bs) keyword) refl
    letter_by digit false is = quote_by digit is (eqb (first bs) 34) refl

    digit_by : (b : Bool) → is_decimal (first bs) ≡ b → Front bs
    digit_by true is = number_by is (number_value (take (prefix_len is_word bs) bs)) refl
    digit_by false is = letter_by is (is_letter (first bs)) refl

  block_by : is_blank (first bs) ≡ false → begins_line_comment bs ≡ false → (b : Bool) → begins_block_comment bs ≡ b → Front bs
  block_by blank line true is = let c = closing bs in comment_by is c.0 c.1
  block_by blank line false is = digit_by blank line is (is_decimal (first bs)) refl

  line_by : is_blank (first bs) ≡ false → (b : Bool) → begins_line_comment bs ≡ b → Front bs
  line_by blank true is = (Some (Gap (prefix_len is_in_line bs)), line_taken bs (prefix_len is_in_line bs) is refl some)
  line_by blank false is = block_by blank is (begins_block_comment bs) refl

  blank_by : (b : Bool) → is_blank (first bs) ≡ b → Front bs
  blank_by true is = (Some (Gap (prefix_len is_blank bs)), blank_taken bs (prefix_len is_blank bs) is refl some)
  blank_by false is = line_by is (begins_line_comment bs) refl

  pub front : Front bs
  front = blank_by (is_blank (first bs)) refl
