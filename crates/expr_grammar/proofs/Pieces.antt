-- Each piece that may stand at the front of a text.
use Rattle.std.proofs.Common.{◌≡◌, ◌≢◌, ℕ, zero, suc, ◌+◌, ◌-◌, ◌<◌, ◌≤◌, ◌⊎◌, inl, inr, Bool, true, false, cond, eqb, List, [], ◌∷◌, ◌++◌, length, take, drop, get_or, Option, Some, None, refl, sym, ap, subst, ◌∙◌, arith}
use Rattle.std.specs.Prelude.{◌&&◌}
use Rattle.std.specs.List.{list_all, prefix_len}
use Rattle.std.proofs.lemmas.Bool.{eqb-true, and_parts, both_ways, cases_lt}
use Rattle.std.proofs.lemmas.Bool.Decides.{nat_tests}
use Rattle.std.proofs.lemmas.List.{length-take-le, get_or-take, append_assoc, take-append-drop, take_at, get_or_at, get_or_past, length-append}
use Rattle.std.proofs.lemmas.List.Sums.{prefix_len-le-length, prefix_len_passes, prefix_len_stops}
use Rattle.expr_grammar.specs.declared.token.TokenKind.{TokenKind}
use Rattle.expr_grammar.specs.declared.token.TokenKind.TheVariants as kinds
use Rattle.expr_grammar.specs.Spelling.{is_letter, is_word, is_single, is_pair, keyword, IsMarkText, single, pair, var, IsStringText, IsTokenText}
use Rattle.expr_grammar.specs.Lexing.{is_blank, is_in_line, begins_line_comment, begins_block_comment, closes, IsGapFront, blank, line, block, IsTokenFront, IsStuck}
use Rattle.expr_grammar.specs.Front.{IsGapPiece, blanks, comment, IsCut, ClosesFirst, string_end, mark_len}
use Rattle.expr_grammar.proofs.Strings.{ends_from, ends_at}
use Rattle.expr_grammar.proofs.Fronts.{first, kind_is, token_some, no_gap_by, word_token, run_cut, run_pos, letter_is_word, list_all_run, first_taken, single_ascii, pair_ascii, blank_ascii}
use Rattle.expr_grammar.proofs.OneDivision.{slash_no_blank}
use Rattle.function_table.specs.Format.{is_decimal}

-- ---- names and the keyword

pub word_taken : (bs : List ℕ) (n : ℕ) (kind : TokenKind) → is_letter (first bs) ≡ true → n ≡ prefix_len is_word bs → IsTokenText kind (take n bs) → IsTokenFront kind n bs × IsCut n bs
word_taken bs n kind letter is text =
    let w = letter_is_word (first bs) letter in
    let here : IsTokenText kind (take (prefix_len is_word bs) bs) = subst (λ (k : ℕ). IsTokenText kind (take k bs)) is text in
    (subst (λ (k : ℕ). IsTokenFront kind k bs) (sym is) (word_token bs w kind here), subst (λ (k : ℕ). IsCut k bs) (sym is) (run_cut bs w))

pub letter_cut : (bs : List ℕ) (n : ℕ) → is_letter (first bs) ≡ true → n ≡ prefix_len is_word bs → IsCut n bs
letter_cut bs n letter is = subst (λ (k : ℕ). IsCut k bs) (sym is) (run_cut bs (letter_is_word (first bs) letter))

pub keyword_text : (t : List ℕ) → t ≡ keyword → IsTokenText kinds.Mark t
keyword_text t is = let v : IsMarkText keyword = var in subst IsMarkText (sym is) v

pub name_text : (bs : List ℕ) (n : ℕ) → is_letter (first bs) ≡ true → n ≡ prefix_len is_word bs → take n bs ≢ keyword → IsTokenText kinds.Name (take n bs)
name_text bs n letter is other =
    let w = letter_is_word (first bs) letter in
    let pos : 0 < n = omega (arith, is, run_pos is_word bs refl w) in
    record {
      first = ap is_letter (first_taken bs w n pos) ∙ letter;
      words = ap (λ (k : ℕ). list_all is_word (take k bs)) is ∙ list_all_run is_word bs;
      other = other;
    }

-- ---- strings

quote_parts : (bs : List ℕ) → first bs ≡ 34 → bs ≡ 34 ∷ drop 1 bs
quote_parts [] e = absurd (omega (arith, e))
quote_parts (b ∷ bs) e = ap (λ (c : ℕ). c ∷ bs) e

-- what begins with a quote is a string
pub text_kind : (kind : TokenKind) (t : List ℕ) → first t ≡ 34 → IsTokenText kind t → kind ≡ kinds.Text
text_kind kind t e h = kind_is kind t h ∙ rw e refl

first_take : (bs : List ℕ) (m : ℕ) → 0 < m → first (take m bs) ≡ first bs
first_take bs m pos = get_or-take m bs 0 0 pos

taken_some : (kind : TokenKind) (bs : List ℕ) (m : ℕ) → m ≤ length bs → IsTokenText kind (take m bs) → 0 < m
taken_some kind bs m le t = omega (arith, token_some kind (take m bs) t, length-take-le m bs le)

-- a string of m bytes at the front is what the search finds
pub string_found : (bs : List ℕ) (m : ℕ) → m ≤ length bs → IsStringText (take m bs) → string_end false (drop 1 bs) ≡ Some (m - 1)
string_found bs m le s =
    let size : m ≡ length s.body + 2 = omega (arith, sym (length-take-le m bs le), ap length s.parts, length-append s.body (34 ∷ [])) in
    let whole : bs ≡ 34 ∷ (s.body ++ 34 ∷ drop m bs) = sym (take-append-drop m bs) ∙ ap (λ (l : List ℕ). l ++ drop m bs) s.parts ∙ ap (λ (l : List ℕ). 34 ∷ l) (append_assoc s.body (34 ∷ []) (drop m bs)) in
    ap (λ (l : List ℕ). string_end false (drop 1 l)) whole ∙ ends_at s.quoted (drop m bs) ∙ ap (λ (k : ℕ). Some k) (omega (arith, size))

-- any token at the front of what begins with a quote
any_string : (bs : List ℕ) → first bs ≡ 34 → (kind : TokenKind) (m : ℕ) → m ≤ length bs → IsTokenText kind (take m bs) → (0 < m) × (string_end false (drop 1 bs) ≡ Some (m - 1))
any_string bs e kind m le t =
    let pos = taken_some kind bs m le t in
    let text : kind ≡ kinds.Text = text_kind kind (take m bs) (first_take bs m pos ∙ e) t in
    (pos, string_found bs m le (subst (λ (k : TokenKind). IsTokenText k (take m bs)) text t))

abbrev some : ℕ → Option ℕ
some n = Some n

some_is : (n m : ℕ) → some n ≡ some m → n ≡ m
some_is n m e = cc

none_some : (n : ℕ) → None ≡ some n → ⊥
none_some n e = cc

quote_no_blank : (c : ℕ) → c ≡ 34 → is_blank c ≡ false
quote_no_blank c e = grind (arith, nat_tests)

quote_no_slash : (c : ℕ) → c ≡ 34 → eqb c 47 ≡ false
quote_no_slash c e = grind (arith, nat_tests)

pub string_taken : (bs : List ℕ) (k : ℕ) → first bs ≡ 34 → string_end false (drop 1 bs) ≡ Some k → IsTokenFront kinds.Text (k + 1) bs × IsCut (k + 1) bs
string_taken bs k e found =
    let f = ends_from (drop 1 bs) k found in
    let whole : bs ≡ 34 ∷ (f.body ++ 34 ∷ f.rest) = quote_parts bs e ∙ ap (λ (l : List ℕ). 34 ∷ l) f.parts in
    let open_ = 34 ∷ f.body in
    let long : length bs ≡ 1 + (length f.body + suc (length f.rest)) = omega (arith, ap length whole, length-append f.body (34 ∷ f.rest)) in
    let split : bs ≡ (34 ∷ (f.body ++ 34 ∷ [])) ++ f.rest = whole ∙ ap (λ (l : List ℕ). 34 ∷ l) (sym (append_assoc f.body (34 ∷ []) f.rest)) in
    let size : length (34 ∷ (f.body ++ 34 ∷ [])) ≡ k + 1 = omega (arith, f.size, length-append f.body (34 ∷ [])) in
    let taken : take (k + 1) bs ≡ 34 ∷ (f.body ++ 34 ∷ []) = ap (take (k + 1)) split ∙ take_at (34 ∷ (f.body ++ 34 ∷ [])) f.rest (k + 1) size in
    let last : get_or bs (k + 1 - 1) 0 ≡ 34 = ap (λ (l : List ℕ). get_or l (k + 1 - 1) 0) whole ∙ get_or_at open_ 34 f.rest 0 (k + 1 - 1) (omega (arith, f.size)) in (
      record {
        within = omega (arith, long, f.size);
        is = record { body = f.body; parts = taken; quoted = f.quoted };
        longest = λ other m lt le t. let s = any_string bs e other m le t in let same : k ≡ m - 1 = some_is k (m - 1) (sym found ∙ s.1) in absurd (omega (arith, lt, s.0, same));
        apart = λ is. absurd cc;
        no_line = rw (quote_no_slash (first bs) e) refl;
        no_block = rw (quote_no_slash (first bs) e) refl;
      },
      record { some = omega arith; within = omega (arith, long, f.size); edge = inr (omega (arith, last)) },
    )

pub string_stuck : (bs : List ℕ) → first bs ≡ 34 → string_end false (drop 1 bs) ≡ None → IsStuck bs
string_stuck bs e none = record {
  no_gap = no_gap_by bs (quote_no_blank (first bs) e) (rw (quote_no_slash (first bs) e) refl) (rw (quote_no_slash (first bs) e) refl);
  no_token = λ kind n t. none_some (n - 1) (sym none ∙ (any_string bs e kind n t.within t.is).1);
}

-- ---- comments

-- an index whose byte is not 0 is within
pub within_by : (bs : List ℕ) (k c : ℕ) → get_or bs k 0 ≡ suc c → k < length bs
within_by bs k c e =
    elim (cases_lt k (length bs)) [
      | inl lt ↦ lt
      | inr ge ↦ absurd (omega (arith, e, get_or_past bs k 0 ge))
    ]

pub block_taken : (bs : List ℕ) (n : ℕ) → begins_block_comment bs ≡ true → ClosesFirst bs (Some n) → IsGapPiece n bs × IsCut n bs
block_taken bs n opens c =
    let ends = and_parts (eqb (get_or bs c.0 0) 42) (eqb (get_or bs (c.0 + 1) 0) 47) c.3 in
    let last : get_or bs (c.0 + 1) 0 ≡ 47 = eqb-true (get_or bs (c.0 + 1) 0) 47 ends.1 in
    let in_ : c.0 + 1 < length bs = within_by bs (c.0 + 1) 46 last in
    let at : n - 1 ≡ c.0 + 1 = omega (arith, c.2) in (
      comment (block (record { close = c.0; opens = opens; after = c.1; inside = c.4; ends = c.3; size = c.2 })),
      record { some = omega (arith, c.2); within = omega (arith, c.2, in_); edge = inr (omega (arith, last, ap (λ (k : ℕ). get_or bs k 0) at)) },
    )

second_is : (a b : Bool) (c : ℕ) → (a && eqb c 42) ≡ true → (a && eqb c 47) ≡ true → ⊥
second_is a b c p q =
    let x = eqb-true c 42 (and_parts a (eqb c 42) p).1 in
    let y = eqb-true c 47 (and_parts a (eqb c 47) q).1 in
    absurd (omega (arith, x, y))

pub block_stuck : (bs : List ℕ) → begins_block_comment bs ≡ true → ClosesFirst bs None → IsStuck bs
block_stuck bs opens never = record { no_gap = no_gap; no_token = λ kind n t. both_ways (begins_block_comment bs) t.no_block opens } where
  no_gap : (n : ℕ) → IsGapFront n bs → ⊥
  no_gap n (blank is) = both_ways (is_blank (first bs)) (slash_no_blank (first bs) (and_parts (eqb (first bs) 47) (eqb (get_or bs 1 0) 42) opens).0) is
  no_gap n (line c) = second_is (eqb (first bs) 47) true (get_or bs 1 0) opens c.opens
  no_gap n (block c) = both_ways (closes bs c.close) (never c.close c.after) c.ends

line_end : (c : ℕ) → is_in_line c ≡ false → c ≡ 10
line_end c e = grind (arith, nat_tests)

slash_in_line : (c : ℕ) → eqb c 47 ≡ true → is_in_line c ≡ true
slash_in_line c e = grind (arith, nat_tests)

front_pos : (p : ℕ → Bool) (bs : List ℕ) → 0 < length bs → p (first bs) ≡ true → 0 < prefix_len p bs
front_pos p [] pos is = absurd (omega arith)
front_pos p (b ∷ bs) pos is = rw is (omega arith)

pub line_taken : (bs : List ℕ) (n : ℕ) → begins_line_comment bs ≡ true → n ≡ prefix_len is_in_line bs → 0 < length bs → IsGapPiece n bs × IsCut n bs
line_taken bs n opens is pos =
    let here : IsGapPiece (prefix_len is_in_line bs) bs × IsCut (prefix_len is_in_line bs) bs = (
      comment (line (record { opens = opens; within = prefix_len-le-length is_in_line bs; inside = λ k lt. prefix_len_passes is_in_line bs k 0 lt; ends = λ lt. prefix_len_stops is_in_line bs 0 lt })),
      record {
        some = front_pos is_in_line bs pos (slash_in_line (first bs) (and_parts (eqb (first bs) 47) (eqb (get_or bs 1 0) 47) opens).0);
        within = prefix_len-le-length is_in_line bs;
        edge = inl (λ lt. omega (arith, line_end (get_or bs (prefix_len is_in_line bs) 0) (prefix_len_stops is_in_line bs 0 lt)));
      },
    ) in
    subst (λ (k : ℕ). IsGapPiece k bs × IsCut k bs) (sym is) here

pub blank_taken : (bs : List ℕ) (n : ℕ) → is_blank (first bs) ≡ true → n ≡ prefix_len is_blank bs → 0 < length bs → IsGapPiece n bs × IsCut n bs
blank_taken bs n first_is is pos =
    let some = front_pos is_blank bs pos first_is in
    let here : IsGapPiece (prefix_len is_blank bs) bs × IsCut (prefix_len is_blank bs) bs = (
      blanks some (λ k lt. prefix_len_passes is_blank bs k 0 lt),
      record {
        some = some;
        within = prefix_len-le-length is_blank bs;
        edge = inr (blank_ascii (get_or bs (prefix_len is_blank bs - 1) 0) (prefix_len_passes is_blank bs (prefix_len is_blank bs - 1) 0 (omega (arith, some))));
      },
    ) in
    subst (λ (k : ℕ). IsGapPiece k bs × IsCut k bs) (sym is) here

-- ---- marks

mark_cases : {t : List ℕ} → IsMarkText t → is_letter (first t) ≡ false → ((length t ≡ 1) × (is_single (get_or t 0 0) ≡ true)) ⊎ ((length t ≡ 2) × (is_pair (get_or t 0 0) (get_or t 1 0) ≡ true))
mark_cases (single is) l = inl (refl, is)
mark_cases (pair is) l = inr (refl, is)
mark_cases var l = absurd cc

-- what begins as no other piece does
record Plain (bs : List ℕ) : Type 0 where
  blank : is_blank (first bs) ≡ false
  line : begins_line_comment bs ≡ false
  block : begins_block_comment bs ≡ false
  digit : is_decimal (first bs) ≡ false
  letter : is_letter (first bs) ≡ false
  quote : eqb (first bs) 34 ≡ false

any_mark : (bs : List ℕ) → Plain bs → (kind : TokenKind) (m : ℕ) → m ≤ length bs → IsTokenText kind (take m bs)
    → ((m ≡ 1) × (is_single (get_or bs 0 0) ≡ true)) ⊎ ((m ≡ 2) × (is_pair (get_or bs 0 0) (get_or bs 1 0) ≡ true))
any_mark bs p kind m le t =
    let len : length (take m bs) ≡ m = length-take-le m bs le in
    let pos = taken_some kind bs m le t in
    let head : first (take m bs) ≡ first bs = first_take bs m pos in
    let is : kind ≡ kinds.Mark = kind_is kind (take m bs) t ∙ rw (head, p.digit, p.quote, p.letter) refl in
    let text : IsMarkText (take m bs) = subst (λ (k : TokenKind). IsTokenText k (take m bs)) is t in
    elim (mark_cases text (ap is_letter head ∙ p.letter)) [
      | inl one ↦ inl (sym len ∙ one.0, ap is_single (sym head) ∙ one.1)
      | inr two ↦
          let size : m ≡ 2 = sym len ∙ two.0 in
          let second : get_or (take m bs) 1 0 ≡ get_or bs 1 0 = get_or-take m bs 1 0 (omega (arith, size)) in
          inr (size, rw (head, second) at two.1)
    ]

mark_front : (bs : List ℕ) → Plain bs → (n : ℕ) → n ≤ length bs → IsMarkText (take n bs) → ((m : ℕ) → n < m → m ≤ length bs → (m ≡ 1) ⊎ ((m ≡ 2) × (is_pair (get_or bs 0 0) (get_or bs 1 0) ≡ true)) → ⊥) → IsTokenFront kinds.Mark n bs
mark_front bs p n le text no_more = record {
  within = le;
  is = text;
  longest = λ other m lt le2 t. elim (any_mark bs p other m le2 t) [ inl one ↦ no_more m lt le2 (inl one.0) | inr two ↦ no_more m lt le2 (inr two) ];
  apart = λ is. absurd cc;
  no_line = p.line;
  no_block = p.block;
}

abbrev Taken : ℕ → List ℕ → Type 0
Taken n bs = IsTokenFront kinds.Mark n bs × IsCut n bs

one_taken : (bs : List ℕ) → Plain bs → 0 < length bs → is_single (get_or bs 0 0) ≡ true → (2 ≤ length bs → is_pair (get_or bs 0 0) (get_or bs 1 0) ≡ false) → Taken 1 bs
one_taken [] p pos is no_pair = absurd (omega arith)
one_taken (a ∷ bs) p pos is no_pair = (
  mark_front (a ∷ bs) p 1 pos (single is) (λ m lt le which. elim which [ inl one ↦ absurd (omega (arith, one)) | inr two ↦ both_ways (is_pair a (get_or (a ∷ bs) 1 0)) (no_pair (omega (arith, le, two.0))) two.1 ]),
  record { some = omega arith; within = pos; edge = inr (single_ascii a is) },
)

two_taken : (a b : ℕ) (bs : List ℕ) → Plain (a ∷ b ∷ bs) → is_pair a b ≡ true → Taken 2 (a ∷ b ∷ bs)
two_taken a b bs p is = (
  mark_front (a ∷ b ∷ bs) p 2 (omega arith) (pair is) (λ m lt le which. elim which [ inl one ↦ absurd (omega (arith, one, lt)) | inr two ↦ absurd (omega (arith, two.0, lt)) ]),
  record { some = omega arith; within = omega arith; edge = inr (pair_ascii a b is) },
)

none_taken : (bs : List ℕ) → Plain bs → is_single (get_or bs 0 0) ≡ false → (2 ≤ length bs → is_pair (get_or bs 0 0) (get_or bs 1 0) ≡ false) → IsStuck bs
none_taken bs p no_single no_pair = record {
  no_gap = no_gap_by bs p.blank p.line p.block;
  no_token = λ kind n t.
      elim (any_mark bs p kind n t.within t.is) [
        | inl one ↦ both_ways (is_single (get_or bs 0 0)) no_single one.1
        | inr two ↦ both_ways (is_pair (get_or bs 0 0) (get_or bs 1 0)) (no_pair (omega (arith, two.0, t.within))) two.1
      ];
}

-- the longest mark, or none
abbrev MarkIs : List ℕ → ℕ → Type 0
MarkIs bs zero = IsStuck bs
MarkIs bs (suc n) = Taken (suc n) bs

single_by : (bs : List ℕ) → Plain bs → 0 < length bs → (2 ≤ length bs → is_pair (get_or bs 0 0) (get_or bs 1 0) ≡ false) → (v : Bool) → is_single (get_or bs 0 0) ≡ v → MarkIs bs (cond v 1 0)
single_by bs p pos no_pair true is = one_taken bs p pos is no_pair
single_by bs p pos no_pair false is = none_taken bs p is no_pair

pair_by : (a b : ℕ) (bs : List ℕ) → Plain (a ∷ b ∷ bs) → (v : Bool) → is_pair a b ≡ v → MarkIs (a ∷ b ∷ bs) (cond v 2 (cond (is_single a) 1 0))
pair_by a b bs p true is = two_taken a b bs p is
pair_by a b bs p false is = single_by (a ∷ b ∷ bs) p (omega arith) (λ _. is) (is_single a) refl

mark_is : (bs : List ℕ) → Plain bs → MarkIs bs (mark_len bs)
mark_is [] p = none_taken [] p refl (λ le. absurd (omega arith))
mark_is (a ∷ []) p = single_by (a ∷ []) p (omega arith) (λ le. absurd (omega arith)) (is_single a) refl
mark_is (a ∷ b ∷ bs) p = pair_by a b bs p (is_pair a b) refl

some_mark : (bs : List ℕ) (n : ℕ) → MarkIs bs n → n ≢ 0 → IsTokenFront kinds.Mark n bs × IsCut n bs
some_mark bs zero m ne = absurd (ne refl)
some_mark bs (suc n) m ne = m

module _ (bs : List ℕ) (blank : is_blank (first bs) ≡ false) (line : begins_line_comment bs ≡ false) (block : begins_block_comment bs ≡ false)
    (digit : is_decimal (first bs) ≡ false) (letter : is_letter (first bs) ≡ false) (quote : eqb (first bs) 34 ≡ false) where
  all : Plain bs
  all = record { blank = blank; line = line; block = block; digit = digit; letter = letter; quote = quote }

  pub mark_taken : (n : ℕ) → n ≡ mark_len bs → n ≢ 0 → IsTokenFront kinds.Mark n bs × IsCut n bs
  mark_taken n is ne = some_mark bs n (subst (MarkIs bs) (sym is) (mark_is bs all)) ne

  pub mark_stuck : (n : ℕ) → n ≡ mark_len bs → n ≡ 0 → IsStuck bs
  mark_stuck n is none = let h : MarkIs bs 0 = subst (MarkIs bs) (sym is ∙ none) (mark_is bs all) in h
