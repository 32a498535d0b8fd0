-- What stands at the front of a text: each kind of piece, and that there is at most one.
use Rattle.std.proofs.Common.{◌≡◌, ◌≢◌, ℕ, zero, suc, ◌+◌, ◌-◌, ◌<◌, ◌≤◌, inl, inr, Bool, true, false, cond, eqb, List, [], ◌∷◌, length, take, get_or, Option, Some, None, refl, sym, ap, subst, ◌∙◌, arith}
use Rattle.std.specs.Prelude.{◌&&◌, ◌^◌, nat_lt, IsSome, is_some}
use Rattle.std.specs.List.{list_all, prefix_len}
use Rattle.std.specs.Char.{is_digit}
use Rattle.std.specs.Str.Parse.{digits_value}
use Rattle.std.specs.Str.{bytes_eq, IsCharBoundary}
use Rattle.std.specs.Cmp.Lexicographic.{bytes_decides}
use Rattle.std.proofs.iter.FirstChar.{beside_ascii}
use Rattle.std.proofs.Common.{IsUtf8}
use Rattle.std.proofs.lemmas.Bool.{eqb-true, and_parts, both_ways, cases_lt, false_from_ne_true}
use Rattle.std.proofs.lemmas.Bool.Decides.{nat_tests}
use Rattle.std.proofs.lemmas.List.{length-take-le, get_or-take}
use Rattle.std.proofs.lemmas.List.Sums.{prefix_len-le-length, prefix_len_passes, prefix_len_stops, prefix_len_is}
use Rattle.dap_base.specs.Number.{number_value, digits_number, after_zero, marks_hexadecimal}
use Rattle.expr_grammar.specs.declared.token.TokenKind.{TokenKind}
use Rattle.expr_grammar.specs.declared.token.TokenKind.TheVariants as kinds
use Rattle.expr_grammar.specs.Spelling.{is_letter, is_word, is_single, is_pair, keyword, IsMarkText, single, pair, var, IsTokenText}
use Rattle.expr_grammar.specs.Lexing.{is_blank, begins_line_comment, begins_block_comment, IsGapFront, blank, line, block, IsTokenFront, IsStuck}
use Rattle.expr_grammar.specs.Front.{IsCut}
use Rattle.function_table.specs.Format.{is_decimal}

abbrev pub first : List ℕ → ℕ
first bs = get_or bs 0 0

-- ---- bytes

hexadecimal_word : (c : ℕ) → is_digit c 16 ≡ true → is_word c ≡ true
hexadecimal_word c e = grind (arith, nat_tests)

decimal_word : (c : ℕ) → is_digit c 10 ≡ true → is_word c ≡ true
decimal_word c e = grind (arith, nat_tests)

decimal_first : (c : ℕ) → is_digit c 10 ≡ true → is_decimal c ≡ true
decimal_first c e = grind (arith, nat_tests)

x_word : (c : ℕ) → marks_hexadecimal c ≡ true → is_word c ≡ true
x_word c e = grind (arith, nat_tests)

pub decimal_is_word : (c : ℕ) → is_decimal c ≡ true → is_word c ≡ true
decimal_is_word c e = grind (arith, nat_tests)

pub letter_is_word : (c : ℕ) → is_letter c ≡ true → is_word c ≡ true
letter_is_word c e = grind (arith, nat_tests)

word_ascii : (c : ℕ) → is_word c ≡ true → c < 128
word_ascii c e = grind (arith, nat_tests)

pub blank_ascii : (c : ℕ) → is_blank c ≡ true → c < 128
blank_ascii c e = grind (arith, nat_tests)

decimal_no_letter : (c : ℕ) → is_decimal c ≡ true → is_letter c ≡ false
decimal_no_letter c e = grind (arith, nat_tests)

pub single_no_word : (c : ℕ) → is_single c ≡ true → is_word c ≡ false
single_no_word c e = grind (arith, nat_tests)

pub pair_no_word : (a b : ℕ) → is_pair a b ≡ true → is_word a ≡ false
pair_no_word a b e = grind (arith, nat_tests)

pub single_ascii : (c : ℕ) → is_single c ≡ true → c < 128
single_ascii c e = grind (arith, nat_tests)

pub pair_ascii : (a b : ℕ) → is_pair a b ≡ true → b < 128
pair_ascii a b e = grind (arith, nat_tests)

pub single_no_quote : (c : ℕ) → is_single c ≡ true → eqb c 34 ≡ false
single_no_quote c e = grind (arith, nat_tests)

pub pair_no_quote : (a b : ℕ) → is_pair a b ≡ true → eqb a 34 ≡ false
pair_no_quote a b e = grind (arith, nat_tests)

pub single_no_blank : (c : ℕ) → is_single c ≡ true → is_blank c ≡ false
single_no_blank c e = grind (arith, nat_tests)

pub pair_no_blank : (a b : ℕ) → is_pair a b ≡ true → is_blank a ≡ false
pair_no_blank a b e = grind (arith, nat_tests)

-- ---- lists of bytes that pass a test

list_all_by : (p q : ℕ → Bool) → ((c : ℕ) → p c ≡ true → q c ≡ true) → (bs : List ℕ) → list_all p bs ≡ true → list_all q bs ≡ true
list_all_by p q h [] e = refl
list_all_by p q h (b ∷ bs) e =
    let two = and_parts (p b) (list_all p bs) e in
    rw (h b two.0, list_all_by p q h bs two.1) refl

pub list_all_get : (p : ℕ → Bool) (bs : List ℕ) → list_all p bs ≡ true → (k : ℕ) → k < length bs → p (get_or bs k 0) ≡ true
list_all_get p [] e k lt = absurd (omega arith)
list_all_get p (b ∷ bs) e zero lt = (and_parts (p b) (list_all p bs) e).0
list_all_get p (b ∷ bs) e (suc k) lt = list_all_get p bs (and_parts (p b) (list_all p bs) e).1 k (omega arith)

list_all_run_by : (p : ℕ → Bool) (b : ℕ) (bs : List ℕ) → list_all p (take (prefix_len p bs) bs) ≡ true → (v : Bool) → p b ≡ v → list_all p (take (cond v (1 + prefix_len p bs) 0) (b ∷ bs)) ≡ true
list_all_run_by p b bs h true is = let one : 1 + prefix_len p bs ≡ suc (prefix_len p bs) = omega arith in rw (one, is, h) refl
list_all_run_by p b bs h false is = refl

pub list_all_run : (p : ℕ → Bool) (bs : List ℕ) → list_all p (take (prefix_len p bs) bs) ≡ true
list_all_run p [] = refl
list_all_run p (b ∷ bs) = list_all_run_by p b bs (list_all_run p bs) (p b) refl

pub run_pos : (p : ℕ → Bool) (bs : List ℕ) → p 0 ≡ false → p (first bs) ≡ true → 0 < prefix_len p bs
run_pos p [] non is = absurd (both_ways (p 0) non is)
run_pos p (b ∷ bs) non is = rw is (omega arith)

pub some_bytes : (p : ℕ → Bool) (bs : List ℕ) → p 0 ≡ false → p (first bs) ≡ true → 0 < length bs
some_bytes p [] non is = absurd (both_ways (p 0) non is)
some_bytes p (b ∷ bs) non is = omega arith

-- ---- how each kind of token is spelled

pub record NumberShape (t : List ℕ) : Type 0 where
  pub digit : is_decimal (first t) ≡ true
  pub words : list_all is_word t ≡ true

abbrev some : ℕ → Option ℕ
some n = Some n

none_some : (n : ℕ) → None ≡ some n → ⊥
none_some n e = cc

digits_pass : (radix d : ℕ) (ds : List ℕ) (v : ℕ) (b : Bool) → (list_all (λ c. is_digit c radix) (d ∷ ds) && nat_lt (digits_value radix (d ∷ ds)) (2 ^ 64)) ≡ b → cond b (some (digits_value radix (d ∷ ds))) None ≡ Some v → list_all (λ c. is_digit c radix) (d ∷ ds) ≡ true
digits_pass radix d ds v true is e = (and_parts (list_all (λ c. is_digit c radix) (d ∷ ds)) (nat_lt (digits_value radix (d ∷ ds)) (2 ^ 64)) is).0
digits_pass radix d ds v false is e = absurd (none_some v e)

digits_all : (radix : ℕ) (ds : List ℕ) (v : ℕ) → digits_number radix ds ≡ Some v → list_all (λ c. is_digit c radix) ds ≡ true
digits_all radix [] v e = absurd (none_some v e)
digits_all radix (d ∷ ds) v e = digits_pass radix d ds v (list_all (λ c. is_digit c radix) (d ∷ ds) && nat_lt (digits_value radix (d ∷ ds)) (2 ^ 64)) refl e

after_zero_by : (c : ℕ) (cs : List ℕ) (v : ℕ) (b : Bool) → marks_hexadecimal c ≡ b → cond b (digits_number 16 cs) None ≡ Some v → list_all is_word (c ∷ cs) ≡ true
after_zero_by c cs v true is e = rw (x_word c is, list_all_by (λ d. is_digit d 16) is_word hexadecimal_word cs (digits_all 16 cs v e)) refl
after_zero_by c cs v false is e = absurd (none_some v e)

after_zero_words : (cs : List ℕ) (v : ℕ) → after_zero cs ≡ Some v → list_all is_word cs ≡ true
after_zero_words [] v e = refl
after_zero_words (c ∷ cs) v e = after_zero_by c cs v (marks_hexadecimal c) refl e

number_by : (c : ℕ) (cs : List ℕ) (v : ℕ) (b : Bool) → eqb c 48 ≡ b → cond b (after_zero cs) (digits_number 10 (c ∷ cs)) ≡ Some v → NumberShape (c ∷ cs)
number_by c cs v true is e =
    let zero_is : c ≡ 48 = eqb-true c 48 is in
    let shape : NumberShape (48 ∷ cs) = record { digit = refl; words = after_zero_words cs v e } in
    subst (λ (d : ℕ). NumberShape (d ∷ cs)) (sym zero_is) shape
number_by c cs v false is e =
    let all = digits_all 10 (c ∷ cs) v e in
    record { digit = decimal_first c (and_parts (is_digit c 10) (list_all (λ d. is_digit d 10) cs) all).0; words = list_all_by (λ d. is_digit d 10) is_word decimal_word (c ∷ cs) all }

number_shape : (t : List ℕ) (v : ℕ) → number_value t ≡ Some v → NumberShape t
number_shape [] v e = absurd (none_some v e)
number_shape (c ∷ cs) v e = number_by c cs v (eqb c 48) refl e

value_from : (o : Option ℕ) → IsSome o → (v : ℕ) × (o ≡ Some v)
value_from None h = absurd cc
value_from (Some v) h = (v, refl)

pub number_text : (t : List ℕ) → IsTokenText kinds.Number t → NumberShape t
number_text t h = let v = value_from (number_value t) h in number_shape t v.0 v.1

-- the kind of token that a text can be, by its first byte
abbrev pub kind_of : List ℕ → TokenKind
kind_of t = cond (is_decimal (first t)) kinds.Number (cond (eqb (first t) 34) kinds.Text (cond (is_letter (first t)) (cond (bytes_eq t keyword) kinds.Mark kinds.Name) kinds.Mark))

letter_no_quote : (c : ℕ) → is_letter c ≡ true → eqb c 34 ≡ false
letter_no_quote c e = grind (arith, nat_tests)

letter_no_decimal : (c : ℕ) → is_letter c ≡ true → is_decimal c ≡ false
letter_no_decimal c e = grind (arith, nat_tests)

pub word_parts : (c : ℕ) → is_word c ≡ false → (is_decimal c ≡ false) × (is_letter c ≡ false)
word_parts c e = (grind (arith, nat_tests), grind (arith, nat_tests))

keyword_ne : (t : List ℕ) → t ≢ keyword → bytes_eq t keyword ≡ false
keyword_ne t ne = false_from_ne_true (bytes_eq t keyword) (λ e. ne ((bytes_decides t keyword).0 e))

mark_kind : {t : List ℕ} → IsMarkText t → kinds.Mark ≡ kind_of t
mark_kind (single {a} is) = let two = word_parts a (single_no_word a is) in rw (two.0, two.1, single_no_quote a is) refl
mark_kind (pair {a} {b} is) = let two = word_parts a (pair_no_word a b is) in rw (two.0, two.1, pair_no_quote a b is) refl
mark_kind var = refl

pub kind_is : (kind : TokenKind) (t : List ℕ) → IsTokenText kind t → kind ≡ kind_of t
kind_is kinds.Number t h = rw (number_text t h).digit refl
kind_is kinds.Name t h = rw (letter_no_decimal (first t) h.first, letter_no_quote (first t) h.first, h.first, keyword_ne t h.other) refl
kind_is kinds.Text t h = let e : first t ≡ 34 = ap first h.parts in rw e refl
kind_is kinds.Mark t h = mark_kind h

-- a token that begins with a letter, a digit or `_` has nothing else
mark_words : {t : List ℕ} → IsMarkText t → is_word (first t) ≡ true → list_all is_word t ≡ true
mark_words (single {a} is) w = absurd (both_ways (is_word a) (single_no_word a is) w)
mark_words (pair {a} {b} is) w = absurd (both_ways (is_word a) (pair_no_word a b is) w)
mark_words var w = refl

pub words_of : (kind : TokenKind) (t : List ℕ) → IsTokenText kind t → is_word (first t) ≡ true → list_all is_word t ≡ true
words_of kinds.Number t h w = (number_text t h).words
words_of kinds.Name t h w = h.words
words_of kinds.Text t h w = let e : first t ≡ 34 = ap first h.parts in let other : is_word (first t) ≡ false = rw e refl in absurd (both_ways (is_word (first t)) other w)
words_of kinds.Mark t h w = mark_words h w

pub token_some : (kind : TokenKind) (t : List ℕ) → IsTokenText kind t → 0 < length t
token_some kinds.Number t h = some_bytes is_decimal t refl (number_text t h).digit
token_some kinds.Name t h = some_bytes is_letter t refl h.first
token_some kinds.Text t h = omega (arith, ap length h.parts)
token_some kinds.Mark t h = mark_some h where
  mark_some : {u : List ℕ} → IsMarkText u → 0 < length u
  mark_some (single is) = omega arith
  mark_some (pair is) = omega arith
  mark_some var = omega arith

-- ---- a run of letters, digits and `_`

module _ (bs : List ℕ) (w : is_word (first bs) ≡ true) where
  abbrev run : ℕ
  run = prefix_len is_word bs

  run_some : 0 < run
  run_some = run_pos is_word bs refl w

  run_within : run ≤ length bs
  run_within = prefix_len-le-length is_word bs

  pub first_taken : (m : ℕ) → 0 < m → first (take m bs) ≡ first bs
  first_taken m pos = get_or-take m bs 0 0 pos

  -- no token of more bytes begins here
  token_in_run : (kind : TokenKind) (m : ℕ) → m ≤ length bs → IsTokenText kind (take m bs) → m ≤ run
  token_in_run kind m le t =
      let len : length (take m bs) ≡ m = length-take-le m bs le in
      let pos : 0 < m = omega (arith, token_some kind (take m bs) t, len) in
      let head : is_word (first (take m bs)) ≡ true = ap is_word (first_taken m pos) ∙ w in
      let all = words_of kind (take m bs) t head in
      elim (cases_lt run m) [
        | inl lt ↦
            let here : is_word (get_or bs run 0) ≡ true = ap is_word (sym (get_or-take m bs run 0 lt)) ∙ list_all_get is_word (take m bs) all run (omega (arith, len)) in
            absurd (both_ways (is_word (get_or bs run 0)) (prefix_len_stops is_word bs 0 (omega arith)) here)
        | inr ge ↦ ge
      ]

  pub run_cut : IsCut run bs
  run_cut = record { some = run_some; within = run_within; edge = inr (word_ascii (get_or bs (run - 1) 0) (prefix_len_passes is_word bs (run - 1) 0 (omega (arith, run_some)))) }

  no_opening : (eqb (first bs) 47 ≡ false)
  no_opening = slash (first bs) w where
    slash : (c : ℕ) → is_word c ≡ true → eqb c 47 ≡ false
    slash c e = grind (arith, nat_tests)

  pub word_token : (kind : TokenKind) → IsTokenText kind (take run bs) → IsTokenFront kind run bs
  word_token kind t = record {
    within = run_within;
    is = t;
    longest = λ other m lt le u. absurd (omega (arith, token_in_run other m le u));
    apart = λ is lt. prefix_len_stops is_word bs 0 lt;
    no_line = rw no_opening refl;
    no_block = rw no_opening refl;
  }

pub boundary : (bs : List ℕ) (n : ℕ) → IsUtf8 bs → IsCut n bs → IsCharBoundary bs n
boundary bs n utf8 f =
    let pred : n - 1 + 1 ≡ n = omega (arith, f.some) in
    elim f.edge [
      | inl next ↦ (f.within, λ lt high. absurd (omega (arith, next lt, high)))
      | inr last ↦ subst (IsCharBoundary bs) pred (beside_ascii bs (n - 1) utf8 (omega (arith, f.some, f.within)) last).1
    ]

-- ---- numbers

pub number_cut : (bs : List ℕ) (n : ℕ) → is_decimal (first bs) ≡ true → n ≡ prefix_len is_word bs → IsCut n bs
number_cut bs n d is = subst (λ (k : ℕ). IsCut k bs) (sym is) (run_cut bs (decimal_is_word (first bs) d))

pub number_taken : (bs : List ℕ) (n v : ℕ) → is_decimal (first bs) ≡ true → n ≡ prefix_len is_word bs → number_value (take n bs) ≡ Some v → IsTokenFront kinds.Number n bs × IsCut n bs
number_taken bs n v d is e =
    let text : IsTokenText kinds.Number (take (prefix_len is_word bs) bs) = ap (λ (k : ℕ). is_some (number_value (take k bs))) (sym is) ∙ ap is_some e in
    (subst (λ (k : ℕ). IsTokenFront kinds.Number k bs) (sym is) (word_token bs (decimal_is_word (first bs) d) kinds.Number text), number_cut bs n d is)

pub no_gap_by : (bs : List ℕ) → is_blank (first bs) ≡ false → begins_line_comment bs ≡ false → begins_block_comment bs ≡ false → (n : ℕ) → IsGapFront n bs → ⊥
no_gap_by bs no_blank no_line no_block n (blank is) = both_ways (is_blank (first bs)) no_blank is
no_gap_by bs no_blank no_line no_block n (line c) = both_ways (begins_line_comment bs) no_line c.opens
no_gap_by bs no_blank no_line no_block n (block c) = both_ways (begins_block_comment bs) no_block c.opens

pub decimal_no_blank : (c : ℕ) → is_decimal c ≡ true → is_blank c ≡ false
decimal_no_blank c e = grind (arith, nat_tests)

-- digits that are no number
pub number_stuck : (bs : List ℕ) (len : ℕ) → is_decimal (first bs) ≡ true → len ≡ prefix_len is_word bs → number_value (take len bs) ≡ None → IsStuck bs
number_stuck bs len' d is_len none =
    let w = decimal_is_word (first bs) d in
    record {
      no_gap = no_gap_by bs (decimal_no_blank (first bs) d) (rw (no_opening bs w) refl) (rw (no_opening bs w) refl);
      no_token = λ kind n t.
          let len : length (take n bs) ≡ n = length-take-le n bs t.within in
          let pos : 0 < n = omega (arith, token_some kind (take n bs) t.is, len) in
          let head : first (take n bs) ≡ first bs = first_taken bs w n pos in
          let number : kind ≡ kinds.Number = kind_is kind (take n bs) t.is ∙ rw (head, d) refl in
          let all = words_of kind (take n bs) t.is (ap is_word head ∙ w) in
          let same : prefix_len is_word bs ≡ n = prefix_len_is is_word bs n 0 t.within (λ k lt. ap is_word (sym (get_or-take n bs k 0 lt)) ∙ list_all_get is_word (take n bs) all k (omega (arith, len))) (λ lt. t.apart number lt) in
          let text : IsTokenText kinds.Number (take n bs) = subst (λ (k : TokenKind). IsTokenText k (take n bs)) number t.is in
          let has : is_some (number_value (take n bs)) ≡ true = text in
          let non : is_some (number_value (take n bs)) ≡ false = ap (λ (k : ℕ). is_some (number_value (take k bs))) (sym (is_len ∙ same)) ∙ ap is_some none in
          both_ways (is_some (number_value (take n bs))) non has;
    }
