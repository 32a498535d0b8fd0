-- A text is divided in one way, up to its end or its first bad place.
use Rattle.std.proofs.Common.{◌≡◌, ℕ, ◌+◌, ◌<◌, inl, inr, true, false, eqb, List, [], ◌∷◌, length, take, drop, get_or, Result, Ok, Err, refl, sym, ap, subst, ◌∙◌, arith}
use Rattle.std.proofs.lemmas.Bool.{eqb-true, and_parts, both_ways, cases_order}
use Rattle.std.proofs.lemmas.Bool.Decides.{nat_tests}
use Rattle.std.proofs.lemmas.List.{length-take-le, get_or-take, drop_all}
use Rattle.dap_base.specs.declared.text.Place.{Place}
use Rattle.expr_grammar.specs.declared.token.TokenKind.{TokenKind}
use Rattle.expr_grammar.specs.declared.token.TokenKind.TheVariants as kinds
use Rattle.expr_grammar.specs.declared.token_list.TokenError.{TokenError}
use Rattle.expr_grammar.specs.declared.token_list.TokenError.TheVariants.{BadToken, OutOfMemory}
use Rattle.expr_grammar.specs.Lexeme.{Lexeme}
use Rattle.expr_grammar.specs.Spelling.{is_letter, IsMarkText, single, pair, var, IsTokenText}
use Rattle.expr_grammar.specs.Lexing.{is_blank, is_in_line, place_at, begins_line_comment, begins_block_comment, closes, IsLineComment, IsBlockComment, IsGapFront, blank, line, block, IsTokenFront, Gap, nothing, more, IsTokenOf, Divides, AreTokensOf, IsStuck, IsFirstBad, Lexes, GivesTokens, GivesBad}
use Rattle.expr_grammar.proofs.Fronts.{first, kind_is, token_some, number_text, single_no_blank, pair_no_blank, decimal_no_blank}

-- ---- one piece at a place

pub slash_no_blank : (c : ℕ) → eqb c 47 ≡ true → is_blank c ≡ false
slash_no_blank c e = grind (arith, nat_tests)

letter_no_blank : (c : ℕ) → is_letter c ≡ true → is_blank c ≡ false
letter_no_blank c e = grind (arith, nat_tests)

line_slash : (bs : List ℕ) → begins_line_comment bs ≡ true → is_blank (first bs) ≡ false
line_slash bs e = slash_no_blank (first bs) (and_parts (eqb (first bs) 47) (eqb (get_or bs 1 0) 47) e).0

block_slash : (bs : List ℕ) → begins_block_comment bs ≡ true → is_blank (first bs) ≡ false
block_slash bs e = slash_no_blank (first bs) (and_parts (eqb (first bs) 47) (eqb (get_or bs 1 0) 42) e).0

one_opening : (bs : List ℕ) → begins_line_comment bs ≡ true → begins_block_comment bs ≡ true → ⊥
one_opening bs l b =
    let x = eqb-true (get_or bs 1 0) 47 (and_parts (eqb (first bs) 47) (eqb (get_or bs 1 0) 47) l).1 in
    let y = eqb-true (get_or bs 1 0) 42 (and_parts (eqb (first bs) 47) (eqb (get_or bs 1 0) 42) b).1 in
    absurd (omega (arith, x, y))

line_longest : (bs : List ℕ) (n m : ℕ) → IsLineComment n bs → IsLineComment m bs → n < m → ⊥
line_longest bs n m c d lt = both_ways (is_in_line (get_or bs n 0)) (c.ends (omega (arith, lt, d.within))) (d.inside n lt)

one_line : (bs : List ℕ) (n m : ℕ) → IsLineComment n bs → IsLineComment m bs → n ≡ m
one_line bs n m c d =
    elim (cases_order n m) [
      | inl same ↦ same
      | inr other ↦ elim other [ inl lt ↦ absurd (line_longest bs n m c d lt) | inr gt ↦ absurd (line_longest bs m n d c gt) ]
    ]

one_block : (bs : List ℕ) (n m : ℕ) → IsBlockComment n bs → IsBlockComment m bs → n ≡ m
one_block bs n m c d =
    elim (cases_order c.close d.close) [
      | inl same ↦ omega (arith, same, c.size, d.size)
      | inr other ↦ elim other [
        | inl lt ↦ absurd (both_ways (closes bs c.close) (d.inside c.close c.after lt) c.ends)
        | inr gt ↦ absurd (both_ways (closes bs d.close) (c.inside d.close d.after gt) d.ends)
      ]
    ]

one_gap_front : (bs : List ℕ) (n m : ℕ) → IsGapFront n bs → IsGapFront m bs → n ≡ m
one_gap_front bs n m (blank a) (blank b) = refl
one_gap_front bs n m (blank a) (line c) = absurd (both_ways (is_blank (first bs)) (line_slash bs c.opens) a)
one_gap_front bs n m (blank a) (block c) = absurd (both_ways (is_blank (first bs)) (block_slash bs c.opens) a)
one_gap_front bs n m (line c) (blank a) = absurd (both_ways (is_blank (first bs)) (line_slash bs c.opens) a)
one_gap_front bs n m (block c) (blank a) = absurd (both_ways (is_blank (first bs)) (block_slash bs c.opens) a)
one_gap_front bs n m (line c) (line d) = one_line bs n m c d
one_gap_front bs n m (line c) (block d) = absurd (one_opening bs c.opens d.opens)
one_gap_front bs n m (block c) (line d) = absurd (one_opening bs d.opens c.opens)
one_gap_front bs n m (block c) (block d) = one_block bs n m c d

mark_no_blank : {t : List ℕ} → IsMarkText t → is_blank (first t) ≡ false
mark_no_blank (single {a} is) = single_no_blank a is
mark_no_blank (pair {a} {b} is) = pair_no_blank a b is
mark_no_blank var = refl

token_no_blank : (kind : TokenKind) (t : List ℕ) → IsTokenText kind t → is_blank (first t) ≡ false
token_no_blank kinds.Number t h = decimal_no_blank (first t) (number_text t h).digit
token_no_blank kinds.Name t h = letter_no_blank (first t) h.first
token_no_blank kinds.Text t h = let e : first t ≡ 34 = ap first h.parts in rw e refl
token_no_blank kinds.Mark t h = mark_no_blank h

taken_some : (bs : List ℕ) (kind : TokenKind) (n : ℕ) → IsTokenFront kind n bs → 0 < n
taken_some bs kind n t = omega (arith, token_some kind (take n bs) t.is, length-take-le n bs t.within)

gap_token : (bs : List ℕ) (n m : ℕ) (kind : TokenKind) → IsGapFront n bs → IsTokenFront kind m bs → ⊥
gap_token bs n m kind (blank a) t =
    let head : first (take m bs) ≡ first bs = get_or-take m bs 0 0 (taken_some bs kind m t) in
    both_ways (is_blank (first bs)) (ap is_blank (sym head) ∙ token_no_blank kind (take m bs) t.is) a
gap_token bs n m kind (line c) t = both_ways (begins_line_comment bs) t.no_line c.opens
gap_token bs n m kind (block c) t = both_ways (begins_block_comment bs) t.no_block c.opens

one_size : (bs : List ℕ) (j k : TokenKind) (n m : ℕ) → IsTokenFront j n bs → IsTokenFront k m bs → n ≡ m
one_size bs j k n m t u =
    elim (cases_order n m) [
      | inl same ↦ same
      | inr other ↦ elim other [ inl lt ↦ absurd (t.longest k m lt u.within u.is) | inr gt ↦ absurd (u.longest j n gt t.within t.is) ]
    ]

one_kind : (bs : List ℕ) (j k : TokenKind) (n m : ℕ) → IsTokenFront j n bs → IsTokenFront k m bs → j ≡ k
one_kind bs j k n m t u =
    let here : IsTokenText k (take n bs) = subst (λ (i : ℕ). IsTokenText k (take i bs)) (sym (one_size bs j k n m t u)) u.is in
    kind_is j (take n bs) t.is ∙ sym (kind_is k (take n bs) here)

nothing_stuck : (n : ℕ) (kind : TokenKind) → IsTokenFront kind n [] → ⊥
nothing_stuck n kind t = absurd (omega (arith, taken_some [] kind n t, t.within))

nothing_gap : (n : ℕ) → IsGapFront n [] → ⊥
nothing_gap n (blank a) = absurd cc
nothing_gap n (line c) = let e : false ≡ true = c.opens in absurd cc
nothing_gap n (block c) = let e : false ≡ true = c.opens in absurd cc

end_stuck : (text : List ℕ) → IsStuck (drop (length text) text)
end_stuck text =
    let end : drop (length text) text ≡ [] = drop_all (length text) text (omega arith) in
    subst IsStuck (sym end) (record { no_gap = nothing_gap; no_token = λ kind n t. nothing_stuck n kind t })

-- ---- one division

abbrev NoGap : List ℕ → ℕ → Type 0
NoGap text here = (n : ℕ) → IsGapFront n (drop here text) → ⊥

one_gap : {text : List ℕ} {a b c : ℕ} → Gap text a b → NoGap text b → Gap text a c → NoGap text c → b ≡ c
one_gap nothing h nothing k = refl
one_gap nothing h (more g rest) k = absurd (h _ g)
one_gap (more g rest) h nothing k = absurd (k _ g)
one_gap {text} {a} {b} {c} (more {n = n} g rest) h (more {n = m} g2 rest2) k =
    let same : m ≡ n = one_gap_front (drop a text) m n g2 g in
    one_gap rest h (subst (λ (i : ℕ). Gap text (a + i) c) same rest2) k

token_no_gap : (text : List ℕ) (t : Lexeme) → IsTokenOf text t → NoGap text t.start
token_no_gap text t is = λ n g. gap_token (drop t.start text) n (length t.text) t.kind g is.front

lexeme_same : (t u : Lexeme) → t.kind ≡ u.kind → t.text ≡ u.text → t.start ≡ u.start → t.at ≡ u.at → t ≡ u
lexeme_same t u kind text start at =
    let one : t ≡ record { kind = u.kind; text = t.text; start = t.start; at = t.at } = ap (λ (k : TokenKind). record { kind = k; text = t.text; start = t.start; at = t.at }) kind in
    let two = ap (λ (k : List ℕ). record { kind = u.kind; text = k; start = t.start; at = t.at }) text in
    let three = ap (λ (k : ℕ). record { kind = u.kind; text = u.text; start = k; at = t.at }) start in
    let four = ap (λ (k : Place). record { kind = u.kind; text = u.text; start = u.start; at = k }) at in
    one ∙ two ∙ three ∙ four

same_token : (text : List ℕ) (t u : Lexeme) → IsTokenOf text t → IsTokenOf text u → t.start ≡ u.start → t ≡ u
same_token text t u p q start =
    let moved : IsTokenFront u.kind (length u.text) (drop t.start text) = subst (λ (i : ℕ). IsTokenFront u.kind (length u.text) (drop i text)) (sym start) q.front in
    let size = one_size (drop t.start text) t.kind u.kind (length t.text) (length u.text) p.front moved in
    let kind = one_kind (drop t.start text) t.kind u.kind (length t.text) (length u.text) p.front moved in
    let text_is : t.text ≡ u.text = p.is_slice ∙ ap (λ (i : ℕ). take i (drop t.start text)) size ∙ ap (λ (i : ℕ). take (length u.text) (drop i text)) start ∙ sym q.is_slice in
    lexeme_same t u kind text_is start (p.place ∙ ap (place_at text) start ∙ sym q.place)

record Same (ts us : List Lexeme) (b c : ℕ) : Type 0 where
  tokens : ts ≡ us
  end : b ≡ c

one_division : (text : List ℕ) (a : ℕ) (ts us : List Lexeme) (b c : ℕ) → Divides text a ts b → IsStuck (drop b text) → Divides text a us c → IsStuck (drop c text) → Same ts us b c
one_division text a [] [] b c d s e r = record { tokens = refl; end = one_gap d s.no_gap e r.no_gap }
one_division text a [] (u ∷ us) b c d s e r =
    let same : b ≡ u.start = one_gap d s.no_gap e.0 (token_no_gap text u e.1) in
    absurd (s.no_token u.kind (length u.text) (subst (λ (i : ℕ). IsTokenFront u.kind (length u.text) (drop i text)) (sym same) e.1.front))
one_division text a (t ∷ ts) [] b c d s e r =
    let same : c ≡ t.start = one_gap e r.no_gap d.0 (token_no_gap text t d.1) in
    absurd (r.no_token t.kind (length t.text) (subst (λ (i : ℕ). IsTokenFront t.kind (length t.text) (drop i text)) (sym same) d.1.front))
one_division text a (t ∷ ts) (u ∷ us) b c d s e r =
    let start : t.start ≡ u.start = one_gap d.0 (token_no_gap text t d.1) e.0 (token_no_gap text u e.1) in
    let same : t ≡ u = same_token text t u d.1 e.1 start in
    let after : Divides text (t.start + length t.text) us c = subst (λ (k : Lexeme). Divides text (k.start + length k.text) us c) (sym same) e.2 in
    let rest = one_division text (t.start + length t.text) ts us b c d.2 s after r in
    record { tokens = ap (λ (l : List Lexeme). t ∷ l) rest.tokens ∙ ap (λ (k : Lexeme). k ∷ us) same; end = rest.end }

-- ---- what that says of an answer

pub one_list : (text : List ℕ) (ts us : List Lexeme) → AreTokensOf text ts → AreTokensOf text us → ts ≡ us
one_list text ts us d e = (one_division text 0 ts us (length text) (length text) d (end_stuck text) e (end_stuck text)).tokens

one_bad : (text : List ℕ) (m n : ℕ) → IsFirstBad text m → IsFirstBad text n → m ≡ n
one_bad text m n b c = (one_division text 0 b.before c.before m n b.divides b.stuck c.divides c.stuck).end

pub not_both : (text : List ℕ) (ts : List Lexeme) (n : ℕ) → AreTokensOf text ts → IsFirstBad text n → ⊥
not_both text ts n d b =
    let end : length text ≡ n = (one_division text 0 ts b.before (length text) n d (end_stuck text) b.divides b.stuck).end in
    absurd (omega (arith, end, b.within))

pub gives_tokens : (text : List ℕ) (r : Result (List Lexeme) TokenError) → Lexes text r → (ts : List Lexeme) → AreTokensOf text ts → GivesTokens ts r
gives_tokens text (Ok given) a ts d = one_list text given ts a d
gives_tokens text (Err (BadToken at)) a ts d = not_both text ts a.0 d a.1
gives_tokens text (Err OutOfMemory) a ts d = tt

pub gives_bad : (text : List ℕ) (r : Result (List Lexeme) TokenError) → Lexes text r → (n : ℕ) → IsFirstBad text n → GivesBad (place_at text n) r
gives_bad text (Ok given) a n b = not_both text given n a b
gives_bad text (Err (BadToken at)) a n b = a.2 ∙ ap (place_at text) (one_bad text a.0 n a.1 b)
gives_bad text (Err OutOfMemory) a n b = tt
