-- Statements in which no token is too deep, token by token.
use Rattle.std.proofs.Common.{◌≡◌, ℕ, suc, ◌+◌, ◌-◌, ◌<◌, ◌≤◌, inl, inr, Bool, true, false, cond, List, [], ◌∷◌, ◌++◌, length, take, drop, get_or, refl, sym, ap, subst, ◌∙◌, append_assoc, arith}
use Rattle.std.specs.Prelude.{not, ◌&&◌, codes, count_by}
use Rattle.std.specs.List.{suffix_len, prefix_len, after_last}
use Rattle.std.proofs.lemmas.Bool.{both_ways, cases_lt}
use Rattle.std.proofs.lemmas.List.Sums.{sum_by-append}
use Rattle.std.proofs.lemmas.List.{reverse-append, length-append, drop_all, drop-append-le, take_at, get_or_at, append-nil}
use Rattle.expr_grammar.specs.declared.limit.Span.TheVariants.{Statement}
use Rattle.expr_grammar.specs.declared.token.TokenKind.{TokenKind}
use Rattle.expr_grammar.specs.Lexeme.{Lexeme}
use Rattle.expr_grammar.specs.Reading.{is_mark, is_mark_kind}
use Rattle.expr_grammar.specs.Tree.{StmtTree}
use Rattle.expr_grammar.specs.Grammar.{IsMark, ReadsCode}
use Rattle.std.specs.Str.{bytes_eq}
use Rattle.expr_grammar.specs.Refusal.{IsAccepted, counted_with_next, IsOneTooMany, token, parenthesis, IsDeep, NoneDeepBefore}
use Rattle.expr_grammar.specs.Moved.{IsMovedToken, AreMoved}
use Rattle.expr_grammar.specs.Fits.{counted_after, Fits}

-- ---- the definition, token by token

pub suffix_push : (p : Lexeme → Bool) (ts : List Lexeme) (k : Lexeme) → suffix_len p (ts ++ k ∷ []) ≡ cond (p k) (1 + suffix_len p ts) 0
suffix_push p ts k = ap (prefix_len p) (reverse-append ts (k ∷ []))

pub after_by : (p : Lexeme → Bool) (ts : List Lexeme) (k : Lexeme) (v : Bool) → p k ≡ v → after_last p (ts ++ k ∷ []) ≡ cond v [] (after_last p ts ++ k ∷ [])
after_by p ts k true is =
    let suffix : suffix_len (λ x. not (p x)) (ts ++ k ∷ []) ≡ 0 = suffix_push (λ x. not (p x)) ts k ∙ ap (λ v. cond (not v) (1 + suffix_len (λ x. not (p x)) ts) 0) is in
    drop_all (length (ts ++ k ∷ []) - suffix_len (λ x. not (p x)) (ts ++ k ∷ [])) (ts ++ k ∷ []) (omega (arith, suffix))
after_by p ts k false is =
    let suffix : suffix_len (λ x. not (p x)) (ts ++ k ∷ []) ≡ 1 + suffix_len (λ x. not (p x)) ts = suffix_push (λ x. not (p x)) ts k ∙ ap (λ v. cond (not v) (1 + suffix_len (λ x. not (p x)) ts) 0) is in
    let at : length (ts ++ k ∷ []) - suffix_len (λ x. not (p x)) (ts ++ k ∷ []) ≡ length ts - suffix_len (λ x. not (p x)) ts = omega (arith, suffix, length-append ts (k ∷ [])) in
    ap (λ (n : ℕ). drop n (ts ++ k ∷ [])) at ∙ drop-append-le (length ts - suffix_len (λ x. not (p x)) ts) ts (k ∷ []) (omega arith)

counted_push : (ts : List Lexeme) (k : Lexeme) → counted_with_next Statement (ts ++ k ∷ []) ≡ counted_after (counted_with_next Statement ts) k
counted_push ts k = after_by (is_mark (codes ";")) ts k (is_mark (codes ";") k) refl

further : (all pre ts : List Lexeme) (k : Lexeme) → all ≡ pre ++ k ∷ ts → all ≡ (pre ++ k ∷ []) ++ ts
further all pre ts k e = e ∙ sym (append_assoc pre (k ∷ []) ts)

fits_from : (ts all pre : List Lexeme) → all ≡ pre ++ ts → NoneDeepBefore Statement all (length all) → Fits (counted_with_next Statement pre) ts
fits_from [] all pre e none = tt
fits_from (k ∷ ts) all pre e none =
    let here = λ (over : IsOneTooMany (counted_with_next Statement pre) k).
    let deep : IsDeep Statement all (length pre) = record { before = pre; here = k; after = ts; parts = e; index = refl; over = over } in
    let lt : length pre < length all = omega (arith, ap length e, length-append pre (k ∷ ts)) in
    none (length pre) lt deep in
    let rest = fits_from ts all (pre ++ k ∷ []) (further all pre ts k e) none in
    (here, subst (λ (own : List Lexeme). Fits own ts) (counted_push pre k) rest)

none_from : (ts all pre : List Lexeme) → all ≡ pre ++ ts → Fits (counted_with_next Statement pre) ts → (j : ℕ) → length pre ≤ j → IsDeep Statement all j → ⊥
none_from [] all pre e f j le deep = absurd (omega (arith, le, deep.index, ap length deep.parts, ap length e, length-append deep.before (deep.here ∷ deep.after), ap length (append-nil pre)))
none_from (k ∷ ts) all pre e f j le deep =
    elim (cases_lt (length pre) j) [
      | inl lt ↦
          let rest : Fits (counted_with_next Statement (pre ++ k ∷ [])) ts = subst (λ (own : List Lexeme). Fits own ts) (sym (counted_push pre k)) f.1 in
          none_from ts all (pre ++ k ∷ []) (further all pre ts k e) rest j (omega (arith, lt, length-append pre (k ∷ []))) deep
      | inr ge ↦
          let same : length pre ≡ j = omega (arith, ge, le) in
          let both : deep.before ++ deep.here ∷ deep.after ≡ pre ++ k ∷ ts = sym deep.parts ∙ e in
          let before : deep.before ≡ pre = sym (take_at deep.before (deep.here ∷ deep.after) j deep.index) ∙ ap (take j) both ∙ take_at pre (k ∷ ts) j same in
          let here : deep.here ≡ k = sym (get_or_at deep.before deep.here deep.after k j deep.index) ∙ ap (λ (l : List Lexeme). get_or l j k) both ∙ get_or_at pre k ts k j same in
          let over : IsOneTooMany (counted_with_next Statement pre) k = subst (λ (x : Lexeme). IsOneTooMany (counted_with_next Statement pre) x) here (subst (λ (l : List Lexeme). IsOneTooMany (counted_with_next Statement l) deep.here) before deep.over) in
          f.0 over
    ]

-- none too deep by index is none too deep token by token
pub fits : (ts : List Lexeme) → NoneDeepBefore Statement ts (length ts) → Fits [] ts
fits ts none = fits_from ts ts [] refl none

-- and the other way round
pub none_deep : (ts : List Lexeme) → Fits [] ts → NoneDeepBefore Statement ts (length ts)
none_deep ts f = λ j lt deep. none_from ts ts [] refl f j (omega arith) deep

-- ---- statements, one after the other

ends : (own : List Lexeme) (semi : Lexeme) → is_mark (codes ";") semi ≡ true → counted_after own semi ≡ []
ends own semi is = rw is refl

-- after a `;` the count begins anew
pub fits_after : (front own : List Lexeme) (semi : Lexeme) (right : List Lexeme) → is_mark (codes ";") semi ≡ true → Fits own (front ++ semi ∷ right) → Fits [] right
fits_after [] own semi right is f = subst (λ (l : List Lexeme). Fits l right) (ends own semi is) f.1
fits_after (k ∷ front) own semi right is f = fits_after front (counted_after own k) semi right is f.1

-- other statements after a `;`
pub fits_other : (front own : List Lexeme) (semi : Lexeme) (right other : List Lexeme) → is_mark (codes ";") semi ≡ true → Fits own (front ++ semi ∷ right) → Fits [] other → Fits own (front ++ semi ∷ other)
fits_other [] own semi right other is f g = (f.0, subst (λ (l : List Lexeme). Fits l other) (sym (ends own semi is)) g)
fits_other (k ∷ front) own semi right other is f g = (f.0, fits_other front (counted_after own k) semi right other is f.1 g)

parenthesis_is : (k : Lexeme) → IsMark (codes "(") k → is_mark (codes "(") k ≡ true
parenthesis_is k is =
    let kind = is.kind in
    let text = is.text_is in
    rw (kind, text) refl

-- a token that opens no parenthesis, in a statement of fewer than 512 before it
pub light : (own : List Lexeme) (k : Lexeme) → length own < 512 → is_mark (codes "(") k ≡ false → IsOneTooMany own k → ⊥
light own k lt other (token all) = omega (arith, lt, all)
light own k lt other (parenthesis is nested) = both_ways (is_mark (codes "(") k) other (parenthesis_is k is)

-- ---- moved tokens

mark_same : (text : List ℕ) (t u : Lexeme) → IsMovedToken t u → is_mark text u ≡ is_mark text t
mark_same text t u m =
    ap (λ (k : TokenKind). is_mark_kind k && bytes_eq u.text text) m.kind ∙ ap (λ (l : List ℕ). is_mark_kind t.kind && bytes_eq l text) m.text

count_cons : (p : Lexeme → Bool) (k : Lexeme) (ts : List Lexeme) → count_by p (k ∷ ts) ≡ (0 + cond (p k) 1 0) + count_by p ts
count_cons p k ts = sum_by-append (λ x. cond (p x) 1 0) (k ∷ []) ts

count_same : (text : List ℕ) (ts us : List Lexeme) → AreMoved ts us → count_by (is_mark text) us ≡ count_by (is_mark text) ts
count_same text [] [] m = refl
count_same text [] (u ∷ us) m = absurd m
count_same text (t ∷ ts) [] m = absurd m
count_same text (t ∷ ts) (u ∷ us) m = count_cons (is_mark text) u us ∙ ap (λ (v : Bool). (0 + cond v 1 0) + count_by (is_mark text) us) (mark_same text t u m.0)
    ∙ ap (λ (n : ℕ). (0 + cond (is_mark text t) 1 0) + n) (count_same text ts us m.1) ∙ sym (count_cons (is_mark text) t ts)

length_same : (ts us : List Lexeme) → AreMoved ts us → length us ≡ length ts
length_same [] [] m = refl
length_same [] (u ∷ us) m = absurd m
length_same (t ∷ ts) [] m = absurd m
length_same (t ∷ ts) (u ∷ us) m = ap suc (length_same ts us m.1)

moved_push : (ts us : List Lexeme) (t u : Lexeme) → AreMoved ts us → IsMovedToken t u → AreMoved (ts ++ t ∷ []) (us ++ u ∷ [])
moved_push [] [] t u m n = (n, tt)
moved_push [] (v ∷ us) t u m n = absurd m
moved_push (k ∷ ts) [] t u m n = absurd m
moved_push (k ∷ ts) (v ∷ us) t u m n = (m.0, moved_push ts us t u m.1 n)

over_same : (own owns : List Lexeme) (k u : Lexeme) → AreMoved own owns → IsMovedToken k u → IsOneTooMany owns u → IsOneTooMany own k
over_same own owns k u m n (token all) = token (sym (length_same own owns m) ∙ all)
over_same own owns k u m n (parenthesis is nested) =
    let a = count_same (codes "(") own owns m in
    let b = count_same (codes ")") own owns m in
    parenthesis (record { kind = sym n.kind ∙ is.kind; text_is = sym n.text ∙ is.text_is }) (omega (arith, a, b, nested))

counted_by : (own owns : List Lexeme) (k u : Lexeme) (v : Bool) → AreMoved own owns → IsMovedToken k u → AreMoved (cond v [] (own ++ k ∷ [])) (cond v [] (owns ++ u ∷ []))
counted_by own owns k u true m n = tt
counted_by own owns k u false m n = moved_push own owns k u m n

counted_same : (own owns : List Lexeme) (k u : Lexeme) → AreMoved own owns → IsMovedToken k u → AreMoved (counted_after own k) (counted_after owns u)
counted_same own owns k u m n = subst (λ (v : Bool). AreMoved (counted_after own k) (cond v [] (owns ++ u ∷ []))) (sym (mark_same (codes ";") k u n)) (counted_by own owns k u (is_mark (codes ";") k) m n)

-- places do not count
pub fits_moved : (ts us own owns : List Lexeme) → Fits own ts → AreMoved ts us → AreMoved own owns → Fits owns us
fits_moved [] [] own owns f m n = tt
fits_moved [] (u ∷ us) own owns f m n = absurd m
fits_moved (t ∷ ts) [] own owns f m n = absurd m
fits_moved (t ∷ ts) (u ∷ us) own owns f m n = (λ over. f.0 (over_same own owns t u n m.0 over), fits_moved ts us (counted_after own t) (counted_after owns u) f.1 m.1 (counted_same own owns t u n m.0))

-- code that is accepted, with its tokens moved
pub accepted_moved : (ts us : List Lexeme) (code moved : List StmtTree) → IsAccepted ReadsCode Statement ts code → ReadsCode us moved → AreMoved ts us → IsAccepted ReadsCode Statement us moved
accepted_moved ts us code moved is reads m = record { reads = reads; none_deep = none_deep us (fits_moved ts us [] [] (fits ts is.none_deep) m tt) }
