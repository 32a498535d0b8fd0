-- The first token that is too deep.
use Rattle.std.proofs.Common.{◌≡◌, ℕ, zero, suc, ◌+◌, ◌-◌, ◌<◌, ◌≤◌, inl, inr, Bool, true, false, cond, eqb, List, [], ◌∷◌, ◌++◌, length, take, drop, get_or, refl, sym, ap, subst, ◌∙◌, arith, zero-add}
use Rattle.std.proofs.Math.Bool.{or-true}
use Rattle.std.specs.Prelude.{◌&&◌, ◌||◌, codes}
use Rattle.std.specs.List.{count_by}
use Rattle.std.proofs.lemmas.Bool.{eqb-true, eq-eqb, and_parts, or_cases, both_ways, cases_lt}
use Rattle.std.proofs.lemmas.List.{length-append, take_at, get_or_at, take_more, drop_more, take-append-drop, length-take-le}
use Rattle.std.proofs.lemmas.List.Sums.{count_by-le-length, sum_by-append}
use Rattle.expr_grammar.specs.declared.token.Token.{Token}
use Rattle.expr_grammar.specs.declared.limit.Count.{Count}
use Rattle.expr_grammar.specs.declared.limit.Span.{Span}
use Rattle.expr_grammar.specs.declared.limit.Span.TheVariants.{Text, Statement}
use Rattle.expr_grammar.specs.Lexeme.{Lexeme, lexeme, lexemes}
use Rattle.expr_grammar.specs.Reading.{is_mark}
use Rattle.expr_grammar.specs.Refusal.{counted_with_next, open_after, IsOneTooMany, token, parenthesis, IsDeep, NoneDeepBefore}
use Rattle.expr_grammar.specs.Counting.{IsCountOf, is_full, ends, count_with, nothing_counted, with_token}
use Rattle.expr_grammar.proofs.Found.{mark_from}
use Rattle.expr_grammar.proofs.Levels.{mark_is}
use Rattle.expr_grammar.proofs.Fits.{after_by}

-- ---- one more token

count_push : (p : Lexeme → Bool) (ts : List Lexeme) (k : Lexeme) → count_by p (ts ++ k ∷ []) ≡ count_by p ts + cond (p k) 1 0
count_push p ts k = sum_by-append (λ x. cond (p x) 1 0) ts (k ∷ []) ∙ ap (λ (n : ℕ). count_by p ts + n) (zero-add (cond (p k) 1 0))

counted_push : (span : Span) (ts : List Lexeme) (k : Lexeme) → counted_with_next span (ts ++ k ∷ []) ≡ cond (ends span k) [] (counted_with_next span ts ++ k ∷ [])
counted_push Text ts k = refl
counted_push Statement ts k = after_by (is_mark (codes ";")) ts k (is_mark (codes ";") k) refl

nothing_is : IsCountOf nothing_counted []
nothing_is = record { tokens = refl; opened = refl; closed = refl }

with_by : (count : Count) (own : List Lexeme) (k : Lexeme) (v : Bool) → IsCountOf count own → IsCountOf (cond v nothing_counted (count_with count k)) (cond v [] (own ++ k ∷ []))
with_by count own k true c = nothing_is
with_by count own k false c = record {
  tokens = omega (arith, c.tokens, length-append own (k ∷ []));
  opened = ap (λ (n : ℕ). n + cond (is_mark (codes "(") k) 1 0) c.opened ∙ sym (count_push (is_mark (codes "(")) own k);
  closed = ap (λ (n : ℕ). n + cond (is_mark (codes ")") k) 1 0) c.closed ∙ sym (count_push (is_mark (codes ")")) own k);
}

with_is : (span : Span) (count : Count) (ts : List Lexeme) (k : Lexeme) → IsCountOf count (counted_with_next span ts) → IsCountOf (with_token span count k) (counted_with_next span (ts ++ k ∷ []))
with_is span count ts k c = subst (IsCountOf (with_token span count k)) (sym (counted_push span ts k)) (with_by count (counted_with_next span ts) k (ends span k) c)

-- ---- too many

open_is : (count : Count) (own : List Lexeme) → IsCountOf count own → count.opened - count.closed ≡ open_after own
open_is count own c = ap (λ (n : ℕ). n - count.closed) c.opened ∙ ap (λ (n : ℕ). count_by (is_mark (codes "(")) own - n) c.closed

too_many : (count : Count) (own : List Lexeme) (k : Lexeme) → IsCountOf count own → is_full count k ≡ true → IsOneTooMany own k
too_many count own k c full =
    elim (or_cases (eqb count.tokens 512) (is_mark (codes "(") k && eqb (count.opened - count.closed) 64) full) [
      | inl all ↦ token (sym c.tokens ∙ eqb-true count.tokens 512 all)
      | inr nested ↦
          let two = and_parts (is_mark (codes "(") k) (eqb (count.opened - count.closed) 64) nested in
          parenthesis (mark_from (codes "(") k two.0) (sym (open_is count own c) ∙ eqb-true (count.opened - count.closed) 64 two.1)
    ]

full_if : (count : Count) (own : List Lexeme) (k : Lexeme) → IsCountOf count own → IsOneTooMany own k → is_full count k ≡ true
full_if count own k c (token all) = let e : eqb count.tokens 512 ≡ true = eq-eqb count.tokens 512 (c.tokens ∙ all) in rw e refl
full_if count own k c (parenthesis m nested) =
    let opens : is_mark (codes "(") k ≡ true = mark_is (codes "(") (codes "(") k m in
    let e : eqb (count.opened - count.closed) 64 ≡ true = eq-eqb (count.opened - count.closed) 64 (open_is count own c ∙ nested) in
    rw (opens, e) (or-true (eqb count.tokens 512))

-- ---- at an index

lexeme_at : (ts : List Token) (i : ℕ) (d : Token) (e : Lexeme) → i < length ts → get_or (lexemes ts) i e ≡ lexeme (get_or ts i d)
lexeme_at [] i d e lt = absurd (omega arith)
lexeme_at (k ∷ ts) zero d e lt = refl
lexeme_at (k ∷ ts) (suc i) d e lt = lexeme_at ts i d e (omega arith)

pub lexemes_length : (ts : List Token) → length (lexemes ts) ≡ length ts
lexemes_length [] = refl
lexemes_length (k ∷ ts) = ap suc (lexemes_length ts)

pub lexemes_take : (n : ℕ) (ts : List Token) → lexemes (take n ts) ≡ take n (lexemes ts)
lexemes_take zero ts = refl
lexemes_take (suc n) [] = refl
lexemes_take (suc n) (k ∷ ts) = ap (λ (l : List Lexeme). lexeme k ∷ l) (lexemes_take n ts)

split_at : (ts : List Lexeme) (i : ℕ) (d : Lexeme) → i < length ts → ts ≡ take i ts ++ get_or ts i d ∷ drop (i + 1) ts
split_at ts i d lt = sym (take-append-drop i ts) ∙ ap (λ (l : List Lexeme). take i ts ++ l) (drop_more ts i d lt)

deep_at : (span : Span) (ts : List Lexeme) (i : ℕ) (d : Lexeme) → i < length ts → IsOneTooMany (counted_with_next span (take i ts)) (get_or ts i d) → IsDeep span ts i
deep_at span ts i d lt over = record { before = take i ts; here = get_or ts i d; after = drop (i + 1) ts; parts = split_at ts i d lt; index = length-take-le i ts (omega arith); over = over }

over_at : (span : Span) (ts : List Lexeme) (i : ℕ) (d : Lexeme) → IsDeep span ts i → IsOneTooMany (counted_with_next span (take i ts)) (get_or ts i d)
over_at span ts i d deep =
    let before : take i ts ≡ deep.before = ap (take i) deep.parts ∙ take_at deep.before (deep.here ∷ deep.after) i deep.index in
    let here : get_or ts i d ≡ deep.here = ap (λ (l : List Lexeme). get_or l i d) deep.parts ∙ get_or_at deep.before deep.here deep.after d i deep.index in
    rw (before, here) deep.over

-- ---- a turn of the loop

pub record Counted (span : Span) (ts : List Token) (i : ℕ) (count : Count) : Type 0 where
  pub is : IsCountOf count (counted_with_next span (take i (lexemes ts)))
  pub small : count.tokens ≤ 512
  pub before : NoneDeepBefore span (lexemes ts) i

pub opened_small : (span : Span) (ts : List Token) (i : ℕ) (count : Count) → Counted span ts i count → count.opened ≤ 512
opened_small span ts i count c = omega (arith, c.small, c.is.tokens, c.is.opened, count_by-le-length (is_mark (codes "(")) (counted_with_next span (take i (lexemes ts))))

pub closed_small : (span : Span) (ts : List Token) (i : ℕ) (count : Count) → Counted span ts i count → count.closed ≤ 512
closed_small span ts i count c = omega (arith, c.small, c.is.tokens, c.is.closed, count_by-le-length (is_mark (codes ")")) (counted_with_next span (take i (lexemes ts))))

not_all : (n : ℕ) (v : Bool) → (eqb n 512 || v) ≡ false → n ≤ 512 → n < 512
not_all n v spare le = elim (cases_lt n 512) [ inl lt ↦ lt | inr ge ↦ absurd (both_ways (eqb n 512 || v) spare (here v (eq-eqb n 512 (omega (arith, ge, le))))) ] where
  here : (v : Bool) → eqb n 512 ≡ true → (eqb n 512 || v) ≡ true
  here v e = rw e refl

pub room : (count : Count) (k : Lexeme) → is_full count k ≡ false → count.tokens ≤ 512 → count.tokens < 512
room count k spare le = not_all count.tokens (is_mark (codes "(") k && eqb (count.opened - count.closed) 64) spare le

pub starts : (span : Span) (ts : List Token) (count : Count) → count ≡ nothing_counted → Counted span ts 0 count
starts span ts count is = record {
  is = subst (λ (c : Count). IsCountOf c (counted_with_next span [])) (sym is) (from_nothing span);
  small = omega (arith, ap (λ (c : Count). c.tokens) is);
  before = λ j lt deep. absurd (omega arith);
} where
  from_nothing : (span : Span) → IsCountOf nothing_counted (counted_with_next span [])
  from_nothing Text = nothing_is
  from_nothing Statement = nothing_is

pub found : (span : Span) (ts : List Token) (i : ℕ) (count : Count) (d : Token) → Counted span ts i count → i < length ts → is_full count (lexeme (get_or ts i d)) ≡ true → IsDeep span (lexemes ts) i
found span ts i count d c lt full =
    let here = lexeme_at ts i d (lexeme d) lt in
    deep_at span (lexemes ts) i (lexeme d) (omega (arith, lexemes_length ts, lt)) (subst (IsOneTooMany (counted_with_next span (take i (lexemes ts)))) (sym here) (too_many count (counted_with_next span (take i (lexemes ts))) (lexeme (get_or ts i d)) c.is full))

tokens_by : (count : Count) (k : Lexeme) (v : Bool) → count.tokens < 512 → (cond v nothing_counted (count_with count k)).tokens ≤ 512
tokens_by count k true lt = omega arith
tokens_by count k false lt = omega (arith, lt)

pub goes_on : (span : Span) (ts : List Token) (i : ℕ) (count count' : Count) (d : Token) → Counted span ts i count → i < length ts → is_full count (lexeme (get_or ts i d)) ≡ false → count' ≡ with_token span count (lexeme (get_or ts i d)) → Counted span ts (i + 1) count'
goes_on span ts i count count' d c lt spare next =
    let k = lexeme (get_or ts i d) in
    let long : i < length (lexemes ts) = omega (arith, lexemes_length ts, lt) in
    let here : get_or (lexemes ts) i (lexeme d) ≡ k = lexeme_at ts i d (lexeme d) lt in
    let more : take (i + 1) (lexemes ts) ≡ take i (lexemes ts) ++ k ∷ [] = take_more (lexemes ts) i (lexeme d) long ∙ ap (λ (x : Lexeme). take i (lexemes ts) ++ x ∷ []) here in
    record {
      is = subst (λ (x : Count). IsCountOf x (counted_with_next span (take (i + 1) (lexemes ts)))) (sym next) (subst (λ (l : List Lexeme). IsCountOf (with_token span count k) (counted_with_next span l)) (sym more) (with_is span count (take i (lexemes ts)) k c.is));
      small = subst (λ (x : Count). x.tokens ≤ 512) (sym next) (tokens_by count k (ends span k) (room count k spare c.small));
      before = λ j le deep. elim (cases_lt j i) [
        | inl lt2 ↦ c.before j lt2 deep
        | inr ge ↦
            let same : j ≡ i = omega (arith, le, ge) in
            let over = over_at span (lexemes ts) i (lexeme d) (subst (IsDeep span (lexemes ts)) same deep) in
            both_ways (is_full count k) spare (full_if count (counted_with_next span (take i (lexemes ts))) k c.is (subst (IsOneTooMany (counted_with_next span (take i (lexemes ts)))) here over))
      ];
    }
