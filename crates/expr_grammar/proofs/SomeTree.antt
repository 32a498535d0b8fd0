-- Tokens are those of something that is read, or one of them is unexpected or too deep.
use Rattle.std.proofs.Common.{◌≡◌, ◌⊎◌, inl, inr, ℕ, suc, ◌+◌, ◌-◌, ◌<◌, ◌≤◌, Bool, true, false, cond, eqb, ltb, List, [], ◌∷◌, ◌++◌, length, take, Result, Ok, Err, refl, sym, ap, subst, ◌∙◌, append_assoc, arith}
use Rattle.std.specs.Prelude.{◌&&◌, codes}
use Rattle.std.proofs.lemmas.Bool.{cases_lt, both_ways}
use Rattle.std.proofs.lemmas.Bool.Decides.{eqb_tells}
use Rattle.std.proofs.lemmas.List.{append-nil, length-append, take_at}
use Rattle.expr_grammar.specs.declared.fault.Fault.TheVariants as faults
use Rattle.expr_grammar.specs.declared.limit.Span.{Span}
use Rattle.expr_grammar.specs.declared.parse.ParseError.TheVariants.{Unexpected, TooDeep}
use Rattle.expr_grammar.specs.Lexeme.{Lexeme}
use Rattle.expr_grammar.specs.Reading.{Front, all_of, is_mark, read, whole, statements}
use Rattle.expr_grammar.specs.Tree.{Tree, StmtTree}
use Rattle.expr_grammar.specs.Grammar.{ReadsCode, ReadsExpr}
use Rattle.expr_grammar.specs.Refusal.{Begins, IsDeep, NoneDeepBefore, IsOneTooMany, token, parenthesis, counted_with_next, open_after, place_of, IsAccepted, IsUnexpectedFirst, IsDeepFirst, AnswersParse}
use Rattle.expr_grammar.proofs.Found.{mark_from}
use Rattle.expr_grammar.proofs.Levels.{mark_is}
use Rattle.expr_grammar.proofs.Outcome.{Outcome}
use Rattle.expr_grammar.proofs.CompleteArgs.{reads_whole}
use Rattle.expr_grammar.proofs.CompleteCode.{code_complete}
use Rattle.expr_grammar.proofs.Sound.{whole_outcome, statements_outcome}
use Rattle.expr_grammar.proofs.Whole.{answers}
use Rattle.dap_base.proofs.Least.{Decided}

-- ---- the first token that is too deep

nested_by : (before : List Lexeme) (next : Lexeme) → (length before ≡ 512 → ⊥) → (b : Bool) → is_mark (codes "(") next ≡ b → Decided (IsOneTooMany before next)
nested_by before next few true is = elim (eqb_tells (open_after before) 64) [
  | inl w ↦ inl (parenthesis (mark_from (codes "(") next is) w.1)
  | inr w ↦ inr (λ over. elim over [ token all ↦ few all | parenthesis m nested ↦ w.1 nested ])
]
nested_by before next few false is = inr (λ over. elim over [ token all ↦ few all | parenthesis m nested ↦ both_ways (is_mark (codes "(") next) is (mark_is (codes "(") (codes "(") next m) ])

too_many_decided : (before : List Lexeme) (next : Lexeme) → Decided (IsOneTooMany before next)
too_many_decided before next = elim (eqb_tells (length before) 512) [
  | inl w ↦ inl (token w.1)
  | inr w ↦ nested_by before next w.1 (is_mark (codes "(") next) refl
]

-- the first token that is too deep, or the end
record Limit (span : Span) (ts : List Lexeme) : Type 0 where
  at : ℕ
  within : at ≤ length ts
  none_before : NoneDeepBefore span ts at
  deep : at < length ts → IsDeep span ts at

module _ (span : Span) (ts : List Lexeme) where
  -- what is too many at a token, by any division of the tokens there
  over_here : (before : List Lexeme) (k : Lexeme) (rest : List Lexeme) → ts ≡ before ++ k ∷ rest → IsDeep span ts (length before) → IsOneTooMany (counted_with_next span before) k
  over_here before k rest parts d =
      let same : before ≡ d.before = sym (take_at before (k ∷ rest) (length before) refl) ∙ ap (take (length before)) (sym parts ∙ d.parts) ∙ take_at d.before (d.here ∷ d.after) (length before) d.index in
      let tails : d.here ∷ d.after ≡ k ∷ rest = rest_of before (d.here ∷ d.after) (k ∷ rest) (ap (λ (l : List Lexeme). l ++ d.here ∷ d.after) same ∙ sym d.parts ∙ parts) in
      let here : d.here ≡ k = cc in
      subst (IsOneTooMany (counted_with_next span before)) here (subst (λ (l : List Lexeme). IsOneTooMany (counted_with_next span l) d.here) (sym same) d.over) where
        rest_of : (xs ys zs : List Lexeme) → xs ++ ys ≡ xs ++ zs → ys ≡ zs
        rest_of [] ys zs e = e
        rest_of (x ∷ xs) ys zs e = (let more : xs ++ ys ≡ xs ++ zs = cc in rest_of xs ys zs more)

  none_more : (before : List Lexeme) (k : Lexeme) (rest : List Lexeme) → ts ≡ before ++ k ∷ rest → NoneDeepBefore span ts (length before) → (IsOneTooMany (counted_with_next span before) k → ⊥)
      → NoneDeepBefore span ts (length (before ++ k ∷ []))
  none_more before k rest parts none not j lt d = elim (cases_lt j (length before)) [
    | inl less ↦ none j less d
    | inr ge ↦
        let same : j ≡ length before = omega (arith, ge, lt, length-append before (k ∷ [])) in
        not (over_here before k rest parts (subst (IsDeep span ts) same d))
  ]

  limit_from : (rest before : List Lexeme) → ts ≡ before ++ rest → NoneDeepBefore span ts (length before) → Limit span ts
  limit_from [] before parts none =
      let long : length ts ≡ length before = ap length (parts ∙ append-nil before) in
      record { at = length before; within = omega (arith, long); none_before = none; deep = λ lt. absurd (omega (arith, lt, long)) }
  limit_from (k ∷ rest) before parts none =
      let long : length ts ≡ length before + suc (length rest) = ap length parts ∙ length-append before (k ∷ rest) in
      elim (too_many_decided (counted_with_next span before) k) [
        | inl over ↦ record {
          at = length before;
          within = omega (arith, long);
          none_before = none;
          deep = λ lt. record { before = before; here = k; after = rest; parts = parts; index = refl; over = over };
        }
        | inr not ↦ limit_from rest (before ++ k ∷ []) (parts ∙ sym (append_assoc before (k ∷ []) rest)) (none_more before k rest parts none not)
      ]

  limit : Limit span ts
  limit = limit_from ts [] refl (λ j lt d. absurd (omega (arith, lt)))

-- ---- what the tokens are

-- they are accepted, or refused at one of them
abbrev pub Parsed : {X : Type 0} → (List Lexeme → X → Type 0) → Span → List Lexeme → Type 0
Parsed {X} R span ts = ((x : X) × IsAccepted R span ts x) ⊎ (((i : ℕ) × IsUnexpectedFirst R span ts i) ⊎ ((i : ℕ) × IsDeepFirst R span ts i))

module _ {X : Type 0} (R : List Lexeme → X → Type 0) (f : List Lexeme → Front X) (complete : (ts : List Lexeme) (x : X) → R ts x → f ts ≡ Ok (x, []))
    (outcome : (ts : List Lexeme) → Outcome R (Begins R) f ts (f ts)) (span : Span) (ts : List Lexeme) where
  abbrev itself : X → X
  itself x = x

  ok_by : (l : ℕ) (x : X) (b : Bool) → AnswersParse itself R span ts (cond b (Ok x) (Err (TooDeep (place_of ts l)))) → Parsed R span ts
  ok_by l x true a = inl (x, a)
  ok_by l x false a = inr (inr (a.0, a.1))

  err_by : (l k : ℕ) (b : Bool) → AnswersParse itself R span ts (cond b (Err (TooDeep (place_of ts l))) (Err (Unexpected (place_of ts (l - k))))) → Parsed R span ts
  err_by l k true a = inr (inr (a.0, a.1))
  err_by l k false a = inr (inl (a.0, a.1))

  parsed_by : (l : Limit span ts) (r : Result X ℕ) → all_of f (take l.at ts) ≡ r → Parsed R span ts
  parsed_by l (Ok x) is = ok_by l.at x (eqb l.at (length ts)) (answers R f complete outcome itself span ts (take l.at ts) l.at refl l.within l.none_before l.deep (Ok x) is)
  parsed_by l (Err k) is =
      err_by l.at k (eqb k 0 && ltb l.at (length ts)) (answers R f complete outcome itself span ts (take l.at ts) l.at refl l.within l.none_before l.deep (Err (faults.Unexpected k)) is)

  parsed : Parsed R span ts
  parsed = let l = limit span ts in parsed_by l (all_of f (take l.at ts)) refl

pub expression : (span : Span) (ts : List Lexeme) → Parsed {X = Tree} ReadsExpr span ts
expression span ts = parsed ReadsExpr (whole read) reads_whole whole_outcome span ts

pub code : (span : Span) (ts : List Lexeme) → Parsed {X = List StmtTree} ReadsCode span ts
code span ts = parsed ReadsCode (statements read) code_complete statements_outcome span ts
