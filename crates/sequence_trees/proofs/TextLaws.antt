-- A text is one code or one condition, or has one first fault, and never both.
use Rattle.std.proofs.Common.{◌≡◌, ◌∙◌, sym, subst, ap, ℕ, List, Result, Ok, Err}
use Rattle.dap_base.specs.declared.text.Place.{Place}
use Rattle.expr_grammar.specs.declared.limit.Span.{Span}
use Rattle.expr_grammar.specs.declared.limit.Span.TheVariants as spans
use Rattle.expr_grammar.specs.declared.token_list.TokenError.{TokenError}
use Rattle.expr_grammar.specs.declared.token_list.TokenError.TheVariants.{BadToken, OutOfMemory as NoMemory}
use Rattle.expr_grammar.specs.declared.parse.ParseError.{ParseError}
use Rattle.expr_grammar.specs.declared.parse.ParseError.TheVariants.{Unexpected, TooDeep, OutOfMemory}
use Rattle.expr_grammar.specs.Lexeme.{Lexeme}
use Rattle.expr_grammar.specs.Lexing.{AreTokensOf, Lexes}
use Rattle.expr_grammar.specs.Grammar.{ReadsCode, ReadsExpr}
use Rattle.expr_grammar.specs.Reading.{read, statements, whole}
use Rattle.expr_grammar.specs.Refusal.{AnswersParse, IsAccepted, IsUnexpectedFirst, IsDeepFirst, Accepts, Refuses, place_of}
use Rattle.expr_grammar.proofs.CompleteArgs.{reads_whole}
use Rattle.expr_grammar.proofs.CompleteCode.{code_complete}
use Rattle.expr_grammar.proofs.Sound.{whole_outcome, statements_outcome}
use Rattle.expr_grammar.proofs.OneDivision.{one_list, gives_tokens, gives_bad}
use Rattle.expr_grammar.proofs.Whole as parser
use Rattle.sequence_trees.specs.declared.text.TextFault.{TextFault}
use Rattle.sequence_trees.specs.declared.text.TextFault.TheVariants as texts
use Rattle.sequence_trees.specs.Texts.{IsTextOf, IsFaultyText, bad_token, unexpected, too_deep}
use Rattle.sequence_trees.specs.Answers.{AnswersText, GivesValue, ReportsPlace, token_fault, parse_fault}

-- no other answer of a parser is one
pub record IsExact {X : Type 0} (R : List Lexeme → X → Type 0) (span : Span) : Type 0 where
  pub value : (ts : List Lexeme) (r : Result X ParseError) → AnswersParse (λ x. x) R span ts r → (x : X) → IsAccepted R span ts x → Accepts (λ y. y) x r
  pub unexpected : (ts : List Lexeme) (r : Result X ParseError) → AnswersParse (λ x. x) R span ts r → (i : ℕ) → IsUnexpectedFirst R span ts i → Refuses (Unexpected (place_of ts i)) r
  pub too_deep : (ts : List Lexeme) (r : Result X ParseError) → AnswersParse (λ x. x) R span ts r → (i : ℕ) → IsDeepFirst R span ts i → Refuses (TooDeep (place_of ts i)) r

pub exact_code : IsExact ReadsCode spans.Statement
exact_code = record {
  value = λ ts r a x p. parser.only_value ReadsCode (statements read) code_complete statements_outcome (λ c. c) spans.Statement ts r a x p;
  unexpected = λ ts r a i u. parser.only_unexpected ReadsCode (statements read) code_complete statements_outcome (λ c. c) spans.Statement ts r a i u;
  too_deep = λ ts r a i d. parser.only_too_deep ReadsCode (statements read) code_complete statements_outcome (λ c. c) spans.Statement ts r a i d;
}

pub exact_condition : IsExact ReadsExpr spans.Text
exact_condition = record {
  value = λ ts r a x p. parser.only_value ReadsExpr (whole read) reads_whole whole_outcome (λ e. e) spans.Text ts r a x p;
  unexpected = λ ts r a i u. parser.only_unexpected ReadsExpr (whole read) reads_whole whole_outcome (λ e. e) spans.Text ts r a i u;
  too_deep = λ ts r a i d. parser.only_too_deep ReadsExpr (whole read) reads_whole whole_outcome (λ e. e) spans.Text ts r a i d;
}

module _ {X : Type 0} (R : List Lexeme → X → Type 0) (span : Span) (exact : IsExact R span) (text : List ℕ) where
  -- ---- one value, or one fault

  pub one_value : (x y : X) → IsTextOf R span text x → IsTextOf R span text y → x ≡ y
  one_value x y a b =
      let same : b.tokens ≡ a.tokens = one_list text b.tokens a.tokens b.cut a.cut in
      exact.value a.tokens (Ok x) a.accepted y (subst (λ (ts : List Lexeme). IsAccepted R span ts y) same b.accepted)

  pub not_both : (x : X) (at : Place) → IsTextOf R span text x → IsFaultyText R span text at → ⊥
  not_both x at a (bad_token n bad is) = gives_bad text (Ok a.tokens) a.cut n bad
  not_both x at a (unexpected ts cut i u is) =
      let same : ts ≡ a.tokens = one_list text ts a.tokens cut a.cut in
      exact.unexpected a.tokens (Ok x) a.accepted i (subst (λ (l : List Lexeme). IsUnexpectedFirst R span l i) same u)
  not_both x at a (too_deep ts cut i d is) =
      let same : ts ≡ a.tokens = one_list text ts a.tokens cut a.cut in
      exact.too_deep a.tokens (Ok x) a.accepted i (subst (λ (l : List Lexeme). IsDeepFirst R span l i) same d)

  pub one_fault : (at there : Place) → IsFaultyText R span text at → IsFaultyText R span text there → at ≡ there
  one_fault at there (bad_token n bad is) (bad_token m other was) = gives_bad text (Err (BadToken at)) (n, bad, is) m other ∙ sym was
  one_fault at there (bad_token n bad is) (unexpected ts cut i u was) = absurd (gives_tokens text (Err (BadToken at)) (n, bad, is) ts cut)
  one_fault at there (bad_token n bad is) (too_deep ts cut i d was) = absurd (gives_tokens text (Err (BadToken at)) (n, bad, is) ts cut)
  one_fault at there (unexpected ts cut i u is) (bad_token m other was) = absurd (gives_bad text (Ok ts) cut m other)
  one_fault at there (too_deep ts cut i d is) (bad_token m other was) = absurd (gives_bad text (Ok ts) cut m other)
  one_fault at there (unexpected ts cut i u is) (unexpected us cut' j v was) =
      let same : us ≡ ts = one_list text us ts cut' cut in
      let reported : Unexpected at ≡ Unexpected (place_of ts j) = exact.unexpected ts (Err (Unexpected at)) (i, u, is) j (subst (λ (l : List Lexeme). IsUnexpectedFirst R span l j) same v) in
      let here : at ≡ place_of ts j = cc in
      here ∙ ap (λ (l : List Lexeme). place_of l j) (sym same) ∙ sym was
  one_fault at there (unexpected ts cut i u is) (too_deep us cut' j d was) =
      let same : us ≡ ts = one_list text us ts cut' cut in
      let reported : Unexpected at ≡ TooDeep (place_of ts j) = exact.too_deep ts (Err (Unexpected at)) (i, u, is) j (subst (λ (l : List Lexeme). IsDeepFirst R span l j) same d) in
      cc
  one_fault at there (too_deep ts cut i d is) (unexpected us cut' j v was) =
      let same : us ≡ ts = one_list text us ts cut' cut in
      let reported : TooDeep at ≡ Unexpected (place_of ts j) = exact.unexpected ts (Err (TooDeep at)) (i, d, is) j (subst (λ (l : List Lexeme). IsUnexpectedFirst R span l j) same v) in
      cc
  one_fault at there (too_deep ts cut i d is) (too_deep us cut' j e was) =
      let same : us ≡ ts = one_list text us ts cut' cut in
      let reported : TooDeep at ≡ TooDeep (place_of ts j) = exact.too_deep ts (Err (TooDeep at)) (i, d, is) j (subst (λ (l : List Lexeme). IsDeepFirst R span l j) same e) in
      let here : at ≡ place_of ts j = cc in
      here ∙ ap (λ (l : List Lexeme). place_of l j) (sym same) ∙ sym was

  -- ---- what a reader answers

  module _ {V : Type 0} (view : V → X) where
    pub only_value : (r : Result V TextFault) → AnswersText view R span text r → (x : X) → IsTextOf R span text x → GivesValue view x r
    only_value (Ok v) a x is = one_value (view v) x a is
    only_value (Err (texts.Syntax at)) a x is = not_both x at is a
    only_value (Err texts.OutOfMemory) a x is = tt

    pub only_fault : (r : Result V TextFault) → AnswersText view R span text r → (at : Place) → IsFaultyText R span text at → ReportsPlace at r
    only_fault (Ok v) a at f = not_both (view v) at a f
    only_fault (Err (texts.Syntax reported)) a at f = one_fault reported at a f
    only_fault (Err texts.OutOfMemory) a at f = tt

    pub uncut : (e : TokenError) → Lexes text (Err e) → AnswersText view R span text (Err (token_fault e))
    uncut (BadToken at) a = bad_token a.0 a.1 a.2
    uncut NoMemory a = tt

    pub refused : (ts : List Lexeme) → AreTokensOf text ts → (e : ParseError) → AnswersParse view R span ts (Err e) → AnswersText view R span text (Err (parse_fault e))
    refused ts cut (Unexpected at) a = unexpected ts cut a.0 a.1 a.2
    refused ts cut (TooDeep at) a = too_deep ts cut a.0 a.1 a.2
    refused ts cut OutOfMemory a = tt
