-- Which code or which condition a text is, and where a text that is none has its first fault.
use Rattle.std.specs.Prelude.{◌≡◌, ℕ, List}
use Rattle.dap_base.specs.declared.text.Place.{Place}
use Rattle.expr_grammar.specs.declared.limit.Span.{Span}
use Rattle.expr_grammar.specs.declared.limit.Span.TheVariants as spans
use Rattle.expr_grammar.specs.Lexeme.{Lexeme}
use Rattle.expr_grammar.specs.Lexing.{AreTokensOf, IsFirstBad, place_at}
use Rattle.expr_grammar.specs.Grammar.{ReadsCode, ReadsExpr}
use Rattle.expr_grammar.specs.Refusal.{IsAccepted, IsUnexpectedFirst, IsDeepFirst, place_of}
use Rattle.expr_grammar.specs.Tree.{Tree, StmtTree}

-- the text has tokens, and they are accepted as x
pub record IsTextOf {X : Type 0} (R : List Lexeme → X → Type 0) (span : Span) (text : List ℕ) (x : X) : Type 0 where
  pub tokens : List Lexeme
  pub cut : AreTokensOf text tokens
  pub accepted : IsAccepted R span tokens x

-- The text has its first fault at this place: its first bad token or, where it has none, its first token that
-- is unexpected or too deep.
pub data IsFaultyText {X : Type 0} (R : List Lexeme → X → Type 0) (span : Span) (text : List ℕ) (at : Place) : Type 0 where
  bad_token : (n : ℕ) → IsFirstBad text n → at ≡ place_at text n → IsFaultyText R span text at
  unexpected : (tokens : List Lexeme) → AreTokensOf text tokens → (i : ℕ) → IsUnexpectedFirst R span tokens i → at ≡ place_of tokens i → IsFaultyText R span text at
  too_deep : (tokens : List Lexeme) → AreTokensOf text tokens → (i : ℕ) → IsDeepFirst R span tokens i → at ≡ place_of tokens i → IsFaultyText R span text at

-- the text is this code
abbrev pub IsCodeOf : List ℕ → List StmtTree → Type 0
IsCodeOf = IsTextOf ReadsCode spans.Statement

-- the text is this condition, one expression
abbrev pub IsConditionOf : List ℕ → Tree → Type 0
IsConditionOf = IsTextOf ReadsExpr spans.Text

-- the text is no code, and this is the place of its first fault
abbrev pub IsFaultyCode : List ℕ → Place → Type 0
IsFaultyCode = IsFaultyText ReadsCode spans.Statement

-- the text is no expression, and this is the place of its first fault
abbrev pub IsFaultyCondition : List ℕ → Place → Type 0
IsFaultyCondition = IsFaultyText ReadsExpr spans.Text
