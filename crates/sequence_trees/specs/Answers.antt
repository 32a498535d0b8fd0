-- What the readers of texts and of sets answer.
use Rattle.std.specs.Prelude.{◌≡◌, ℕ, List, Result, Ok, Err, ⊤}
use Rattle.dap_base.specs.declared.text.Place.{Place}
use Rattle.sequence_resolve.specs.declared.entry.SeqSet.{SeqSet}
use Rattle.expr_grammar.specs.declared.code.Expr.{Expr}
use Rattle.expr_grammar.specs.declared.code.Stmt.{Stmt}
use Rattle.expr_grammar.specs.declared.limit.Span.{Span}
use Rattle.expr_grammar.specs.declared.limit.Span.TheVariants as spans
use Rattle.expr_grammar.specs.declared.token_list.TokenError.{TokenError}
use Rattle.expr_grammar.specs.declared.token_list.TokenError.TheVariants as tokens
use Rattle.expr_grammar.specs.declared.parse.ParseError.{ParseError}
use Rattle.expr_grammar.specs.declared.parse.ParseError.TheVariants as parses
use Rattle.expr_grammar.specs.Lexeme.{Lexeme}
use Rattle.expr_grammar.specs.Grammar.{ReadsCode, ReadsExpr}
use Rattle.expr_grammar.specs.Tree.{tree, code_trees}
use Rattle.sequence_trees.specs.declared.spot.Spot.{Spot}
use Rattle.sequence_trees.specs.declared.set.ReadSet.{ReadSet}
use Rattle.sequence_trees.specs.declared.text.TextFault.{TextFault}
use Rattle.sequence_trees.specs.declared.text.TextFault.TheVariants as texts
use Rattle.sequence_trees.specs.declared.set_reader.SetFault.{SetFault}
use Rattle.sequence_trees.specs.declared.set_reader.SetFault.TheVariants as sets
use Rattle.sequence_trees.specs.Texts.{IsTextOf, IsFaultyText}
use Rattle.sequence_trees.specs.Trees.{SetTrees}
use Rattle.sequence_trees.specs.Order.{IsFirstFault}
use Rattle.sequence_trees.specs.Reading.{ReadsSet}
use Rattle.sequence_trees.specs.SetView.{set_trees}

-- ---- of a text

-- a text without tokens has its fault at its first bad token
abbrev pub token_fault : TokenError → TextFault
token_fault (tokens.BadToken at) = texts.Syntax at
token_fault tokens.OutOfMemory = texts.OutOfMemory

-- a text whose tokens are refused has its fault at the refused token
abbrev pub parse_fault : ParseError → TextFault
parse_fault (parses.Unexpected at) = texts.Syntax at
parse_fault (parses.TooDeep at) = texts.Syntax at
parse_fault parses.OutOfMemory = texts.OutOfMemory

-- `view` gives what a value of the program stands for.
module _ {V X : Type 0} (view : V → X) (R : List Lexeme → X → Type 0) (span : Span) (text : List ℕ) where
  -- the value that the text stands for, the place of its first fault, or that memory ran out
  abbrev pub AnswersText : Result V TextFault → Type 0
  AnswersText (Ok v) = IsTextOf R span text (view v)
  AnswersText (Err (texts.Syntax at)) = IsFaultyText R span text at
  AnswersText (Err texts.OutOfMemory) = ⊤

-- the code of the text, or the place of its first fault
abbrev pub AnswersCode : List ℕ → Result (List Stmt) TextFault → Type 0
AnswersCode = AnswersText code_trees ReadsCode spans.Statement

-- the condition that the text is, or the place of its first fault
abbrev pub AnswersCondition : List ℕ → Result Expr TextFault → Type 0
AnswersCondition = AnswersText tree ReadsExpr spans.Text

-- this value, unless memory ran out
abbrev pub GivesValue : {V X : Type 0} → (V → X) → X → Result V TextFault → Type 0
GivesValue view x (Ok v) = view v ≡ x
GivesValue view x (Err (texts.Syntax at)) = ⊥
GivesValue view x (Err texts.OutOfMemory) = ⊤

-- a fault at this place, unless memory ran out
abbrev pub ReportsPlace : {V : Type 0} → Place → Result V TextFault → Type 0
ReportsPlace at (Ok v) = ⊥
ReportsPlace at (Err (texts.Syntax reported)) = reported ≡ at
ReportsPlace at (Err texts.OutOfMemory) = ⊤

-- ---- of a set

-- the trees of the set, or its first fault
abbrev pub AnswersSet : SeqSet → Result ReadSet SetFault → Type 0
AnswersSet set (Ok read) = ReadsSet set (set_trees read)
AnswersSet set (Err (sets.Syntax spot)) = IsFirstFault set spot
AnswersSet set (Err sets.OutOfMemory) = ⊤

-- these trees, unless memory ran out
abbrev pub GivesSet : SetTrees → Result ReadSet SetFault → Type 0
GivesSet trees (Ok read) = set_trees read ≡ trees
GivesSet trees (Err (sets.Syntax spot)) = ⊥
GivesSet trees (Err sets.OutOfMemory) = ⊤

-- this fault, unless memory ran out
abbrev pub ReportsSpot : Spot → Result ReadSet SetFault → Type 0
ReportsSpot spot (Ok given) = ⊥
ReportsSpot spot (Err (sets.Syntax reported)) = reported ≡ spot
ReportsSpot spot (Err sets.OutOfMemory) = ⊤
