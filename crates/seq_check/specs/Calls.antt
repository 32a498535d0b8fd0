-- The calls of sequences in a set, in the order of the text.
use Rattle.std.specs.Prelude.{ℕ, suc, List, [], ◌∷◌, ◌++◌, map, length, position, codes, Option, Some, None, unwrap_or, if◌then◌else◌}
use Rattle.std.specs.Str.{bytes_eq}
use Rattle.expr_grammar.specs.declared.code.Name.{Name}
use Rattle.expr_grammar.specs.declared.code.TextArg as string
use Rattle.expr_grammar.specs.Tree.{Tree, Number, Named, Group, Unary, Binary, Cond, Assign, Call, ArgTree, ExprArg}
use Rattle.expr_grammar.specs.Tree.{TextArg, ArgTrees, NoArgs, MoreArgs, StmtTree, Empty, Declare, Plain}
use Rattle.sequence_trees.specs.declared.spot.Part.{Part}
use Rattle.sequence_trees.specs.declared.spot.Part.TheVariants as parts
use Rattle.sequence_trees.specs.Trees.{CodeStep, Block, Control, CodeSteps, NoSteps, MoreSteps, SetTrees}
use Rattle.code_check.specs.ExprFaults.{text_at}
use Rattle.seq_check.specs.declared.calls.TextCall.{TextCall}
use Rattle.seq_check.specs.declared.step_calls.StepCall.{StepCall}
use Rattle.seq_check.specs.SetFaults.{names_of}

-- the number of the sequence of the name, counted from 0; the number of all sequences where none has it
abbrev pub number_of : List (List ℕ) → List ℕ → ℕ
number_of names name = unwrap_or (position (bytes_eq name) names) (length names)

-- `Sequence` and the name of a sequence
abbrev pub text_calls : List (List ℕ) → Name → Option string.TextArg → List TextCall
text_calls names called None = []
text_calls names called (Some t) = record { place = called.at; callee = number_of names t.text } ∷ []

-- a call itself
abbrev pub own_calls : List (List ℕ) → Name → ArgTrees → List TextCall
own_calls names called args = if bytes_eq called.text (codes "Sequence") then text_calls names called (text_at args 0) else []

-- the calls in expressions and in their arguments
abbrev mutual
  -- the calls in an expression, in the order of the text
  pub expr_calls : List (List ℕ) → Tree → List TextCall
  expr_calls names (Number n) = []
  expr_calls names (Named name) = []
  expr_calls names (Group a) = expr_calls names a
  expr_calls names (Unary op a) = expr_calls names a
  expr_calls names (Binary op a b) = expr_calls names a ++ expr_calls names b
  expr_calls names (Cond c a b) = expr_calls names c ++ (expr_calls names a ++ expr_calls names b)
  expr_calls names (Assign name a) = expr_calls names a
  expr_calls names (Call called args) = own_calls names called args ++ args_calls names args

  -- the calls in an argument
  pub arg_calls : List (List ℕ) → ArgTree → List TextCall
  arg_calls names (ExprArg at e) = expr_calls names e
  arg_calls names (TextArg t) = []

  -- the calls in arguments
  pub args_calls : List (List ℕ) → ArgTrees → List TextCall
  args_calls names NoArgs = []
  args_calls names (MoreArgs a more) = arg_calls names a ++ args_calls names more

-- the calls of a statement
abbrev pub statement_calls : List (List ℕ) → StmtTree → List TextCall
statement_calls names (Empty at) = []
statement_calls names (Declare name e) = expr_calls names e
statement_calls names (Plain at e) = expr_calls names e

-- the calls of statements
abbrev pub block_calls : List (List ℕ) → List StmtTree → List TextCall
block_calls names [] = []
block_calls names (s ∷ code) = statement_calls names s ++ block_calls names code

-- the calls of a condition, where there is one
abbrev pub condition_calls : List (List ℕ) → Option Tree → List TextCall
condition_calls names None = []
condition_calls names (Some e) = expr_calls names e

-- ---- in steps

-- the calls of a part of the step at the path
abbrev pub calls_at : List ℕ → Part → List TextCall → List StepCall
calls_at path part calls = map (λ c. record { path = path; part = part; place = c.place; callee = c.callee }) calls

-- the calls in steps, each at its path
abbrev mutual
  -- in the step at the path
  pub step_calls : List (List ℕ) → List ℕ → CodeStep → List StepCall
  step_calls names path (Block code) = calls_at path parts.Block (block_calls names code)
  step_calls names path (Control cond repeat timeout steps) =
      calls_at path parts.If (condition_calls names cond) ++ (calls_at path parts.While (condition_calls names repeat) ++ steps_calls names path 0 steps)

  -- in the steps inside the one at the path, the first of which has this number
  pub steps_calls : List (List ℕ) → List ℕ → ℕ → CodeSteps → List StepCall
  steps_calls names path number NoSteps = []
  steps_calls names path number (MoreSteps step more) = step_calls names (path ++ number ∷ []) step ++ steps_calls names path (suc number) more

-- ---- in a set

-- the calls of a sequence
abbrev pub sequence_calls : List (List ℕ) → CodeSteps → List StepCall
sequence_calls names steps = steps_calls names [] 0 steps

-- the calls of each sequence
abbrev pub set_calls : SetTrees → List (List StepCall)
set_calls set = map (sequence_calls (names_of set)) (map (λ s. s.steps) set.sequences)

-- the graph of the sequences, by their numbers
abbrev pub call_graph : SetTrees → List (List ℕ)
call_graph set = map (λ calls. map (λ c. c.callee) calls) (set_calls set)
