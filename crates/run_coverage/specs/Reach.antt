-- The sequences that a sequence can reach by calls.
use Rattle.std.specs.Prelude.{ℕ, zero, suc, List, [], ◌∷◌, ◌++◌, codes, Option, Some, None, if◌then◌else◌}
use Rattle.std.specs.List.{flat_map}
use Rattle.std.specs.Str.{bytes_eq}
use Rattle.expr_grammar.specs.declared.code.Name.{Name}
use Rattle.expr_grammar.specs.Tree.{Tree, Number, Named, Group, Unary, Binary, Cond, Assign, Call, ArgTree, ExprArg}
use Rattle.expr_grammar.specs.Tree.{TextArg, ArgTrees, NoArgs, MoreArgs, StmtTree, Empty, Declare, Plain}
use Rattle.sequence_trees.specs.Trees.{CodeStep, Block, Control, CodeSteps, NoSteps, MoreSteps, SetTrees, steps_in}
use Rattle.expr_grammar.specs.Names.{with_names}
use Rattle.sequence_rules.specs.Values.{text_of}

-- the sequence that a call itself names
abbrev pub own_name : Name → ArgTrees → List (List ℕ)
own_name called args = if bytes_eq called.text (codes "Sequence") then text_of args ∷ [] else []

-- the sequences that an expression names in its calls, in the order of the text
abbrev mutual
  pub tree_names : Tree → List (List ℕ)
  tree_names (Number n) = []
  tree_names (Named name) = []
  tree_names (Group a) = tree_names a
  tree_names (Unary op a) = tree_names a
  tree_names (Binary op a b) = tree_names a ++ tree_names b
  tree_names (Cond c a b) = tree_names c ++ (tree_names a ++ tree_names b)
  tree_names (Assign name a) = tree_names a
  tree_names (Call called args) = own_name called args ++ args_names args

  -- those of an argument
  pub arg_names : ArgTree → List (List ℕ)
  arg_names (ExprArg at e) = tree_names e
  arg_names (TextArg t) = []

  -- those of arguments
  pub args_names : ArgTrees → List (List ℕ)
  args_names NoArgs = []
  args_names (MoreArgs a more) = arg_names a ++ args_names more

-- those of a statement
abbrev pub statement_names : StmtTree → List (List ℕ)
statement_names (Empty at) = []
statement_names (Declare name e) = tree_names e
statement_names (Plain at e) = tree_names e

-- those of statements
abbrev pub block_names : List StmtTree → List (List ℕ)
block_names [] = []
block_names (s ∷ code) = statement_names s ++ block_names code

-- those of a condition, where there is one
abbrev pub condition_names : Option Tree → List (List ℕ)
condition_names None = []
condition_names (Some e) = tree_names e

-- those of steps; of a control its `if` comes first, then its `while`, then its steps
abbrev mutual
  pub step_names : CodeStep → List (List ℕ)
  step_names (Block code) = block_names code
  step_names (Control cond repeat timeout steps) = condition_names cond ++ (condition_names repeat ++ steps_names steps)

  pub steps_names : CodeSteps → List (List ℕ)
  steps_names NoSteps = []
  steps_names (MoreSteps step more) = step_names step ++ steps_names more

-- those of a sequence, none where the set does not have it
abbrev pub sequence_names : SetTrees → List ℕ → List (List ℕ)
sequence_names set name = steps_names (steps_in set name)

-- the sequences, and those that they call
abbrev pub one_deeper : SetTrees → List (List ℕ) → List (List ℕ)
one_deeper set names = with_names names (flat_map (sequence_names set) names)

-- the sequences that so many calls, one in the other, lead to; itself first, then in the order of the first call
unfoldable pub reached_sequences : SetTrees → ℕ → List ℕ → List (List ℕ)
reached_sequences set zero start = start ∷ []
reached_sequences set (suc deep) start = one_deeper set (reached_sequences set deep start)

-- the sequences that the run of a sequence can reach: calls are at most 31 deep
abbrev pub reached_names : SetTrees → List ℕ → List (List ℕ)
reached_names set start = reached_sequences set 31 start
