-- The debug variables that code assigns. No code declares a variable of that name: `Redeclared` is a fault.
use Rattle.std.specs.Prelude.{ℕ, List, [], ◌∷◌, ◌++◌, Option, Some, None, if◌then◌else◌}
use Rattle.expr_grammar.specs.declared.code.Name.{Name}
use Rattle.expr_grammar.specs.Tree.{Tree, Number, Named, Group, Unary, Binary, Cond, Assign, Call, ArgTree, ExprArg}
use Rattle.expr_grammar.specs.Tree.{TextArg, ArgTrees, NoArgs, MoreArgs, StmtTree, Empty, Declare, Plain}
use Rattle.expr_grammar.specs.Names.{has_name}
use Rattle.set_warnings.specs.declared.warning.Warning.{Warning}
use Rattle.set_warnings.specs.declared.warning.WarningKind.TheVariants as k
use Rattle.set_warnings.specs.Sites.{PartAt, warning_at}

-- an assignment to this name, where it is one of these variables
abbrev pub assignment_warnings : List (List ℕ) → PartAt → Name → List Warning
assignment_warnings vars at name = if has_name vars name.text then warning_at k.AssignedDebugVariable at name.at (Some name.text) ∷ [] else []

-- the assignments in an expression to one of these variables, in the order of the text
abbrev mutual
  pub tree_warnings : List (List ℕ) → PartAt → Tree → List Warning
  tree_warnings vars at (Number n) = []
  tree_warnings vars at (Named name) = []
  tree_warnings vars at (Group a) = tree_warnings vars at a
  tree_warnings vars at (Unary op a) = tree_warnings vars at a
  tree_warnings vars at (Binary op a b) = tree_warnings vars at a ++ tree_warnings vars at b
  tree_warnings vars at (Cond c a b) = tree_warnings vars at c ++ (tree_warnings vars at a ++ tree_warnings vars at b)
  tree_warnings vars at (Assign name a) = assignment_warnings vars at name ++ tree_warnings vars at a
  tree_warnings vars at (Call called args) = args_warnings vars at args

  -- those of an argument
  pub arg_warnings : List (List ℕ) → PartAt → ArgTree → List Warning
  arg_warnings vars at (ExprArg place e) = tree_warnings vars at e
  arg_warnings vars at (TextArg t) = []

  -- those of arguments
  pub args_warnings : List (List ℕ) → PartAt → ArgTrees → List Warning
  args_warnings vars at NoArgs = []
  args_warnings vars at (MoreArgs a more) = arg_warnings vars at a ++ args_warnings vars at more

-- those of a statement
abbrev pub statement_warnings : List (List ℕ) → PartAt → StmtTree → List Warning
statement_warnings vars at (Empty place) = []
statement_warnings vars at (Declare name e) = tree_warnings vars at e
statement_warnings vars at (Plain place e) = tree_warnings vars at e

-- those of statements
abbrev pub block_warnings : List (List ℕ) → PartAt → List StmtTree → List Warning
block_warnings vars at [] = []
block_warnings vars at (s ∷ code) = statement_warnings vars at s ++ block_warnings vars at code

-- those of a condition, where there is one
abbrev pub condition_warnings : List (List ℕ) → PartAt → Option Tree → List Warning
condition_warnings vars at None = []
condition_warnings vars at (Some e) = tree_warnings vars at e
