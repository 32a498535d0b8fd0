-- Trees without their places.
use Rattle.std.specs.Prelude.{List, map}
use Rattle.dap_base.specs.declared.text.Place.{Place}
use Rattle.expr_grammar.specs.declared.code.Name.{Name}
use Rattle.expr_grammar.specs.Tree.{Tree, Number, Named, Group, Unary, Binary, Cond, Assign, Call, ArgTree, ExprArg}
use Rattle.expr_grammar.specs.Tree.{TextArg, ArgTrees, NoArgs, MoreArgs, StmtTree, Empty, Declare, Plain}

-- line 0, column 0: the place of what has none
abbrev pub nowhere : Place
nowhere = record { line = 0; column = 0 }

-- a name without its place
abbrev pub bare_name : Name → Name
bare_name n = record n { at = nowhere }

-- expressions and their arguments without their places
abbrev mutual
  -- an expression without its places
  pub bare : Tree → Tree
  bare (Number n) = Number n
  bare (Named n) = Named (bare_name n)
  bare (Group a) = Group (bare a)
  bare (Unary op a) = Unary op (bare a)
  bare (Binary op x y) = Binary op (bare x) (bare y)
  bare (Cond c x y) = Cond (bare c) (bare x) (bare y)
  bare (Assign n a) = Assign (bare_name n) (bare a)
  bare (Call n args) = Call (bare_name n) (bare_args args)

  -- an argument without its places
  pub bare_arg : ArgTree → ArgTree
  bare_arg (ExprArg at e) = ExprArg nowhere (bare e)
  bare_arg (TextArg s) = TextArg (record s { at = nowhere })

  -- arguments without their places
  pub bare_args : ArgTrees → ArgTrees
  bare_args NoArgs = NoArgs
  bare_args (MoreArgs a more) = MoreArgs (bare_arg a) (bare_args more)

-- a statement without its places
abbrev pub bare_stmt : StmtTree → StmtTree
bare_stmt (Empty at) = Empty nowhere
bare_stmt (Declare n e) = Declare (bare_name n) (bare e)
bare_stmt (Plain at e) = Plain nowhere (bare e)

-- code without its places
abbrev pub bare_code : List StmtTree → List StmtTree
bare_code = map bare_stmt
