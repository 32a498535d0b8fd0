-- Trees of code as text: one blank on both sides of an operator between operands, numbers from 10 on in hexadecimal.
use Rattle.std.specs.Prelude.{ℕ, nat_lt, Bool, true, false, List, [], ◌++◌, codes, decimal, if◌then◌else◌}
use Rattle.expr_grammar.specs.declared.code.UnaryOp.{UnaryOp}
use Rattle.expr_grammar.specs.declared.code.UnaryOp.TheVariants as u
use Rattle.expr_grammar.specs.declared.code.BinaryOp.{BinaryOp}
use Rattle.expr_grammar.specs.declared.code.BinaryOp.TheVariants as b
use Rattle.expr_grammar.specs.Tree as t
use Rattle.expr_grammar.specs.Tree.{Tree, ArgTree, ArgTrees, StmtTree}
use Rattle.text_lines.specs.Hex.{hex}
use Rattle.text_lines.specs.Shown.{shown_text}
use Rattle.expr_grammar.specs.Grammar.{unary_text}

-- an operator between its operands
abbrev pub binary_mark : BinaryOp → List ℕ
binary_mark b.Mul = codes " * "
binary_mark b.Div = codes " / "
binary_mark b.Rem = codes " % "
binary_mark b.Add = codes " + "
binary_mark b.Sub = codes " - "
binary_mark b.Shl = codes " << "
binary_mark b.Shr = codes " >> "
binary_mark b.Lt = codes " < "
binary_mark b.Le = codes " <= "
binary_mark b.Gt = codes " > "
binary_mark b.Ge = codes " >= "
binary_mark b.Eq = codes " == "
binary_mark b.Ne = codes " != "
binary_mark b.BitAnd = codes " & "
binary_mark b.BitXor = codes " ^ "
binary_mark b.BitOr = codes " | "
binary_mark b.And = codes " && "
binary_mark b.Or = codes " || "

-- a number in code
abbrev pub number_text : ℕ → List ℕ
number_text n = if nat_lt n 10 then decimal n else hex n

-- a comma before an argument, except the first
abbrev pub comma_text : Bool → List ℕ
comma_text is_first = if is_first then [] else codes ", "

unfoldable mutual
  -- an expression
  pub expr_text : Tree → List ℕ
  expr_text (t.Number n) = number_text n
  expr_text (t.Named name) = name.text
  expr_text (t.Group a) = codes "(" ++ expr_text a ++ codes ")"
  expr_text (t.Unary op a) = unary_text op ++ expr_text a
  expr_text (t.Binary op a c) = expr_text a ++ binary_mark op ++ expr_text c
  expr_text (t.Cond c a d) = expr_text c ++ codes " ? " ++ expr_text a ++ codes " : " ++ expr_text d
  expr_text (t.Assign name a) = name.text ++ codes " = " ++ expr_text a
  expr_text (t.Call name args) = name.text ++ codes "(" ++ args_text true args ++ codes ")"

  -- an argument
  pub arg_text : ArgTree → List ℕ
  arg_text (t.ExprArg at e) = expr_text e
  arg_text (t.TextArg a) = codes "\"" ++ shown_text a.text ++ codes "\""

  -- arguments, with commas between them
  pub args_text : Bool → ArgTrees → List ℕ
  args_text is_first t.NoArgs = []
  args_text is_first (t.MoreArgs a more) = comma_text is_first ++ arg_text a ++ args_text false more

-- a statement
unfoldable pub stmt_text : StmtTree → List ℕ
stmt_text (t.Empty at) = codes ";"
stmt_text (t.Declare name e) = codes "__var " ++ name.text ++ codes " = " ++ expr_text e ++ codes ";"
stmt_text (t.Plain at e) = expr_text e ++ codes ";"
