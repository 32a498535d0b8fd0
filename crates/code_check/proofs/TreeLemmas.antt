-- What each form of expression is as a tree.
use Rattle.std.proofs.Common.{◌≡◌, ◌∙◌, sym, ap, ℕ, List, Box, Global}
use Rattle.dap_base.specs.declared.text.Place.{Place}
use Rattle.expr_grammar.specs.declared.code.Name.{Name}
use Rattle.expr_grammar.specs.declared.code.CalledName.{CalledName}
use Rattle.expr_grammar.specs.declared.code.TextArg as string
use Rattle.expr_grammar.specs.declared.code.UnaryOp.{UnaryOp}
use Rattle.expr_grammar.specs.declared.code.BinaryOp.{BinaryOp}
use Rattle.expr_grammar.specs.declared.code.Expr.{Expr}
use Rattle.expr_grammar.specs.declared.code.Expr.TheVariants as e
use Rattle.expr_grammar.specs.declared.code.Arg.{Arg}
use Rattle.expr_grammar.specs.declared.code.Arg.TheVariants as a
use Rattle.expr_grammar.specs.declared.code.Arg.TheOpen.{Expr-F, Arg-F}
use Rattle.expr_grammar.specs.declared.code.Arg.TheFolds.{fold-roll-Expr, fold-roll-Arg}
use Rattle.expr_grammar.specs.Tree.{Tree, ArgTree, tree, arg_tree, arg_trees, arg_step, expr_step, Number, Named, Group, Unary, Binary, Cond, Assign, Call, ExprArg, TextArg}

pub tree-Number : (n : ℕ) → tree (e.Number n) ≡ Number n
tree-Number n = ap tree (sym (e.rolls-Number n)) ∙ fold-roll-Expr ArgTree Tree arg_step expr_step (Expr-F.«Expr::Number» n)

pub tree-Name : (n : Box Name Global) → tree (e.Name n) ≡ Named n.value
tree-Name n = ap tree (sym (e.rolls-Name n)) ∙ fold-roll-Expr ArgTree Tree arg_step expr_step (Expr-F.Name n)

pub tree-Group : (x : Box Expr Global) → tree (e.Group x) ≡ Group (tree x.value)
tree-Group x = ap tree (sym (e.rolls-Group x)) ∙ fold-roll-Expr ArgTree Tree arg_step expr_step (Expr-F.Group x)

pub tree-Unary : (op : UnaryOp) (x : Box Expr Global) → tree (e.Unary op x) ≡ Unary op (tree x.value)
tree-Unary op x = ap tree (sym (e.rolls-Unary op x)) ∙ fold-roll-Expr ArgTree Tree arg_step expr_step (Expr-F.Unary op x)

pub tree-Binary : (op : BinaryOp) (x y : Box Expr Global) → tree (e.Binary op x y) ≡ Binary op (tree x.value) (tree y.value)
tree-Binary op x y = ap tree (sym (e.rolls-Binary op x y)) ∙ fold-roll-Expr ArgTree Tree arg_step expr_step (Expr-F.Binary op x y)

pub tree-Cond : (x y z : Box Expr Global) → tree (e.Cond x y z) ≡ Cond (tree x.value) (tree y.value) (tree z.value)
tree-Cond x y z = ap tree (sym (e.rolls-Cond x y z)) ∙ fold-roll-Expr ArgTree Tree arg_step expr_step (Expr-F.Cond x y z)

pub tree-Assign : (n : Box Name Global) (x : Box Expr Global) → tree (e.Assign n x) ≡ Assign n.value (tree x.value)
tree-Assign n x = ap tree (sym (e.rolls-Assign n x)) ∙ fold-roll-Expr ArgTree Tree arg_step expr_step (Expr-F.Assign n x)

pub tree-Call : (n : Box CalledName Global) (args : List Arg) → tree (e.Call n args) ≡ Call n.value.name (arg_trees args)
tree-Call n args = ap tree (sym (e.rolls-Call n args)) ∙ fold-roll-Expr ArgTree Tree arg_step expr_step (Expr-F.Call n args)

pub arg_tree-Number : (at : Place) (x : Expr) → arg_tree (a.Number at x) ≡ ExprArg at (tree x)
arg_tree-Number at x = ap arg_tree (sym (a.rolls-Number at x)) ∙ fold-roll-Arg ArgTree Tree arg_step expr_step (Arg-F.«Arg::Number» at x)

pub arg_tree-Text : (t : Box string.TextArg Global) → arg_tree (a.Text t) ≡ TextArg t.value
arg_tree-Text t = ap arg_tree (sym (a.rolls-Text t)) ∙ fold-roll-Arg ArgTree Tree arg_step expr_step (Arg-F.Text t)
