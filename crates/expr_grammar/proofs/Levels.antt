-- How tightly the next token binds, and where reading stops.
use Rattle.std.proofs.Common.{◌≡◌, ℕ, ◌<◌, ◌≤◌, Bool, true, false, List, [], ◌∷◌, Option, Some, None, Ok, refl, ◌∙◌, arith}
use Rattle.std.specs.Prelude.{codes}
use Rattle.std.specs.Str.{bytes_eq}
use Rattle.std.proofs.lemmas.Bool.{lt-ltb}
use Rattle.expr_grammar.specs.declared.code.Name.{Name}
use Rattle.expr_grammar.specs.declared.code.UnaryOp.{UnaryOp}
use Rattle.expr_grammar.specs.declared.code.UnaryOp.TheVariants as u
use Rattle.expr_grammar.specs.declared.code.BinaryOp.{BinaryOp}
use Rattle.expr_grammar.specs.declared.code.BinaryOp.TheVariants as b
use Rattle.expr_grammar.specs.Tree as t
use Rattle.expr_grammar.specs.Tree.{Tree, ArgTree, ArgTrees}
use Rattle.expr_grammar.specs.Lexeme.{Lexeme}
use Rattle.expr_grammar.specs.Grammar.{level, binary_text, unary_text, IsMark}
use Rattle.expr_grammar.specs.Reading.{Climb, is_mark, unary_of, operator_of, binary_of, expect, climb_by, choice_after, set_to, assignment_after, read, climb}
use Rattle.expr_grammar.proofs.Fix.{climb_is}

-- ---- how tightly the next token binds, and what else it goes on with

abbrev pub level_of : Option BinaryOp → ℕ
level_of None = 0
level_of (Some op) = level op

abbrev pub binds : List Lexeme → ℕ
binds [] = 0
binds (k ∷ ts) = level_of (binary_of k)

abbrev pub begins : List ℕ → List Lexeme → Bool
begins text [] = false
begins text (k ∷ ts) = is_mark text k

abbrev pub top : Tree → ℕ
top (t.Binary op x y) = level op
top (t.Cond c x y) = 1
top (t.Assign n x) = 0
top _ = 12

pub level_most : (op : BinaryOp) → level op ≤ 11
level_most b.Mul = omega arith
level_most b.Div = omega arith
level_most b.Rem = omega arith
level_most b.Add = omega arith
level_most b.Sub = omega arith
level_most b.Shl = omega arith
level_most b.Shr = omega arith
level_most b.Lt = omega arith
level_most b.Le = omega arith
level_most b.Gt = omega arith
level_most b.Ge = omega arith
level_most b.Eq = omega arith
level_most b.Ne = omega arith
level_most b.BitAnd = omega arith
level_most b.BitXor = omega arith
level_most b.BitOr = omega arith
level_most b.And = omega arith
level_most b.Or = omega arith

pub level_least : (op : BinaryOp) → 2 ≤ level op
level_least b.Mul = omega arith
level_least b.Div = omega arith
level_least b.Rem = omega arith
level_least b.Add = omega arith
level_least b.Sub = omega arith
level_least b.Shl = omega arith
level_least b.Shr = omega arith
level_least b.Lt = omega arith
level_least b.Le = omega arith
level_least b.Gt = omega arith
level_least b.Ge = omega arith
level_least b.Eq = omega arith
level_least b.Ne = omega arith
level_least b.BitAnd = omega arith
level_least b.BitXor = omega arith
level_least b.BitOr = omega arith
level_least b.And = omega arith
level_least b.Or = omega arith

pub operator_text : (op : BinaryOp) → operator_of (binary_text op) ≡ Some op
operator_text b.Mul = refl
operator_text b.Div = refl
operator_text b.Rem = refl
operator_text b.Add = refl
operator_text b.Sub = refl
operator_text b.Shl = refl
operator_text b.Shr = refl
operator_text b.Lt = refl
operator_text b.Le = refl
operator_text b.Gt = refl
operator_text b.Ge = refl
operator_text b.Eq = refl
operator_text b.Ne = refl
operator_text b.BitAnd = refl
operator_text b.BitXor = refl
operator_text b.BitOr = refl
operator_text b.And = refl
operator_text b.Or = refl

pub operator_shut : (op : BinaryOp) → bytes_eq (binary_text op) (codes "(") ≡ false
operator_shut b.Mul = refl
operator_shut b.Div = refl
operator_shut b.Rem = refl
operator_shut b.Add = refl
operator_shut b.Sub = refl
operator_shut b.Shl = refl
operator_shut b.Shr = refl
operator_shut b.Lt = refl
operator_shut b.Le = refl
operator_shut b.Gt = refl
operator_shut b.Ge = refl
operator_shut b.Eq = refl
operator_shut b.Ne = refl
operator_shut b.BitAnd = refl
operator_shut b.BitXor = refl
operator_shut b.BitOr = refl
operator_shut b.And = refl
operator_shut b.Or = refl

pub unary_is : (op : UnaryOp) → unary_of (unary_text op) ≡ Some op
unary_is u.Not = refl
unary_is u.Flip = refl
unary_is u.Minus = refl
unary_is u.Plus = refl

pub mark_binary : (text : List ℕ) (k : Lexeme) → IsMark text k → binary_of k ≡ operator_of text
unfolding binary_of
mark_binary text k m = rw (m.kind, m.text_is) refl

pub mark_is : (text other : List ℕ) (k : Lexeme) → IsMark text k → is_mark other k ≡ bytes_eq text other
mark_is text other k m = rw (m.kind, m.text_is) refl

pub op_binary : (op : BinaryOp) (k : Lexeme) → IsMark (binary_text op) k → binary_of k ≡ Some op
op_binary op k m = mark_binary (binary_text op) k m ∙ operator_text op

pub climb_over : (l : ℕ) (e : Tree) (o : Option BinaryOp) (k : Lexeme) (ts : List Lexeme) → level_of o < l → climb_by read l e o k ts ≡ Ok (e, k ∷ ts)
climb_over l e None k ts lt = refl
climb_over l e (Some op) k ts lt = rw (lt-ltb (level op) l lt) refl

-- no operator that binds tightly enough comes
pub climb_stops : (l : ℕ) (e : Tree) (rest : List Lexeme) → binds rest < l → read (Climb l e) rest ≡ Ok (e, rest)
unfolding climb
climb_stops l e [] lt = climb_is l e []
climb_stops l e (k ∷ ts) lt = climb_is l e (k ∷ ts) ∙ climb_over l e (binary_of k) k ts lt

pub asked_stops : (e : Tree) (rest : List Lexeme) → begins (codes "?") rest ≡ false → choice_after read e rest ≡ Ok (e, rest)
unfolding choice_after
asked_stops e [] h = refl
asked_stops e (k ∷ ts) h = rw h refl

pub set_stops : (n : Name) (rest : List Lexeme) → begins (codes "=") rest ≡ false → set_to read n rest ≡ Ok (t.Named n, rest)
set_stops n [] h = refl
set_stops n (k ∷ ts) h = rw h refl

pub assigned_stops : (e : Tree) (rest : List Lexeme) → begins (codes "=") rest ≡ false → assignment_after read e rest ≡ Ok (e, rest)
unfolding assignment_after
assigned_stops (t.Named n) rest h = set_stops n rest h
assigned_stops e rest h = refl

pub expect_is : (text : List ℕ) (k : Lexeme) (rest : List Lexeme) → is_mark text k ≡ true → expect text (k ∷ rest) ≡ Ok (tt, rest)
unfolding expect
expect_is text k rest h = rw h refl
