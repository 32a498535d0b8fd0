-- The grammar of code, as relations of lists of tokens and trees.
use Rattle.std.specs.Prelude.{◌≡◌, ℕ, ◌+◌, ◌≤◌, List, [], ◌∷◌, ◌++◌, Some, codes}
use Rattle.dap_base.specs.declared.text.Place.{Place}
use Rattle.dap_base.specs.Number.{number_value}
use Rattle.expr_grammar.specs.declared.code.Name.{Name}
use Rattle.expr_grammar.specs.declared.code.TextArg as string
use Rattle.expr_grammar.specs.declared.code.UnaryOp.{UnaryOp}
use Rattle.expr_grammar.specs.declared.code.UnaryOp.TheVariants as u
use Rattle.expr_grammar.specs.declared.code.BinaryOp.{BinaryOp}
use Rattle.expr_grammar.specs.declared.code.BinaryOp.TheVariants as b
use Rattle.expr_grammar.specs.declared.token.TokenKind.TheVariants as kinds
use Rattle.expr_grammar.specs.Lexeme.{Lexeme}
use Rattle.expr_grammar.specs.Tree.{Tree, Number, Named, Group, Unary, Binary, Cond, Assign, Call, ArgTree, ExprArg}
use Rattle.expr_grammar.specs.Tree.{TextArg, ArgTrees, NoArgs, MoreArgs, StmtTree, Empty, Declare, Plain}

-- how an operator before an operand is written
abbrev pub unary_text : UnaryOp → List ℕ
unary_text u.Not = codes "!"
unary_text u.Flip = codes "~"
unary_text u.Minus = codes "-"
unary_text u.Plus = codes "+"

-- how an operator between operands is written
abbrev pub binary_text : BinaryOp → List ℕ
binary_text b.Mul = codes "*"
binary_text b.Div = codes "/"
binary_text b.Rem = codes "%"
binary_text b.Add = codes "+"
binary_text b.Sub = codes "-"
binary_text b.Shl = codes "<<"
binary_text b.Shr = codes ">>"
binary_text b.Lt = codes "<"
binary_text b.Le = codes "<="
binary_text b.Gt = codes ">"
binary_text b.Ge = codes ">="
binary_text b.Eq = codes "=="
binary_text b.Ne = codes "!="
binary_text b.BitAnd = codes "&"
binary_text b.BitXor = codes "^"
binary_text b.BitOr = codes "|"
binary_text b.And = codes "&&"
binary_text b.Or = codes "||"

-- How tightly an operator binds. The levels of expressions: 0 assignments, 1 choices by `?` and `:`,
-- 2 to 11 the operators between operands, 12 operators before an operand and what needs none.
abbrev pub level : BinaryOp → ℕ
level b.Mul = 11
level b.Div = 11
level b.Rem = 11
level b.Add = 10
level b.Sub = 10
level b.Shl = 9
level b.Shr = 9
level b.Lt = 8
level b.Le = 8
level b.Gt = 8
level b.Ge = 8
level b.Eq = 7
level b.Ne = 7
level b.BitAnd = 6
level b.BitXor = 5
level b.BitOr = 4
level b.And = 3
level b.Or = 2

-- ---- single tokens

-- the token is this mark
pub record IsMark (text : List ℕ) (k : Lexeme) : Type 0 where
  pub kind : k.kind ≡ kinds.Mark
  pub text_is : k.text ≡ text

-- the token is a number of this value
pub record IsNumber (n : ℕ) (k : Lexeme) : Type 0 where
  pub kind : k.kind ≡ kinds.Number
  pub value : number_value k.text ≡ Some n

-- the token is this name
pub record IsName (n : Name) (k : Lexeme) : Type 0 where
  pub kind : k.kind ≡ kinds.Name
  pub text_is : k.text ≡ n.text
  pub at_is : k.at ≡ n.at

-- a string: what stands between its quotes
pub record IsString (s : string.TextArg) (k : Lexeme) : Type 0 where
  pub kind : k.kind ≡ kinds.Text
  pub text_is : k.text ≡ 34 ∷ s.text ++ 34 ∷ []
  pub at_is : k.at ≡ s.at

-- ---- how parts are put together

-- one token
pub record Single (P : Lexeme → Type 0) (ts : List Lexeme) : Type 0 where
  pub only : Lexeme
  pub parts : ts ≡ only ∷ []
  pub is : P only

-- a mark and what follows it
pub record Prefixed (text : List ℕ) (P : List Lexeme → Type 0) (ts : List Lexeme) : Type 0 where
  pub mark : Lexeme
  pub rest : List Lexeme
  pub parts : ts ≡ mark ∷ rest
  pub is_mark : IsMark text mark
  pub inner : P rest

-- two parts with a mark between them
pub record Joined (P : List Lexeme → Type 0) (text : List ℕ) (Q : List Lexeme → Type 0) (ts : List Lexeme) : Type 0 where
  pub left : List Lexeme
  pub mark : Lexeme
  pub right : List Lexeme
  pub parts : ts ≡ left ++ mark ∷ right
  pub is_mark : IsMark text mark
  pub first : P left
  pub second : Q right

-- a part and a mark after it
pub record Ended (P : List Lexeme → Type 0) (text : List ℕ) (ts : List Lexeme) : Type 0 where
  pub front : List Lexeme
  pub mark : Lexeme
  pub parts : ts ≡ front ++ mark ∷ []
  pub is_mark : IsMark text mark
  pub inner : P front

-- one part and then another
pub record Then (P Q : List Lexeme → Type 0) (ts : List Lexeme) : Type 0 where
  pub left : List Lexeme
  pub right : List Lexeme
  pub parts : ts ≡ left ++ right
  pub first : P left
  pub second : Q right

-- the first of the tokens stands at this place
abbrev pub BeginsAt : Place → List Lexeme → Type 0
BeginsAt at [] = ⊥
BeginsAt at (k ∷ ts) = k.at ≡ at

-- ---- the grammar

-- The grammar of expressions and of their arguments.
abbrev mutual
  -- The tokens are those of the expression, at this level: one case for each form of expression.
  pub Reads : ℕ → List Lexeme → Tree → Type 0
  Reads l ts (Number n) = (l ≤ 12) × Single (IsNumber n) ts
  Reads l ts (Named n) = (l ≤ 12) × Single (IsName n) ts
  Reads l ts (Group a) = (l ≤ 12) × Prefixed (codes "(") (Ended (λ inner. Reads 0 inner a) (codes ")")) ts
  Reads l ts (Unary op a) = (l ≤ 12) × Prefixed (unary_text op) (λ rest. Reads 12 rest a) ts
  Reads l ts (Binary op x y) = (l ≤ level op) × Joined (λ left. Reads (level op) left x) (binary_text op) (λ right. Reads (level op + 1) right y) ts
  Reads l ts (Cond c x y) = (l ≤ 1) × Joined (λ first. Reads 2 first c) (codes "?") (Joined (λ middle. Reads 0 middle x) (codes ":") (λ last. Reads 1 last y)) ts
  Reads l ts (Assign n a) = (l ≤ 0) × Joined (Single (IsName n)) (codes "=") (λ right. Reads 0 right a) ts
  Reads l ts (Call n args) = (l ≤ 12) × Joined (Single (IsName n)) (codes "(") (Ended (λ inner. ReadsArgs inner args) (codes ")")) ts

  -- an argument: an expression with the place where it begins, or a string
  pub ReadsArg : List Lexeme → ArgTree → Type 0
  ReadsArg ts (ExprArg at e) = Reads 0 ts e × BeginsAt at ts
  ReadsArg ts (TextArg s) = Single (IsString s) ts

  -- arguments with commas between them, or none
  pub ReadsArgs : List Lexeme → ArgTrees → Type 0
  ReadsArgs ts NoArgs = ts ≡ []
  ReadsArgs ts (MoreArgs a more) = Then (λ front. ReadsArg front a) (λ rest. ReadsMore rest more) ts

  -- further arguments, each after a comma
  pub ReadsMore : List Lexeme → ArgTrees → Type 0
  ReadsMore ts NoArgs = ts ≡ []
  ReadsMore ts (MoreArgs a more) = Prefixed (codes ",") (Then (λ front. ReadsArg front a) (λ rest. ReadsMore rest more)) ts

-- an expression
abbrev pub ReadsExpr : List Lexeme → Tree → Type 0
ReadsExpr ts e = Reads 0 ts e

-- a statement
abbrev pub ReadsStmt : List Lexeme → StmtTree → Type 0
ReadsStmt ts (Empty at) = Single (λ k. IsMark (codes ";") k × (k.at ≡ at)) ts
ReadsStmt ts (Declare n e) = Prefixed (codes "__var") (Joined (Single (IsName n)) (codes "=") (Ended (λ value. Reads 0 value e) (codes ";"))) ts
ReadsStmt ts (Plain at e) = Ended (λ front. Reads 0 front e × BeginsAt at front) (codes ";") ts

-- statements, one after the other
abbrev pub ReadsCode : List Lexeme → List StmtTree → Type 0
ReadsCode ts [] = ts ≡ []
ReadsCode ts (s ∷ more) = Then (λ front. ReadsStmt front s) (λ rest. ReadsCode rest more) ts
