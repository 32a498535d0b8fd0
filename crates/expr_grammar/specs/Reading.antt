-- Reading from left to right: what private contracts cite. An error is how many tokens are left where it is met.
use Rattle.std.specs.Prelude.{◌≡◌, ℕ, zero, suc, ◌+◌, Bool, true, false, ◌&&◌, ◌==◌, List, [], ◌∷◌, length, ⊤}
use Rattle.std.specs.Prelude.{Option, Some, None, Result, Ok, Err, nat_lt, if◌then◌else◌, codes}
use Rattle.std.specs.Str.{bytes_eq}
use Rattle.dap_base.specs.declared.text.Place.{Place}
use Rattle.dap_base.specs.Number.{number_value}
use Rattle.dap_base.specs.Outcome.{◌>>=◌}
use Rattle.expr_grammar.specs.declared.code.Name.{Name}
use Rattle.expr_grammar.specs.declared.code.UnaryOp.{UnaryOp}
use Rattle.expr_grammar.specs.declared.code.UnaryOp.TheVariants as u
use Rattle.expr_grammar.specs.declared.code.BinaryOp.{BinaryOp}
use Rattle.expr_grammar.specs.declared.code.BinaryOp.TheVariants as b
use Rattle.expr_grammar.specs.declared.token.TokenKind.{TokenKind}
use Rattle.expr_grammar.specs.declared.token.TokenKind.TheVariants as kinds
use Rattle.expr_grammar.specs.declared.fault.Fault.{Fault}
use Rattle.expr_grammar.specs.declared.fault.Fault.TheVariants as faults
use Rattle.expr_grammar.specs.Lexeme.{Lexeme}
use Rattle.expr_grammar.specs.Tree.{Tree, Number, Named, Group, Unary, Binary, Cond, Assign, Call, ArgTree, ExprArg}
use Rattle.expr_grammar.specs.Tree.{TextArg, ArgTrees, NoArgs, MoreArgs, StmtTree, Empty, Declare, Plain}
use Rattle.expr_grammar.specs.Grammar.{level}

-- the fault is that of reading, with as many tokens left, unless memory ran out
abbrev pub Fails : {Y : Type 0} → Fault → Result Y ℕ → Type 0
Fails faults.Memory read = ⊤
Fails (faults.Unexpected left) read = read ≡ Err left

-- What a function returned, seen by view, is what reading gives, unless memory ran out.
abbrev pub GivesReading : {X Y : Type 0} → (X → Y) → Result X Fault → Result Y ℕ → Type 0
GivesReading view (Ok x) read = read ≡ Ok (view x)
GivesReading view (Err e) read = Fails e read

-- what is read from the front, and the tokens that are left
abbrev pub Front : Type 0 → Type 0
Front A = Result (A × List Lexeme) ℕ

-- the same of an expression
abbrev pub Read : Type 0
Read = Front Tree

-- ---- single tokens

-- whether a token of this kind is a mark
abbrev pub is_mark_kind : TokenKind → Bool
is_mark_kind kinds.Mark = true
is_mark_kind _ = false

-- whether a token of this kind is a name
abbrev pub is_name_kind : TokenKind → Bool
is_name_kind kinds.Name = true
is_name_kind _ = false

-- whether a token of this kind is a string
abbrev pub is_text_kind : TokenKind → Bool
is_text_kind kinds.Text = true
is_text_kind _ = false

-- whether the token is this mark
abbrev pub is_mark : List ℕ → Lexeme → Bool
is_mark text k = is_mark_kind k.kind && bytes_eq k.text text

-- the operator before an operand that is spelled so, if there is one
abbrev pub unary_of : List ℕ → Option UnaryOp
unary_of text =
    if bytes_eq text (codes "!") then Some u.Not
    else (if bytes_eq text (codes "~") then Some u.Flip
    else (if bytes_eq text (codes "-") then Some u.Minus
    else (if bytes_eq text (codes "+") then Some u.Plus
    else None)))

-- the operator between two operands that is spelled so, if there is one
abbrev pub operator_of : List ℕ → Option BinaryOp
operator_of text =
    if bytes_eq text (codes "*") then Some b.Mul
    else (if bytes_eq text (codes "/") then Some b.Div
    else (if bytes_eq text (codes "%") then Some b.Rem
    else (if bytes_eq text (codes "+") then Some b.Add
    else (if bytes_eq text (codes "-") then Some b.Sub
    else (if bytes_eq text (codes "<<") then Some b.Shl
    else (if bytes_eq text (codes ">>") then Some b.Shr
    else (if bytes_eq text (codes "<") then Some b.Lt
    else (if bytes_eq text (codes "<=") then Some b.Le
    else (if bytes_eq text (codes ">") then Some b.Gt
    else (if bytes_eq text (codes ">=") then Some b.Ge
    else (if bytes_eq text (codes "==") then Some b.Eq
    else (if bytes_eq text (codes "!=") then Some b.Ne
    else (if bytes_eq text (codes "&") then Some b.BitAnd
    else (if bytes_eq text (codes "^") then Some b.BitXor
    else (if bytes_eq text (codes "|") then Some b.BitOr
    else (if bytes_eq text (codes "&&") then Some b.And
    else (if bytes_eq text (codes "||") then Some b.Or
    else None)))))))))))))))))

-- the operator between two operands that the token is, if it is one
unfoldable pub binary_of : Lexeme → Option BinaryOp
binary_of k = if is_mark_kind k.kind then operator_of k.text else None

-- the name that a token spells, with its place
abbrev pub name_of : Lexeme → Name
name_of k = record { text = k.text; at = k.at }

-- the bytes with one more in front, where there are bytes
abbrev pub put_before : ℕ → Option (List ℕ) → Option (List ℕ)
put_before b None = None
put_before b (Some bs) = Some (b ∷ bs)

-- what stands before a last quote
abbrev pub before_quote : List ℕ → Option (List ℕ)
before_quote [] = None
before_quote (b ∷ []) = if b == 34 then Some [] else None
before_quote (b ∷ c ∷ cs) = put_before b (before_quote (c ∷ cs))

-- what stands between two quotes
abbrev pub between_quotes : List ℕ → Option (List ℕ)
between_quotes [] = None
between_quotes (b ∷ bs) = if b == 34 then before_quote bs else None

-- ---- expressions, arguments and statements

-- what is read
pub data Aim : Type 0 where
  Whole : Aim
  Choice : Aim
  Level : ℕ → Aim
  Climb : ℕ → Tree → Aim
  Operand : Aim
  Arguments : Aim
  Further : Aim
  Statements : Aim

-- what is read so: arguments, statements, or else an expression
abbrev pub Made : Aim → Type 0
Made Arguments = ArgTrees
Made Further = ArgTrees
Made Statements = List StmtTree
Made _ = Tree

-- this mark
unfoldable pub expect : List ℕ → List Lexeme → Front (Unit {0})
expect text [] = Err 0
expect text (k ∷ ts) = if is_mark text k then Ok (tt, ts) else Err (suc (length ts))

-- this mark comes next, and then the rest
pub record IsNext (text : List ℕ) (ts rest : List Lexeme) : Type 0 where
  pub mark : Lexeme
  pub parts : ts ≡ mark ∷ rest
  pub is : is_mark text mark ≡ true

-- this mark does not come next
abbrev pub IsNotNext : List ℕ → List Lexeme → Type 0
IsNotNext text [] = ⊤
IsNotNext text (k ∷ ts) = is_mark text k ≡ false

-- a name
unfoldable pub name_first : List Lexeme → Front Name
name_first [] = Err 0
name_first (k ∷ ts) = if is_name_kind k.kind then Ok (name_of k, ts) else Err (suc (length ts))

-- a number, if the text has a value
abbrev pub number_read : Option ℕ → List Lexeme → Read
number_read None ts = Err (suc (length ts))
number_read (Some n) ts = Ok (Number n, ts)

-- a string, if the text has quotes
abbrev pub quoted_string : Option (List ℕ) → Place → List Lexeme → Front ArgTree
quoted_string None at ts = Err (suc (length ts))
quoted_string (Some text) at ts = Ok (TextArg (record { text = text; at = at }), ts)

-- how each part is read, by p on shorter lists
module _ (p : (aim : Aim) → List Lexeme → Front (Made aim)) where
  -- an expression in parentheses, after the opening one
  abbrev pub grouped_expression : List Lexeme → Read
  grouped_expression ts = do
    x ← p Whole ts
    rest ← expect (codes ")") x.1
    Ok (Group x.0, rest.1)

  -- the operand of an operator before it
  abbrev pub signed : UnaryOp → List Lexeme → Read
  signed op ts = do
    x ← p Operand ts
    Ok (Unary op x.0, x.1)

  -- an operator before its operand, or an expression in parentheses
  abbrev pub marked_operand : Option UnaryOp → Lexeme → List Lexeme → Read
  marked_operand (Some op) k ts = signed op ts
  marked_operand None k ts = if bytes_eq k.text (codes "(") then grouped_expression ts else Err (suc (length ts))

  -- a call, after the opening parenthesis
  abbrev pub call_after_name : Name → List Lexeme → Read
  call_after_name n [] = Err 0
  call_after_name n (k ∷ ts) =
      if is_mark (codes ")") k then Ok (Call n NoArgs, ts)
      else (do
        x ← p Arguments (k ∷ ts)
        Ok (Call n x.0, x.1))

  -- a call, where `(` comes after the name, else the name
  abbrev pub name_or_call : Name → List Lexeme → Read
  name_or_call n [] = Ok (Named n, [])
  name_or_call n (k ∷ ts) = if is_mark (codes "(") k then call_after_name n ts else Ok (Named n, k ∷ ts)

  -- an operand, by the kind of its first token
  abbrev pub operand_by : TokenKind → Lexeme → List Lexeme → Read
  operand_by kinds.Number k ts = number_read (number_value k.text) ts
  operand_by kinds.Name k ts = name_or_call (name_of k) ts
  operand_by kinds.Text k ts = Err (suc (length ts))
  operand_by kinds.Mark k ts = marked_operand (unary_of k.text) k ts

  -- an operand: a number, a name, a call, an expression in parentheses, or an operator before an operand
  unfoldable pub operand : List Lexeme → Read
  operand [] = Err 0
  operand (k ∷ ts) = operand_by k.kind k ts

  -- goes on with the operator that comes next, if it is of this level or tighter
  abbrev pub climb_by : ℕ → Tree → Option BinaryOp → Lexeme → List Lexeme → Read
  climb_by l e None k ts = Ok (e, k ∷ ts)
  climb_by l e (Some op) k ts =
      if nat_lt (level op) l then Ok (e, k ∷ ts)
      else (do
        x ← p (Level (level op + 1)) ts
        p (Climb l (Binary op e x.0)) x.1)

  -- goes on with operators of this level and tighter
  unfoldable pub climb : ℕ → Tree → List Lexeme → Read
  climb l e [] = Ok (e, [])
  climb l e (k ∷ ts) = climb_by l e (binary_of k) k ts

  -- an expression of operators of this level and tighter
  unfoldable pub at_level : ℕ → List Lexeme → Read
  at_level l ts = do
    x ← operand ts
    p (Climb l x.0) x.1

  -- the two values of a choice
  abbrev pub choice_values : Tree → List Lexeme → Read
  choice_values e ts = do
    x ← p Whole ts
    rest ← expect (codes ":") x.1
    y ← p Choice rest.1
    Ok (Cond e x.0 y.0, y.1)

  -- a choice, where `?` comes after the condition, else the condition
  unfoldable pub choice_after : Tree → List Lexeme → Read
  choice_after e [] = Ok (e, [])
  choice_after e (k ∷ ts) = if is_mark (codes "?") k then choice_values e ts else Ok (e, k ∷ ts)

  -- a choice `? :`, or an expression of tighter operators
  unfoldable pub choice : List Lexeme → Read
  choice ts = do
    c ← at_level 2 ts
    choice_after c.0 c.1

  -- an assignment to the name, where `=` comes next, else the name
  abbrev pub set_to : Name → List Lexeme → Read
  set_to n [] = Ok (Named n, [])
  set_to n (k ∷ ts) =
      if is_mark (codes "=") k then (do
        x ← p Whole ts
        Ok (Assign n x.0, x.1))
      else Ok (Named n, k ∷ ts)

  -- an assignment, where the expression is a name and `=` comes next, else the expression
  unfoldable pub assignment_after : Tree → List Lexeme → Read
  assignment_after (Named n) ts = set_to n ts
  assignment_after e ts = Ok (e, ts)

  -- an expression of any level
  unfoldable pub whole : List Lexeme → Read
  whole ts = do
    e ← choice ts
    assignment_after e.0 e.1

  -- an argument: a string, or an expression with its place
  unfoldable pub argument : List Lexeme → Front ArgTree
  argument [] = Err 0
  argument (k ∷ ts) =
      if is_text_kind k.kind then quoted_string (between_quotes k.text) k.at ts
      else (do
        x ← whole (k ∷ ts)
        Ok (ExprArg k.at x.0, x.1))

  -- one argument or more, and the closing parenthesis
  unfoldable pub arguments : List Lexeme → Front ArgTrees
  arguments ts = do
    a ← argument ts
    more ← p Further a.1
    Ok (MoreArgs a.0 more.0, more.1)

  -- the closing parenthesis
  abbrev pub closing_parenthesis : List Lexeme → Front ArgTrees
  closing_parenthesis ts = do
    rest ← expect (codes ")") ts
    Ok (NoArgs, rest.1)

  -- further arguments, each after a comma, and the closing parenthesis
  unfoldable pub further : List Lexeme → Front ArgTrees
  further [] = closing_parenthesis []
  further (k ∷ ts) = if is_mark (codes ",") k then arguments ts else closing_parenthesis (k ∷ ts)

  -- a declaration, after `__var`
  unfoldable pub declaration_after : List Lexeme → Front StmtTree
  declaration_after ts = do
    n ← name_first ts
    equals ← expect (codes "=") n.1
    x ← whole equals.1
    rest ← expect (codes ";") x.1
    Ok (Declare n.0 x.0, rest.1)

  -- an expression and its semicolon
  unfoldable pub plain : Place → List Lexeme → Front StmtTree
  plain at ts = do
    x ← whole ts
    rest ← expect (codes ";") x.1
    Ok (Plain at x.0, rest.1)

  -- a statement: `;` alone, a declaration, or an expression with its semicolon
  unfoldable pub statement : List Lexeme → Front StmtTree
  statement [] = Err 0
  statement (k ∷ ts) =
      if is_mark (codes ";") k then Ok (Empty k.at, ts)
      else (if is_mark (codes "__var") k then declaration_after ts else plain k.at (k ∷ ts))

  -- statements, up to the end of the tokens
  unfoldable pub statements : List Lexeme → Front (List StmtTree)
  statements [] = Ok ([], [])
  statements (k ∷ ts) = do
    s ← statement (k ∷ ts)
    more ← p Statements s.1
    Ok (s.0 ∷ more.0, more.1)

  -- what the aim says
  abbrev pub step : (aim : Aim) → List Lexeme → Front (Made aim)
  step Whole ts = whole ts
  step Choice ts = choice ts
  step (Level l) ts = at_level l ts
  step (Climb l e) ts = climb l e ts
  step Operand ts = operand ts
  step Arguments ts = arguments ts
  step Further ts = further ts
  step Statements ts = statements ts

-- reads lists of fewer than this many tokens
unfoldable pub read_within : ℕ → (aim : Aim) → List Lexeme → Front (Made aim)
read_within zero aim ts = Err 0
read_within (suc n) aim ts = step (read_within n) aim ts

-- reads at the front of the tokens, all of them if need be
unfoldable pub read : (aim : Aim) → List Lexeme → Front (Made aim)
read aim ts = read_within (suc (length ts)) aim ts

-- all of the tokens
abbrev pub all_of : {X : Type 0} → (List Lexeme → Front X) → List Lexeme → Result X ℕ
all_of f ts = do
  x ← f ts
  if length x.1 == 0 then Ok x.0 else Err (length x.1)
