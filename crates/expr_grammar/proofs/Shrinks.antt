-- What is left after what was read is shorter.
use Rattle.std.proofs.Common.{◌≡◌, ℕ, suc, ◌+◌, ◌<◌, ◌≤◌, Bool, true, false, cond, List, [], ◌∷◌, length, Option, Some, None, Result, Ok, Err, refl, ap, ◌∙◌, arith}
use Rattle.dap_base.proofs.Basics.{same_Ok}
use Rattle.std.specs.Prelude.{codes, nat_lt}
use Rattle.std.specs.Str.{bytes_eq}
use Rattle.expr_grammar.specs.declared.code.Name.{Name}
use Rattle.expr_grammar.specs.declared.code.UnaryOp.{UnaryOp}
use Rattle.expr_grammar.specs.declared.code.BinaryOp.{BinaryOp}
use Rattle.expr_grammar.specs.declared.token.TokenKind.{TokenKind}
use Rattle.expr_grammar.specs.declared.token.TokenKind.TheVariants as kinds
use Rattle.dap_base.specs.declared.text.Place.{Place}
use Rattle.expr_grammar.specs.Tree as t
use Rattle.expr_grammar.specs.Tree.{Tree, ArgTree, ArgTrees, StmtTree}
use Rattle.dap_base.specs.Number.{number_value}
use Rattle.expr_grammar.specs.Lexeme.{Lexeme}
use Rattle.expr_grammar.specs.Grammar.{level}
use Rattle.expr_grammar.specs.Reading.{Front, Made, name_of, Aim, Whole, Choice, Level, Climb, Operand, Arguments, Further, Statements, is_mark, is_text_kind, is_name_kind, unary_of, binary_of, between_quotes, expect, name_first, number_read, quoted_string, grouped_expression, marked_operand, call_after_name, name_or_call, operand_by, climb_by, choice_after, set_to, assignment_after, argument, arguments, closing_parenthesis, further, declaration_after, plain, statement, statements, step, whole, choice, at_level, climb, operand}
use Rattle.dap_base.specs.Outcome.{◌>>=◌}

pub bind_ok : {A B : Type 0} (r : Result A ℕ) (f : A → Result B ℕ) (y : B) → (r >>= f) ≡ Ok y → (x : A) × (r ≡ Ok x) × (f x ≡ Ok y)
bind_ok (Ok x) f y e = (x, refl, e)
bind_ok (Err d) f y e = absurd cc

abbrev pub ok : {A : Type 0} → A → Result A ℕ
ok x = Ok x

pub bind_over : {A B : Type 0} (r : Result A ℕ) (f g : A → Result B ℕ) → ((x : A) → r ≡ Ok x → f x ≡ g x) → (r >>= f) ≡ (r >>= g)
bind_over (Ok x) f g h = h x refl
bind_over (Err d) f g h = refl

pub bind_same : {A B : Type 0} (r s : Result A ℕ) (f g : A → Result B ℕ) → r ≡ s → ((x : A) → r ≡ Ok x → f x ≡ g x) → (r >>= f) ≡ (s >>= g)
bind_same r s f g e h = bind_over r f g h ∙ ap (λ v. v >>= g) e

pub cond_same : {A : Type 0} (b : Bool) (x x' y : A) → (b ≡ true → x ≡ x') → cond b x y ≡ cond b x' y
cond_same true x x' y h = h refl
cond_same false x x' y h = refl

pub cond_same_else : {A : Type 0} (b : Bool) (x y y' : A) → (b ≡ false → y ≡ y') → cond b x y ≡ cond b x y'
cond_same_else true x y y' h = refl
cond_same_else false x y y' h = h refl

pub ap_rest : {A : Type 0} (e : A) (ts : List Lexeme) (x : A × List Lexeme) → ok (e, ts) ≡ ok x → ts ≡ x.1
ap_rest {A} e ts x h = ap (λ (y : A × List Lexeme). y.1) (same_Ok (e, ts) x h)

pub rest_length : {A : Type 0} (e : A) (ts : List Lexeme) (x : A × List Lexeme) → ok (e, ts) ≡ ok x → length ts ≡ length x.1
rest_length e ts x h = ap length (ap_rest e ts x h)

-- ---- how much is left

abbrev pub Short : Aim → ℕ → ℕ → Type 0
Short (Climb l e) before after = after ≤ before
Short Statements before after = after ≤ before
Short _ before after = after < before

abbrev pub Shrinks : ℕ → ((aim : Aim) → List Lexeme → Front (Made aim)) → Type 0
Shrinks n p = (aim : Aim) (ts : List Lexeme) (x : Made aim × List Lexeme) → length ts < n → p aim ts ≡ Ok x → Short aim (length ts) (length x.1)

pub cond_ok : (b : Bool) (ts : List Lexeme) (k : ℕ) (rest : Unit {0} × List Lexeme) (n : ℕ) → cond b (Ok (tt, ts)) (Err k) ≡ Ok rest → length ts ≡ n → length rest.1 < suc n
cond_ok true ts k rest n e h = let same : ts ≡ rest.1 = ap (λ (y : Unit {0} × List Lexeme). y.1) (same_Ok (tt, ts) rest e) in omega (arith, ap length same)
cond_ok false ts k rest n e h = absurd cc

pub expect_shrinks : (text : List ℕ) (ts : List Lexeme) (rest : Unit {0} × List Lexeme) → expect text ts ≡ Ok rest → length rest.1 < length ts
unfolding expect
expect_shrinks text [] rest e = absurd cc
expect_shrinks text (t ∷ ts) rest e = cond_ok (is_mark text t) ts (suc (length ts)) rest (length ts) e refl

pub cond_shrinks : {A : Type 0} (b : Bool) (r : Result A ℕ) (k : ℕ) (x : A) → cond b r (Err k) ≡ Ok x → r ≡ Ok x
cond_shrinks true r k x e = e
cond_shrinks false r k x e = absurd cc

module _ (n : ℕ) (p : (aim : Aim) → List Lexeme → Front (Made aim)) (h : Shrinks n p) where
  pub grouped_shrinks : (ts : List Lexeme) (x : Tree × List Lexeme) → length ts < n → grouped_expression p ts ≡ Ok x → length x.1 < length ts
  grouped_shrinks ts x lt e =
      let a = bind_ok (p Whole ts) (λ y. expect (codes ")") y.1 >>= λ rest. Ok (t.Group y.0, rest.1)) x e in
      let b = bind_ok (expect (codes ")") a.0.1) (λ rest. Ok (t.Group a.0.0, rest.1)) x a.2 in
      let first = h Whole ts a.0 lt a.1 in
      let second = expect_shrinks (codes ")") a.0.1 b.0 b.1 in
      let same : b.0.1 ≡ x.1 = ap_rest (t.Group a.0.0) b.0.1 x b.2 in
      omega (arith, first, second, ap length same)

  pub unary_shrinks : (op : UnaryOp) (ts : List Lexeme) (x : Tree × List Lexeme) → length ts < n → (p Operand ts >>= λ y. Ok (t.Unary op y.0, y.1)) ≡ Ok x → length x.1 < length ts
  unary_shrinks op ts x lt e =
      let a = bind_ok (p Operand ts) (λ y. Ok (t.Unary op y.0, y.1)) x e in
      let first = h Operand ts a.0 lt a.1 in
      omega (arith, first, ap length (ap_rest (t.Unary op a.0.0) a.0.1 x a.2))

  pub marked_shrinks : (o : Option UnaryOp) (k : Lexeme) (ts : List Lexeme) (x : Tree × List Lexeme) → length ts < n → marked_operand p o k ts ≡ Ok x → length x.1 < suc (length ts)
  marked_shrinks (Some op) k ts x lt e = omega (arith, unary_shrinks op ts x lt e)
  marked_shrinks None k ts x lt e = omega (arith, grouped_shrinks ts x lt (cond_shrinks (bytes_eq k.text (codes "(")) (grouped_expression p ts) (suc (length ts)) x e))

  pub numbered_shrinks : (o : Option ℕ) (ts : List Lexeme) (x : Tree × List Lexeme) → number_read o ts ≡ Ok x → length x.1 < suc (length ts)
  numbered_shrinks None ts x e = absurd cc
  numbered_shrinks (Some v) ts x e = omega (arith, ap length (ap_rest (t.Number v) ts x e))

  pub called_more_shrinks : (m : Name) (k : Lexeme) (ts : List Lexeme) (x : Tree × List Lexeme) → suc (length ts) < n → (p Arguments (k ∷ ts) >>= λ y. Ok (t.Call m y.0, y.1)) ≡ Ok x → length x.1 < suc (length ts)
  called_more_shrinks m k ts x lt e =
      let a = bind_ok (p Arguments (k ∷ ts)) (λ y. Ok (t.Call m y.0, y.1)) x e in
      let first = h Arguments (k ∷ ts) a.0 lt a.1 in
      omega (arith, first, ap length (ap_rest (t.Call m a.0.0) a.0.1 x a.2))

  pub called_by_shrinks : (b : Bool) (m : Name) (k : Lexeme) (ts : List Lexeme) (x : Tree × List Lexeme) → suc (length ts) < n
      → cond b (Ok (t.Call m t.NoArgs, ts)) (p Arguments (k ∷ ts) >>= λ y. Ok (t.Call m y.0, y.1)) ≡ Ok x → length x.1 < suc (length ts)
  called_by_shrinks true m k ts x lt e = omega (arith, ap length (ap_rest (t.Call m t.NoArgs) ts x e))
  called_by_shrinks false m k ts x lt e = called_more_shrinks m k ts x lt e

  pub called_shrinks : (m : Name) (ts : List Lexeme) (x : Tree × List Lexeme) → length ts < n → call_after_name p m ts ≡ Ok x → length x.1 < length ts
  called_shrinks m [] x lt e = absurd cc
  called_shrinks m (k ∷ ts) x lt e = called_by_shrinks (is_mark (codes ")") k) m k ts x lt e

  pub named_by_shrinks : (b : Bool) (m : Name) (k : Lexeme) (ts : List Lexeme) (x : Tree × List Lexeme) → length ts < n → cond b (call_after_name p m ts) (Ok (t.Named m, k ∷ ts)) ≡ Ok x → length x.1 ≤ suc (length ts)
  named_by_shrinks true m k ts x lt e = omega (arith, called_shrinks m ts x lt e)
  named_by_shrinks false m k ts x lt e = omega (arith, ap length (ap_rest (t.Named m) (k ∷ ts) x e))

  pub named_shrinks : (m : Name) (ts : List Lexeme) (x : Tree × List Lexeme) → length ts < n → name_or_call p m ts ≡ Ok x → length x.1 ≤ length ts
  named_shrinks m [] x lt e = omega (arith, ap length (ap_rest (t.Named m) [] x e))
  named_shrinks m (k ∷ ts) x lt e = named_by_shrinks (is_mark (codes "(") k) m k ts x (omega (arith, lt)) e

  pub operand_by_shrinks : (kind : TokenKind) (k : Lexeme) (ts : List Lexeme) (x : Tree × List Lexeme) → length ts < n → operand_by p kind k ts ≡ Ok x → length x.1 < suc (length ts)
  operand_by_shrinks kinds.Number k ts x lt e = numbered_shrinks (number_value k.text) ts x e
  operand_by_shrinks kinds.Name k ts x lt e = omega (arith, named_shrinks (name_of k) ts x lt e)
  operand_by_shrinks kinds.Text k ts x lt e = absurd cc
  operand_by_shrinks kinds.Mark k ts x lt e = marked_shrinks (unary_of k.text) k ts x lt e

  pub operand_shrinks : (ts : List Lexeme) (x : Tree × List Lexeme) → length ts ≤ n → operand p ts ≡ Ok x → length x.1 < length ts
  unfolding operand
  operand_shrinks [] x le e = absurd cc
  operand_shrinks (k ∷ ts) x le e = operand_by_shrinks k.kind k ts x (omega arith) e

  pub climb_more_shrinks : (l : ℕ) (e : Tree) (op : BinaryOp) (k : Lexeme) (b : Bool) (ts : List Lexeme) (x : Tree × List Lexeme) → length ts < n
      → cond b (Ok (e, k ∷ ts)) (p (Level (level op + 1)) ts >>= λ y. p (Climb l (t.Binary op e y.0)) y.1) ≡ Ok x → length x.1 ≤ suc (length ts)
  climb_more_shrinks l e op k true ts x lt eq = omega (arith, ap length (ap_rest e (k ∷ ts) x eq))
  climb_more_shrinks l e op k false ts x lt eq =
      let a = bind_ok (p (Level (level op + 1)) ts) (λ y. p (Climb l (t.Binary op e y.0)) y.1) x eq in
      let first = h (Level (level op + 1)) ts a.0 lt a.1 in
      let second = h (Climb l (t.Binary op e a.0.0)) a.0.1 x (omega (arith, first)) a.2 in
      omega (arith, first, second)

  pub climb_by_shrinks : (l : ℕ) (e : Tree) (o : Option BinaryOp) (k : Lexeme) (ts : List Lexeme) (x : Tree × List Lexeme) → length ts < n → climb_by p l e o k ts ≡ Ok x → length x.1 ≤ suc (length ts)
  climb_by_shrinks l e None k ts x lt eq = omega (arith, ap length (ap_rest e (k ∷ ts) x eq))
  climb_by_shrinks l e (Some op) k ts x lt eq = climb_more_shrinks l e op k (nat_lt (level op) l) ts x lt eq

  pub climb_shrinks : (l : ℕ) (e : Tree) (ts : List Lexeme) (x : Tree × List Lexeme) → length ts ≤ n → climb p l e ts ≡ Ok x → length x.1 ≤ length ts
  unfolding climb
  climb_shrinks l e [] x le eq = omega (arith, ap length (ap_rest e [] x eq))
  climb_shrinks l e (k ∷ ts) x le eq = climb_by_shrinks l e (binary_of k) k ts x (omega arith) eq

  pub level_shrinks : (l : ℕ) (ts : List Lexeme) (x : Tree × List Lexeme) → length ts ≤ n → at_level p l ts ≡ Ok x → length x.1 < length ts
  unfolding at_level
  level_shrinks l ts x le e =
      let a = bind_ok (operand p ts) (λ y. p (Climb l y.0) y.1) x e in
      let first = operand_shrinks ts a.0 le a.1 in
      omega (arith, first, h (Climb l a.0.0) a.0.1 x (omega (arith, first)) a.2)

  pub cond_part_shrinks : (e : Tree) (ts : List Lexeme) (x : Tree × List Lexeme) → length ts < n
      → (p Whole ts >>= λ y. expect (codes ":") y.1 >>= λ rest. p Choice rest.1 >>= λ z. Ok (t.Cond e y.0 z.0, z.1)) ≡ Ok x → length x.1 < length ts
  cond_part_shrinks e ts x lt eq =
      let a = bind_ok (p Whole ts) (λ y. expect (codes ":") y.1 >>= λ rest. p Choice rest.1 >>= λ z. Ok (t.Cond e y.0 z.0, z.1)) x eq in
      let b = bind_ok (expect (codes ":") a.0.1) (λ rest. p Choice rest.1 >>= λ z. Ok (t.Cond e a.0.0 z.0, z.1)) x a.2 in
      let c = bind_ok (p Choice b.0.1) (λ z. Ok (t.Cond e a.0.0 z.0, z.1)) x b.2 in
      let first = h Whole ts a.0 lt a.1 in
      let second = expect_shrinks (codes ":") a.0.1 b.0 b.1 in
      let third = h Choice b.0.1 c.0 (omega (arith, first, second)) c.1 in
      omega (arith, first, second, third, ap length (ap_rest (t.Cond e a.0.0 c.0.0) c.0.1 x c.2))

  pub asked_by_shrinks : (b : Bool) (e : Tree) (k : Lexeme) (ts : List Lexeme) (x : Tree × List Lexeme) → length ts < n
      → cond b (p Whole ts >>= λ y. expect (codes ":") y.1 >>= λ rest. p Choice rest.1 >>= λ z. Ok (t.Cond e y.0 z.0, z.1)) (Ok (e, k ∷ ts)) ≡ Ok x → length x.1 ≤ suc (length ts)
  asked_by_shrinks true e k ts x lt eq = omega (arith, cond_part_shrinks e ts x lt eq)
  asked_by_shrinks false e k ts x lt eq = omega (arith, ap length (ap_rest e (k ∷ ts) x eq))

  pub asked_shrinks : (e : Tree) (ts : List Lexeme) (x : Tree × List Lexeme) → length ts ≤ n → choice_after p e ts ≡ Ok x → length x.1 ≤ length ts
  unfolding choice_after
  asked_shrinks e [] x le eq = omega (arith, ap length (ap_rest e [] x eq))
  asked_shrinks e (k ∷ ts) x le eq = asked_by_shrinks (is_mark (codes "?") k) e k ts x (omega arith) eq

  pub choice_shrinks : (ts : List Lexeme) (x : Tree × List Lexeme) → length ts ≤ n → choice p ts ≡ Ok x → length x.1 < length ts
  unfolding choice
  choice_shrinks ts x le e =
      let a = bind_ok (at_level p 2 ts) (λ y. choice_after p y.0 y.1) x e in
      let first = level_shrinks 2 ts a.0 le a.1 in
      omega (arith, first, asked_shrinks a.0.0 a.0.1 x (omega (arith, first)) a.2)

  pub set_by_shrinks : (b : Bool) (m : Name) (k : Lexeme) (ts : List Lexeme) (x : Tree × List Lexeme) → length ts < n
      → cond b (p Whole ts >>= λ y. Ok (t.Assign m y.0, y.1)) (Ok (t.Named m, k ∷ ts)) ≡ Ok x → length x.1 ≤ suc (length ts)
  set_by_shrinks true m k ts x lt eq =
      let a = bind_ok (p Whole ts) (λ y. Ok (t.Assign m y.0, y.1)) x eq in
      omega (arith, h Whole ts a.0 lt a.1, ap length (ap_rest (t.Assign m a.0.0) a.0.1 x a.2))
  set_by_shrinks false m k ts x lt eq = omega (arith, ap length (ap_rest (t.Named m) (k ∷ ts) x eq))

  pub set_shrinks : (m : Name) (ts : List Lexeme) (x : Tree × List Lexeme) → length ts ≤ n → set_to p m ts ≡ Ok x → length x.1 ≤ length ts
  set_shrinks m [] x le eq = omega (arith, ap length (ap_rest (t.Named m) [] x eq))
  set_shrinks m (k ∷ ts) x le eq = set_by_shrinks (is_mark (codes "=") k) m k ts x (omega arith) eq

  pub assigned_shrinks : (e : Tree) (ts : List Lexeme) (x : Tree × List Lexeme) → length ts ≤ n → assignment_after p e ts ≡ Ok x → length x.1 ≤ length ts
  unfolding assignment_after
  assigned_shrinks (t.Named m) ts x le eq = set_shrinks m ts x le eq
  assigned_shrinks e ts x le eq = omega (arith, ap length (ap_rest e ts x eq))

  pub whole_shrinks : (ts : List Lexeme) (x : Tree × List Lexeme) → length ts ≤ n → whole p ts ≡ Ok x → length x.1 < length ts
  unfolding whole
  whole_shrinks ts x le e =
      let a = bind_ok (choice p ts) (λ y. assignment_after p y.0 y.1) x e in
      let first = choice_shrinks ts a.0 le a.1 in
      omega (arith, first, assigned_shrinks a.0.0 a.0.1 x (omega (arith, first)) a.2)

  pub quoted_shrinks : (o : Option (List ℕ)) (at : Place) (ts : List Lexeme) (x : ArgTree × List Lexeme) → quoted_string o at ts ≡ Ok x → length x.1 < suc (length ts)
  quoted_shrinks None at ts x e = absurd cc
  quoted_shrinks (Some text) at ts x e = omega (arith, ap length (ap_rest (t.TextArg (record { text = text; at = at })) ts x e))

  pub argument_by_shrinks : (b : Bool) (k : Lexeme) (ts : List Lexeme) (x : ArgTree × List Lexeme) → length ts < n
      → cond b (quoted_string (between_quotes k.text) k.at ts) (whole p (k ∷ ts) >>= λ y. Ok (t.ExprArg k.at y.0, y.1)) ≡ Ok x → length x.1 < suc (length ts)
  argument_by_shrinks true k ts x lt e = quoted_shrinks (between_quotes k.text) k.at ts x e
  argument_by_shrinks false k ts x lt e =
      let a = bind_ok (whole p (k ∷ ts)) (λ y. Ok (t.ExprArg k.at y.0, y.1)) x e in
      omega (arith, whole_shrinks (k ∷ ts) a.0 (omega (arith, lt)) a.1, ap length (ap_rest (t.ExprArg k.at a.0.0) a.0.1 x a.2))

  pub argument_shrinks : (ts : List Lexeme) (x : ArgTree × List Lexeme) → length ts ≤ n → argument p ts ≡ Ok x → length x.1 < length ts
  unfolding argument
  argument_shrinks [] x le e = absurd cc
  argument_shrinks (k ∷ ts) x le e = argument_by_shrinks (is_text_kind k.kind) k ts x (omega (arith, le)) e

  pub arguments_shrinks : (ts : List Lexeme) (x : ArgTrees × List Lexeme) → length ts ≤ n → arguments p ts ≡ Ok x → length x.1 < length ts
  unfolding arguments
  arguments_shrinks ts x le e =
      let a = bind_ok (argument p ts) (λ y. p Further y.1 >>= λ more. Ok (t.MoreArgs y.0 more.0, more.1)) x e in
      let b = bind_ok (p Further a.0.1) (λ more. Ok (t.MoreArgs a.0.0 more.0, more.1)) x a.2 in
      let first = argument_shrinks ts a.0 le a.1 in
      let second = h Further a.0.1 b.0 (omega (arith, first, le)) b.1 in
      omega (arith, first, second, ap length (ap_rest (t.MoreArgs a.0.0 b.0.0) b.0.1 x b.2))

  pub closed_shrinks : (ts : List Lexeme) (x : ArgTrees × List Lexeme) → closing_parenthesis p ts ≡ Ok x → length x.1 < length ts
  closed_shrinks ts x e =
      let a = bind_ok (expect (codes ")") ts) (λ rest. Ok (t.NoArgs, rest.1)) x e in
      omega (arith, expect_shrinks (codes ")") ts a.0 a.1, ap length (ap_rest t.NoArgs a.0.1 x a.2))

  pub further_by_shrinks : (b : Bool) (k : Lexeme) (ts : List Lexeme) (x : ArgTrees × List Lexeme) → length ts < n → cond b (arguments p ts) (closing_parenthesis p (k ∷ ts)) ≡ Ok x → length x.1 < suc (length ts)
  further_by_shrinks true k ts x lt e = omega (arith, arguments_shrinks ts x (omega (arith, lt)) e)
  further_by_shrinks false k ts x lt e = closed_shrinks (k ∷ ts) x e

  pub further_shrinks : (ts : List Lexeme) (x : ArgTrees × List Lexeme) → length ts ≤ n → further p ts ≡ Ok x → length x.1 < length ts
  unfolding further
  further_shrinks [] x le e = closed_shrinks [] x e
  further_shrinks (k ∷ ts) x le e = further_by_shrinks (is_mark (codes ",") k) k ts x (omega (arith, le)) e

  pub name_by : (b : Bool) (k : Lexeme) (ts : List Lexeme) (m : ℕ) (x : Name × List Lexeme) → length ts ≡ m → cond b (Ok (name_of k, ts)) (Err (suc (length ts))) ≡ Ok x → length x.1 < suc m
  name_by true k ts m x len e = omega (arith, len, ap length (ap_rest (name_of k) ts x e))
  name_by false k ts m x len e = absurd cc

  pub name_shrinks : (ts : List Lexeme) (x : Name × List Lexeme) → name_first ts ≡ Ok x → length x.1 < length ts
  unfolding name_first
  name_shrinks [] x e = absurd cc
  name_shrinks (k ∷ ts) x e = name_by (is_name_kind k.kind) k ts (length ts) x refl e

  pub declared_shrinks : (ts : List Lexeme) (x : StmtTree × List Lexeme) → length ts ≤ n → declaration_after p ts ≡ Ok x → length x.1 < length ts
  unfolding declaration_after
  declared_shrinks ts x le e =
      let a = bind_ok (name_first ts) (λ y. expect (codes "=") y.1 >>= λ equals. whole p equals.1 >>= λ z. expect (codes ";") z.1 >>= λ rest. Ok (t.Declare y.0 z.0, rest.1)) x e in
      let b = bind_ok (expect (codes "=") a.0.1) (λ equals. whole p equals.1 >>= λ z. expect (codes ";") z.1 >>= λ rest. Ok (t.Declare a.0.0 z.0, rest.1)) x a.2 in
      let c = bind_ok (whole p b.0.1) (λ z. expect (codes ";") z.1 >>= λ rest. Ok (t.Declare a.0.0 z.0, rest.1)) x b.2 in
      let d = bind_ok (expect (codes ";") c.0.1) (λ rest. Ok (t.Declare a.0.0 c.0.0, rest.1)) x c.2 in
      let first = name_shrinks ts a.0 a.1 in
      let second = expect_shrinks (codes "=") a.0.1 b.0 b.1 in
      let third = whole_shrinks b.0.1 c.0 (omega (arith, first, second, le)) c.1 in
      let fourth = expect_shrinks (codes ";") c.0.1 d.0 d.1 in
      omega (arith, first, second, third, fourth, rest_length (t.Declare a.0.0 c.0.0) d.0.1 x d.2)

  pub plain_shrinks : (at : Place) (ts : List Lexeme) (x : StmtTree × List Lexeme) → length ts ≤ n → plain p at ts ≡ Ok x → length x.1 < length ts
  unfolding plain
  plain_shrinks at ts x le e =
      let c = bind_ok (whole p ts) (λ z. expect (codes ";") z.1 >>= λ rest. Ok (t.Plain at z.0, rest.1)) x e in
      let d = bind_ok (expect (codes ";") c.0.1) (λ rest. Ok (t.Plain at c.0.0, rest.1)) x c.2 in
      let third = whole_shrinks ts c.0 le c.1 in
      let fourth = expect_shrinks (codes ";") c.0.1 d.0 d.1 in
      omega (arith, third, fourth, ap length (ap_rest (t.Plain at c.0.0) d.0.1 x d.2))

  pub statement_by_shrinks : (b c : Bool) (k : Lexeme) (ts : List Lexeme) (x : StmtTree × List Lexeme) → length ts < n
      → cond b (Ok (t.Empty k.at, ts)) (cond c (declaration_after p ts) (plain p k.at (k ∷ ts))) ≡ Ok x → length x.1 < suc (length ts)
  statement_by_shrinks true c k ts x lt e = omega (arith, ap length (ap_rest (t.Empty k.at) ts x e))
  statement_by_shrinks false true k ts x lt e = omega (arith, declared_shrinks ts x (omega (arith, lt)) e)
  statement_by_shrinks false false k ts x lt e = plain_shrinks k.at (k ∷ ts) x lt e

  pub statement_shrinks : (ts : List Lexeme) (x : StmtTree × List Lexeme) → length ts ≤ n → statement p ts ≡ Ok x → length x.1 < length ts
  unfolding statement
  statement_shrinks [] x le e = absurd cc
  statement_shrinks (k ∷ ts) x le e = statement_by_shrinks (is_mark (codes ";") k) (is_mark (codes "__var") k) k ts x (omega (arith, le)) e

  pub statements_shrinks : (ts : List Lexeme) (x : List StmtTree × List Lexeme) → length ts ≤ n → statements p ts ≡ Ok x → length x.1 ≤ length ts
  unfolding statements
  statements_shrinks [] x le e = omega (arith, ap length (ap_rest [] [] x e))
  statements_shrinks (k ∷ ts) x le e =
      let a = bind_ok (statement p (k ∷ ts)) (λ s. p Statements s.1 >>= λ more. Ok (s.0 ∷ more.0, more.1)) x e in
      let b = bind_ok (p Statements a.0.1) (λ more. Ok (a.0.0 ∷ more.0, more.1)) x a.2 in
      let first = statement_shrinks (k ∷ ts) a.0 le a.1 in
      let second = h Statements a.0.1 b.0 (omega (arith, first, le)) b.1 in
      omega (arith, first, second, ap length (ap_rest (a.0.0 ∷ b.0.0) b.0.1 x b.2))

  pub step_shrinks : (aim : Aim) (ts : List Lexeme) (x : Made aim × List Lexeme) → length ts ≤ n → step p aim ts ≡ Ok x → Short aim (length ts) (length x.1)
  step_shrinks Whole ts x le e = whole_shrinks ts x le e
  step_shrinks Choice ts x le e = choice_shrinks ts x le e
  step_shrinks (Level l) ts x le e = level_shrinks l ts x le e
  step_shrinks (Climb l e) ts x le eq = climb_shrinks l e ts x le eq
  step_shrinks Operand ts x le e = operand_shrinks ts x le e
  step_shrinks Arguments ts x le e = arguments_shrinks ts x le e
  step_shrinks Further ts x le e = further_shrinks ts x le e
  step_shrinks Statements ts x le e = statements_shrinks ts x le e
