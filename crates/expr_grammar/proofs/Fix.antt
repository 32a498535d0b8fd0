-- What reads with enough turns reads by its own steps.
use Rattle.std.proofs.Common.{◌≡◌, ℕ, zero, suc, ◌+◌, ◌<◌, ◌≤◌, List, [], ◌∷◌, length, Option, Some, None, Ok, Err, refl, sym, ◌∙◌, arith}
use Rattle.std.specs.Prelude.{codes, nat_lt}
use Rattle.std.specs.Str.{bytes_eq}
use Rattle.expr_grammar.specs.declared.code.Name.{Name}
use Rattle.expr_grammar.specs.declared.code.UnaryOp.{UnaryOp}
use Rattle.expr_grammar.specs.declared.code.BinaryOp.{BinaryOp}
use Rattle.expr_grammar.specs.declared.token.TokenKind.{TokenKind}
use Rattle.expr_grammar.specs.declared.token.TokenKind.TheVariants as kinds
use Rattle.dap_base.specs.declared.text.Place.{Place}
use Rattle.expr_grammar.specs.Tree as t
use Rattle.expr_grammar.specs.Tree.{Tree, ArgTree, ArgTrees, StmtTree}
use Rattle.expr_grammar.specs.Lexeme.{Lexeme}
use Rattle.expr_grammar.specs.Grammar.{level}
use Rattle.expr_grammar.specs.Reading.{Front, Made, name_of, Aim, Whole, Choice, Level, Climb, Operand, Arguments, Further, Statements, is_mark, is_text_kind, unary_of, binary_of, between_quotes, expect, name_first, quoted_string, grouped_expression, marked_operand, call_after_name, name_or_call, operand_by, climb_by, choice_after, set_to, assignment_after, argument, arguments, closing_parenthesis, further, declaration_after, plain, statement, statements, step, read, read_within, whole, choice, at_level, climb, operand}
use Rattle.dap_base.specs.Outcome.{◌>>=◌}
use Rattle.expr_grammar.proofs.Shrinks.{bind_over, bind_same, cond_same, cond_same_else, Short, Shrinks, expect_shrinks, operand_shrinks, level_shrinks, choice_shrinks, argument_shrinks, name_shrinks, statement_shrinks, step_shrinks}

module _ (n : ℕ) (p : (aim : Aim) → List Lexeme → Front (Made aim)) (h : Shrinks n p) where
  -- ---- two readers that agree on shorter lists agree
  module _ (q : (aim : Aim) → List Lexeme → Front (Made aim)) (same : (aim : Aim) (ts : List Lexeme) → length ts < n → p aim ts ≡ q aim ts) where
    grouped_same : (ts : List Lexeme) → length ts < n → grouped_expression p ts ≡ grouped_expression q ts
    grouped_same ts lt = bind_same (p Whole ts) (q Whole ts) _ _ (same Whole ts lt) (λ x e. refl)

    marked_same : (o : Option UnaryOp) (k : Lexeme) (ts : List Lexeme) → length ts < n → marked_operand p o k ts ≡ marked_operand q o k ts
    marked_same (Some op) k ts lt = bind_same (p Operand ts) (q Operand ts) _ _ (same Operand ts lt) (λ x e. refl)
    marked_same None k ts lt = cond_same (bytes_eq k.text (codes "(")) (grouped_expression p ts) (grouped_expression q ts) (Err (suc (length ts))) (λ _. grouped_same ts lt)

    called_same : (m : Name) (ts : List Lexeme) → length ts < n → call_after_name p m ts ≡ call_after_name q m ts
    called_same m [] lt = refl
    called_same m (k ∷ ts) lt =
        cond_same_else (is_mark (codes ")") k) (Ok (t.Call m t.NoArgs, ts)) _ _ (λ _. bind_same (p Arguments (k ∷ ts)) (q Arguments (k ∷ ts)) (λ y. Ok (t.Call m y.0, y.1)) (λ y. Ok (t.Call m y.0, y.1)) (same Arguments (k ∷ ts) lt) (λ y e. refl))

    named_same : (m : Name) (ts : List Lexeme) → length ts < n → name_or_call p m ts ≡ name_or_call q m ts
    named_same m [] lt = refl
    named_same m (k ∷ ts) lt = cond_same (is_mark (codes "(") k) (call_after_name p m ts) (call_after_name q m ts) (Ok (t.Named m, k ∷ ts)) (λ _. called_same m ts (omega (arith, lt)))

    operand_by_same : (kind : TokenKind) (k : Lexeme) (ts : List Lexeme) → length ts < n → operand_by p kind k ts ≡ operand_by q kind k ts
    operand_by_same kinds.Number k ts lt = refl
    operand_by_same kinds.Name k ts lt = named_same (name_of k) ts lt
    operand_by_same kinds.Text k ts lt = refl
    operand_by_same kinds.Mark k ts lt = marked_same (unary_of k.text) k ts lt

    operand_same : (ts : List Lexeme) → length ts ≤ n → operand p ts ≡ operand q ts
    unfolding operand
    operand_same [] le = refl
    operand_same (k ∷ ts) le = operand_by_same k.kind k ts (omega arith)

    climb_by_same : (l : ℕ) (e : Tree) (o : Option BinaryOp) (k : Lexeme) (ts : List Lexeme) → length ts < n → climb_by p l e o k ts ≡ climb_by q l e o k ts
    climb_by_same l e None k ts lt = refl
    climb_by_same l e (Some op) k ts lt =
        cond_same_else (nat_lt (level op) l) (Ok (e, k ∷ ts)) _ _ (λ _.
        bind_same (p (Level (level op + 1)) ts) (q (Level (level op + 1)) ts) (λ y. p (Climb l (t.Binary op e y.0)) y.1) (λ y. q (Climb l (t.Binary op e y.0)) y.1)
        (same (Level (level op + 1)) ts lt) (λ y is. same (Climb l (t.Binary op e y.0)) y.1 (omega (arith, h (Level (level op + 1)) ts y lt is))))

    climb_same : (l : ℕ) (e : Tree) (ts : List Lexeme) → length ts ≤ n → climb p l e ts ≡ climb q l e ts
    unfolding climb
    climb_same l e [] le = refl
    climb_same l e (k ∷ ts) le = climb_by_same l e (binary_of k) k ts (omega arith)

    level_same : (l : ℕ) (ts : List Lexeme) → length ts ≤ n → at_level p l ts ≡ at_level q l ts
    unfolding at_level
    level_same l ts le =
        bind_same (operand p ts) (operand q ts) (λ y. p (Climb l y.0) y.1) (λ y. q (Climb l y.0) y.1) (operand_same ts le)
        (λ y is. same (Climb l y.0) y.1 (omega (arith, operand_shrinks n p h ts y le is)))

    asked_same : (e : Tree) (ts : List Lexeme) → length ts ≤ n → choice_after p e ts ≡ choice_after q e ts
    unfolding choice_after
    asked_same e [] le = refl
    asked_same e (k ∷ ts) le =
        cond_same (is_mark (codes "?") k) _ _ (Ok (e, k ∷ ts)) (λ _.
        let lt : length ts < n = omega arith in
        bind_same (p Whole ts) (q Whole ts) (λ y. expect (codes ":") y.1 >>= λ rest. p Choice rest.1 >>= λ z. Ok (t.Cond e y.0 z.0, z.1)) (λ y. expect (codes ":") y.1 >>= λ rest. q Choice rest.1 >>= λ z. Ok (t.Cond e y.0 z.0, z.1)) (same Whole ts lt) (λ y is.
        bind_over (expect (codes ":") y.1) (λ rest. p Choice rest.1 >>= λ z. Ok (t.Cond e y.0 z.0, z.1)) (λ rest. q Choice rest.1 >>= λ z. Ok (t.Cond e y.0 z.0, z.1)) (λ rest got.
        bind_same (p Choice rest.1) (q Choice rest.1) (λ z. Ok (t.Cond e y.0 z.0, z.1)) (λ z. Ok (t.Cond e y.0 z.0, z.1))
        (same Choice rest.1 (omega (arith, h Whole ts y lt is, expect_shrinks (codes ":") y.1 rest got))) (λ z _. refl))))

    choice_same : (ts : List Lexeme) → length ts ≤ n → choice p ts ≡ choice q ts
    unfolding choice
    choice_same ts le =
        bind_same (at_level p 2 ts) (at_level q 2 ts) (λ y. choice_after p y.0 y.1) (λ y. choice_after q y.0 y.1) (level_same 2 ts le)
        (λ y is. asked_same y.0 y.1 (omega (arith, level_shrinks n p h 2 ts y le is)))

    set_same : (m : Name) (ts : List Lexeme) → length ts ≤ n → set_to p m ts ≡ set_to q m ts
    set_same m [] le = refl
    set_same m (k ∷ ts) le =
        cond_same (is_mark (codes "=") k) _ _ (Ok (t.Named m, k ∷ ts)) (λ _.
        bind_same (p Whole ts) (q Whole ts) (λ y. Ok (t.Assign m y.0, y.1)) (λ y. Ok (t.Assign m y.0, y.1)) (same Whole ts (omega arith)) (λ y _. refl))

    assigned_same : (e : Tree) (ts : List Lexeme) → length ts ≤ n → assignment_after p e ts ≡ assignment_after q e ts
    unfolding assignment_after
    assigned_same (t.Named m) ts le = set_same m ts le
    assigned_same e ts le = refl

    whole_same : (ts : List Lexeme) → length ts ≤ n → whole p ts ≡ whole q ts
    unfolding whole
    whole_same ts le =
        bind_same (choice p ts) (choice q ts) (λ y. assignment_after p y.0 y.1) (λ y. assignment_after q y.0 y.1) (choice_same ts le)
        (λ y is. assigned_same y.0 y.1 (omega (arith, choice_shrinks n p h ts y le is)))

    argument_same : (ts : List Lexeme) → length ts ≤ n → argument p ts ≡ argument q ts
    unfolding argument
    argument_same [] le = refl
    argument_same (k ∷ ts) le =
        cond_same_else (is_text_kind k.kind) (quoted_string (between_quotes k.text) k.at ts) _ _ (λ _. bind_same (whole p (k ∷ ts)) (whole q (k ∷ ts)) (λ y. Ok (t.ExprArg k.at y.0, y.1)) (λ y. Ok (t.ExprArg k.at y.0, y.1)) (whole_same (k ∷ ts) le) (λ y e. refl))

    arguments_same : (ts : List Lexeme) → length ts ≤ n → arguments p ts ≡ arguments q ts
    unfolding arguments
    arguments_same ts le =
        bind_same (argument p ts) (argument q ts) (λ y. p Further y.1 >>= λ more. Ok (t.MoreArgs y.0 more.0, more.1)) (λ y. q Further y.1 >>= λ more. Ok (t.MoreArgs y.0 more.0, more.1)) (argument_same ts le) (λ y is.
        bind_same (p Further y.1) (q Further y.1) (λ more. Ok (t.MoreArgs y.0 more.0, more.1)) (λ more. Ok (t.MoreArgs y.0 more.0, more.1)) (same Further y.1 (omega (arith, argument_shrinks n p h ts y le is, le))) (λ more _. refl))

    further_same : (ts : List Lexeme) → length ts ≤ n → further p ts ≡ further q ts
    unfolding further
    further_same [] le = refl
    further_same (k ∷ ts) le = cond_same (is_mark (codes ",") k) (arguments p ts) (arguments q ts) (closing_parenthesis p (k ∷ ts)) (λ _. arguments_same ts (omega (arith, le)))

    declared_same : (ts : List Lexeme) → length ts ≤ n → declaration_after p ts ≡ declaration_after q ts
    unfolding declaration_after
    declared_same ts le =
        bind_over (name_first ts) (λ y. expect (codes "=") y.1 >>= λ equals. whole p equals.1 >>= λ z. expect (codes ";") z.1 >>= λ rest. Ok (t.Declare y.0 z.0, rest.1)) (λ y. expect (codes "=") y.1 >>= λ equals. whole q equals.1 >>= λ z. expect (codes ";") z.1 >>= λ rest. Ok (t.Declare y.0 z.0, rest.1)) (λ y first.
        bind_over (expect (codes "=") y.1) (λ equals. whole p equals.1 >>= λ z. expect (codes ";") z.1 >>= λ rest. Ok (t.Declare y.0 z.0, rest.1)) (λ equals. whole q equals.1 >>= λ z. expect (codes ";") z.1 >>= λ rest. Ok (t.Declare y.0 z.0, rest.1)) (λ equals second.
        bind_same (whole p equals.1) (whole q equals.1) (λ z. expect (codes ";") z.1 >>= λ rest. Ok (t.Declare y.0 z.0, rest.1)) (λ z. expect (codes ";") z.1 >>= λ rest. Ok (t.Declare y.0 z.0, rest.1))
        (whole_same equals.1 (omega (arith, name_shrinks n p h ts y first, expect_shrinks (codes "=") y.1 equals second, le))) (λ z _. refl)))

    plain_same : (at : Place) (ts : List Lexeme) → length ts ≤ n → plain p at ts ≡ plain q at ts
    unfolding plain
    plain_same at ts le =
        bind_same (whole p ts) (whole q ts) (λ z. expect (codes ";") z.1 >>= λ rest. Ok (t.Plain at z.0, rest.1)) (λ z. expect (codes ";") z.1 >>= λ rest. Ok (t.Plain at z.0, rest.1)) (whole_same ts le) (λ z _. refl)

    statement_same : (ts : List Lexeme) → length ts ≤ n → statement p ts ≡ statement q ts
    unfolding statement
    statement_same [] le = refl
    statement_same (k ∷ ts) le =
        cond_same_else (is_mark (codes ";") k) (Ok (t.Empty k.at, ts)) _ _ (λ _.
        cond_same (is_mark (codes "__var") k) (declaration_after p ts) (declaration_after q ts) (plain p k.at (k ∷ ts)) (λ _. declared_same ts (omega (arith, le)))
        ∙ cond_same_else (is_mark (codes "__var") k) (declaration_after q ts) (plain p k.at (k ∷ ts)) (plain q k.at (k ∷ ts)) (λ _. plain_same k.at (k ∷ ts) le))

    statements_same : (ts : List Lexeme) → length ts ≤ n → statements p ts ≡ statements q ts
    unfolding statements
    statements_same [] le = refl
    statements_same (k ∷ ts) le =
        bind_same (statement p (k ∷ ts)) (statement q (k ∷ ts)) (λ s. p Statements s.1 >>= λ more. Ok (s.0 ∷ more.0, more.1)) (λ s. q Statements s.1 >>= λ more. Ok (s.0 ∷ more.0, more.1)) (statement_same (k ∷ ts) le) (λ s is.
        bind_same (p Statements s.1) (q Statements s.1) (λ more. Ok (s.0 ∷ more.0, more.1)) (λ more. Ok (s.0 ∷ more.0, more.1)) (same Statements s.1 (omega (arith, statement_shrinks n p h (k ∷ ts) s le is, le))) (λ more _. refl))

    step_same : (aim : Aim) (ts : List Lexeme) → length ts ≤ n → step p aim ts ≡ step q aim ts
    step_same Whole ts le = whole_same ts le
    step_same Choice ts le = choice_same ts le
    step_same (Level l) ts le = level_same l ts le
    step_same (Climb l e) ts le = climb_same l e ts le
    step_same Operand ts le = operand_same ts le
    step_same Arguments ts le = arguments_same ts le
    step_same Further ts le = further_same ts le
    step_same Statements ts le = statements_same ts le

within_shrinks : (n : ℕ) → Shrinks n (read_within n)
unfolding read_within
within_shrinks zero aim ts x lt e = absurd (omega arith)
within_shrinks (suc n) aim ts x lt e = step_shrinks n (read_within n) (within_shrinks n) aim ts x (omega arith) e

within_same : (n m : ℕ) → n ≤ m → (aim : Aim) (ts : List Lexeme) → length ts < n → read_within n aim ts ≡ read_within m aim ts
unfolding read_within
within_same zero m le aim ts lt = absurd (omega arith)
within_same (suc n) zero le aim ts lt = absurd (omega arith)
within_same (suc n) (suc m) le aim ts lt =
    step_same n (read_within n) (within_shrinks n) (read_within m) (within_same n m (omega arith)) aim ts (omega arith)

pub fixed : (aim : Aim) (ts : List Lexeme) → read aim ts ≡ step read aim ts
unfolding read read_within
fixed aim ts =
    let n = length ts in
    step_same n (read_within n) (within_shrinks n) read (λ a us lt. sym (within_same (suc (length us)) n (omega arith) a us (omega arith))) aim ts (omega arith)

pub whole_is : (ts : List Lexeme) → read Whole ts ≡ whole read ts
whole_is ts = fixed Whole ts

pub choice_is : (ts : List Lexeme) → read Choice ts ≡ choice read ts
choice_is ts = fixed Choice ts

pub level_is : (l : ℕ) (ts : List Lexeme) → read (Level l) ts ≡ at_level read l ts
level_is l ts = fixed (Level l) ts

pub climb_is : (l : ℕ) (e : Tree) (ts : List Lexeme) → read (Climb l e) ts ≡ climb read l e ts
climb_is l e ts = fixed (Climb l e) ts

pub operand_is : (ts : List Lexeme) → read Operand ts ≡ operand read ts
operand_is ts = fixed Operand ts

pub arguments_is : (ts : List Lexeme) → read Arguments ts ≡ arguments read ts
arguments_is ts = fixed Arguments ts

pub further_is : (ts : List Lexeme) → read Further ts ≡ further read ts
further_is ts = fixed Further ts

pub statements_is : (ts : List Lexeme) → read Statements ts ≡ statements read ts
statements_is ts = fixed Statements ts

-- what is left is shorter
pub shrinks : (aim : Aim) (ts : List Lexeme) (x : Made aim × List Lexeme) → read aim ts ≡ Ok x → Short aim (length ts) (length x.1)
unfolding read
shrinks aim ts x e = within_shrinks (suc (length ts)) aim ts x (omega arith) e

pub ruleset fixes = (whole_is, choice_is, level_is, climb_is, operand_is, arguments_is, further_is, statements_is)
