-- What a token is, by the tests of the reader.
use Rattle.std.proofs.Common.{◌≡◌, ℕ, Bool, true, false, cond, List, Option, Some, None, refl, sym, ap, ◌∙◌}
use Rattle.std.specs.Str.{bytes_eq}
use Rattle.std.specs.Cmp.Lexicographic.{same_text}
use Rattle.std.proofs.lemmas.Bool.{and_parts}
use Rattle.expr_grammar.specs.declared.code.UnaryOp.{UnaryOp}
use Rattle.expr_grammar.specs.declared.code.UnaryOp.TheVariants as u
use Rattle.expr_grammar.specs.declared.code.BinaryOp.{BinaryOp}
use Rattle.expr_grammar.specs.declared.code.BinaryOp.TheVariants as b
use Rattle.expr_grammar.specs.declared.token.TokenKind.{TokenKind}
use Rattle.expr_grammar.specs.declared.token.TokenKind.TheVariants as kinds
use Rattle.expr_grammar.specs.Lexeme.{Lexeme}
use Rattle.expr_grammar.specs.Grammar.{binary_text, unary_text, IsMark}
use Rattle.expr_grammar.specs.Reading.{is_mark_kind, is_mark, unary_of, operator_of, binary_of}

-- ---- what a token is

abbrev some : {A : Type 0} → A → Option A
some x = Some x

some_is : {A : Type 0} (x y : A) → some x ≡ some y → x ≡ y
some_is x y e = cc

found_step : {O : Type 0} (text_of : O → List ℕ) (text : List ℕ) (op : O) (x : O) (rest : Option O) → (rest ≡ Some op → text ≡ text_of op) → (b : Bool) → bytes_eq text (text_of x) ≡ b → cond b (Some x) rest ≡ Some op → text ≡ text_of op
found_step text_of text op x rest later true is e = same_text text (text_of x) (sym is) ∙ ap text_of (some_is x op e)
found_step text_of text op x rest later false is e = later e

pub unary_found : (text : List ℕ) (op : UnaryOp) → unary_of text ≡ Some op → text ≡ unary_text op
unary_found text op e =
    let go = λ (x : UnaryOp) (rest : Option UnaryOp) (later : rest ≡ Some op → text ≡ unary_text op) (e : cond (bytes_eq text (unary_text x)) (Some x) rest ≡ Some op). found_step unary_text text op x rest later (bytes_eq text (unary_text x)) refl e in
    go u.Not _ (go u.Flip _ (go u.Minus _ (go u.Plus None (λ h. absurd cc)))) e

pub operator_found : (text : List ℕ) (op : BinaryOp) → operator_of text ≡ Some op → text ≡ binary_text op
operator_found text op e =
    let go = λ (x : BinaryOp) (rest : Option BinaryOp) (later : rest ≡ Some op → text ≡ binary_text op) (e : cond (bytes_eq text (binary_text x)) (Some x) rest ≡ Some op). found_step binary_text text op x rest later (bytes_eq text (binary_text x)) refl e in
    go b.Mul _ (go b.Div _ (go b.Rem _ (go b.Add _ (go b.Sub _ (go b.Shl _ (go b.Shr _ (go b.Lt _ (go b.Le _ (go b.Gt _ (go b.Ge _ (go b.Eq _ (go b.Ne _ (go b.BitAnd _ (go b.BitXor _ (go b.BitOr _ (go b.And _ (go b.Or None (λ h. absurd cc)))))))))))))))))) e

pub mark_kind_is : (kind : TokenKind) → is_mark_kind kind ≡ true → kind ≡ kinds.Mark
mark_kind_is kinds.Mark e = refl
mark_kind_is kinds.Number e = absurd cc
mark_kind_is kinds.Name e = absurd cc
mark_kind_is kinds.Text e = absurd cc

pub mark_from : (text : List ℕ) (k : Lexeme) → is_mark text k ≡ true → IsMark text k
mark_from text k e =
    let two = and_parts (is_mark_kind k.kind) (bytes_eq k.text text) e in
    record { kind = mark_kind_is k.kind two.0; text_is = same_text k.text text (sym two.1) }

binary_from : (k : Lexeme) (op : BinaryOp) (v : Bool) → is_mark_kind k.kind ≡ v → cond v (operator_of k.text) None ≡ Some op → IsMark (binary_text op) k
binary_from k op true is e = record { kind = mark_kind_is k.kind is; text_is = operator_found k.text op e }
binary_from k op false is e = absurd cc

pub binary_found : (k : Lexeme) (op : BinaryOp) → binary_of k ≡ Some op → IsMark (binary_text op) k
unfolding binary_of
binary_found k op e = binary_from k op (is_mark_kind k.kind) refl e
