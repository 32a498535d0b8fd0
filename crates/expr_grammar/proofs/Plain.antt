-- No token of an expression is a `;` or a `__var`.
use Rattle.std.proofs.Common.{◌≡◌, ℕ, false, List, [], ◌∷◌, ◌++◌, refl, sym, ap, subst, ◌∙◌}
use Rattle.std.specs.Prelude.{codes}
use Rattle.std.specs.Str.{bytes_eq}
use Rattle.expr_grammar.specs.declared.code.Name.{Name}
use Rattle.expr_grammar.specs.declared.code.TextArg as string
use Rattle.expr_grammar.specs.declared.code.UnaryOp.{UnaryOp}
use Rattle.expr_grammar.specs.declared.code.UnaryOp.TheVariants as u
use Rattle.expr_grammar.specs.declared.code.BinaryOp.{BinaryOp}
use Rattle.expr_grammar.specs.declared.code.BinaryOp.TheVariants as b
use Rattle.expr_grammar.specs.declared.token.TokenKind.{TokenKind}
use Rattle.expr_grammar.specs.declared.token.TokenKind.TheVariants as kinds
use Rattle.expr_grammar.specs.Lexeme.{Lexeme}
use Rattle.expr_grammar.specs.Tree as t
use Rattle.expr_grammar.specs.Tree.{Tree, ArgTree, ArgTrees}
use Rattle.expr_grammar.specs.Reading.{is_mark_kind}
use Rattle.expr_grammar.specs.Grammar.{unary_text, binary_text, IsMark, IsName, IsNumber, IsString, Reads, ReadsArg, ReadsArgs, ReadsMore}
use Rattle.expr_grammar.specs.Plain.{IsPlain, ArePlain}

-- two lists of such tokens, one after the other
pub both : (a c : List Lexeme) → ArePlain a → ArePlain c → ArePlain (a ++ c)
both [] c p q = q
both (x ∷ a) c p q = (p.0, both a c p.1 q)

-- a token of another kind
other_kind : (k : Lexeme) (kind : TokenKind) → k.kind ≡ kind → is_mark_kind kind ≡ false → IsPlain k
other_kind k kind e other =
    let none : is_mark_kind k.kind ≡ false = ap is_mark_kind e ∙ other in
    record { semicolon = rw none refl; keyword = rw none refl }

-- a mark with another text
other_mark : (k : Lexeme) (text : List ℕ) → IsMark text k → bytes_eq text (codes ";") ≡ false → bytes_eq text (codes "__var") ≡ false → IsPlain k
other_mark k text is a b =
    let kind = is.kind in
    let text_is = is.text_is in
    record {
      semicolon = rw (kind, text_is, a) refl;
      keyword = rw (kind, text_is, b) refl;
    }

unary_plain : (op : UnaryOp) (k : Lexeme) → IsMark (unary_text op) k → IsPlain k
unary_plain u.Not k is = other_mark k (codes "!") is refl refl
unary_plain u.Flip k is = other_mark k (codes "~") is refl refl
unary_plain u.Minus k is = other_mark k (codes "-") is refl refl
unary_plain u.Plus k is = other_mark k (codes "+") is refl refl

binary_plain : (op : BinaryOp) (k : Lexeme) → IsMark (binary_text op) k → IsPlain k
binary_plain b.Mul k is = other_mark k (codes "*") is refl refl
binary_plain b.Div k is = other_mark k (codes "/") is refl refl
binary_plain b.Rem k is = other_mark k (codes "%") is refl refl
binary_plain b.Add k is = other_mark k (codes "+") is refl refl
binary_plain b.Sub k is = other_mark k (codes "-") is refl refl
binary_plain b.Shl k is = other_mark k (codes "<<") is refl refl
binary_plain b.Shr k is = other_mark k (codes ">>") is refl refl
binary_plain b.Lt k is = other_mark k (codes "<") is refl refl
binary_plain b.Le k is = other_mark k (codes "<=") is refl refl
binary_plain b.Gt k is = other_mark k (codes ">") is refl refl
binary_plain b.Ge k is = other_mark k (codes ">=") is refl refl
binary_plain b.Eq k is = other_mark k (codes "==") is refl refl
binary_plain b.Ne k is = other_mark k (codes "!=") is refl refl
binary_plain b.BitAnd k is = other_mark k (codes "&") is refl refl
binary_plain b.BitXor k is = other_mark k (codes "^") is refl refl
binary_plain b.BitOr k is = other_mark k (codes "|") is refl refl
binary_plain b.And k is = other_mark k (codes "&&") is refl refl
binary_plain b.Or k is = other_mark k (codes "||") is refl refl

pub name_plain : (n : Name) (k : Lexeme) → IsName n k → IsPlain k
name_plain n k is = other_kind k kinds.Name is.kind refl

number_plain : (n : ℕ) (k : Lexeme) → IsNumber n k → IsPlain k
number_plain n k is = other_kind k kinds.Number is.kind refl

string_plain : (s : string.TextArg) (k : Lexeme) → IsString s k → IsPlain k
string_plain s k is = other_kind k kinds.Text is.kind refl

along : (ts us : List Lexeme) → ts ≡ us → ArePlain us → ArePlain ts
along ts us e p = subst ArePlain (sym e) p

mutual
  pub plain : (e : Tree) (l : ℕ) (ts : List Lexeme) → Reads l ts e → ArePlain ts
  plain (t.Number n) l ts r = along ts (r.1.only ∷ []) r.1.parts (number_plain n r.1.only r.1.is, tt)
  plain (t.Named n) l ts r = along ts (r.1.only ∷ []) r.1.parts (name_plain n r.1.only r.1.is, tt)
  plain (t.Group a) l ts r =
      let p = r.1 in
      let q = p.inner in
      along ts (p.mark ∷ p.rest) p.parts (
        other_mark p.mark (codes "(") p.is_mark refl refl,
        along p.rest (q.front ++ q.mark ∷ []) q.parts (both q.front (q.mark ∷ []) (plain a 0 q.front q.inner) (other_mark q.mark (codes ")") q.is_mark refl refl, tt)),
      )
  plain (t.Unary op a) l ts r =
      let p = r.1 in
      along ts (p.mark ∷ p.rest) p.parts (unary_plain op p.mark p.is_mark, plain a 12 p.rest p.inner)
  plain (t.Binary op x y) l ts r =
      let p = r.1 in
      along ts (p.left ++ p.mark ∷ p.right) p.parts (both p.left (p.mark ∷ p.right) (plain x _ p.left p.first) (binary_plain op p.mark p.is_mark, plain y _ p.right p.second))
  plain (t.Cond c x y) l ts r =
      let p = r.1 in
      let q = p.second in
      let rest = along p.right (q.left ++ q.mark ∷ q.right) q.parts (both q.left (q.mark ∷ q.right) (plain x 0 q.left q.first) (other_mark q.mark (codes ":") q.is_mark refl refl, plain y 1 q.right q.second)) in
      along ts (p.left ++ p.mark ∷ p.right) p.parts (both p.left (p.mark ∷ p.right) (plain c 2 p.left p.first) (other_mark p.mark (codes "?") p.is_mark refl refl, rest))
  plain (t.Assign n a) l ts r =
      let p = r.1 in
      let name = along p.left (p.first.only ∷ []) p.first.parts (name_plain n p.first.only p.first.is, tt) in
      along ts (p.left ++ p.mark ∷ p.right) p.parts (both p.left (p.mark ∷ p.right) name (other_mark p.mark (codes "=") p.is_mark refl refl, plain a 0 p.right p.second))
  plain (t.Call n args) l ts r =
      let p = r.1 in
      let q = p.second in
      let name = along p.left (p.first.only ∷ []) p.first.parts (name_plain n p.first.only p.first.is, tt) in
      let rest = along p.right (q.front ++ q.mark ∷ []) q.parts (both q.front (q.mark ∷ []) (plain_args args q.front q.inner) (other_mark q.mark (codes ")") q.is_mark refl refl, tt)) in
      along ts (p.left ++ p.mark ∷ p.right) p.parts (both p.left (p.mark ∷ p.right) name (other_mark p.mark (codes "(") p.is_mark refl refl, rest))

  plain_arg : (a : ArgTree) (ts : List Lexeme) → ReadsArg ts a → ArePlain ts
  plain_arg (t.ExprArg at e) ts r = plain e 0 ts r.0
  plain_arg (t.TextArg s) ts r = along ts (r.only ∷ []) r.parts (string_plain s r.only r.is, tt)

  plain_args : (args : ArgTrees) (ts : List Lexeme) → ReadsArgs ts args → ArePlain ts
  plain_args t.NoArgs ts r = along ts [] r tt
  plain_args (t.MoreArgs a more) ts r = along ts (r.left ++ r.right) r.parts (both r.left r.right (plain_arg a r.left r.first) (plain_more more r.right r.second))

  plain_more : (args : ArgTrees) (ts : List Lexeme) → ReadsMore ts args → ArePlain ts
  plain_more t.NoArgs ts r = along ts [] r tt
  plain_more (t.MoreArgs a more) ts r =
      let p = r.inner in
      along ts (r.mark ∷ r.rest) r.parts (other_mark r.mark (codes ",") r.is_mark refl refl, along r.rest (p.left ++ p.right) p.parts (both p.left p.right (plain_arg a p.left p.first) (plain_more more p.right p.second)))
