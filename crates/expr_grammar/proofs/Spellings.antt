-- Two lists of tokens of one tree differ only in the spelling of numbers and in places.
use Rattle.std.proofs.Common.{◌≡◌, ℕ, List, [], ◌∷◌, ◌++◌, sym, subst, ◌∙◌}
use Rattle.expr_grammar.specs.declared.code.Name.{Name}
use Rattle.expr_grammar.specs.declared.code.TextArg as string
use Rattle.expr_grammar.specs.Lexeme.{Lexeme}
use Rattle.expr_grammar.specs.Tree as t
use Rattle.expr_grammar.specs.Tree.{Tree, ArgTree, ArgTrees, StmtTree}
use Rattle.expr_grammar.specs.Grammar.{IsMark, IsName, IsNumber, IsString, Reads, ReadsArg, ReadsArgs, ReadsMore, ReadsStmt, ReadsCode}
use Rattle.expr_grammar.specs.Alike.{AlikeTokens, same_text, same_number, AllAlike}

mark_alike : (text : List ℕ) (a b : Lexeme) → IsMark text a → IsMark text b → AlikeTokens a b
mark_alike text a b p q = same_text (p.kind ∙ sym q.kind) (p.text_is ∙ sym q.text_is)

name_alike : (n : Name) (a b : Lexeme) → IsName n a → IsName n b → AlikeTokens a b
name_alike n a b p q = same_text (p.kind ∙ sym q.kind) (p.text_is ∙ sym q.text_is)

number_alike : (n : ℕ) (a b : Lexeme) → IsNumber n a → IsNumber n b → AlikeTokens a b
number_alike n a b p q = same_number p.kind q.kind (p.value ∙ sym q.value)

string_alike : (s : string.TextArg) (a b : Lexeme) → IsString s a → IsString s b → AlikeTokens a b
string_alike s a b p q = same_text (p.kind ∙ sym q.kind) (p.text_is ∙ sym q.text_is)

both : (a b c d : List Lexeme) → AllAlike a b → AllAlike c d → AllAlike (a ++ c) (b ++ d)
both [] [] c d p q = q
both [] (y ∷ b) c d p q = absurd p
both (x ∷ a) [] c d p q = absurd p
both (x ∷ a) (y ∷ b) c d p q = (p.0, both a b c d p.1 q)

along : (a a' b b' : List Lexeme) → a ≡ a' → b ≡ b' → AllAlike a' b' → AllAlike a b
along a a' b b' p q h = subst (λ (x : List Lexeme). AllAlike x b) (sym p) (subst (λ (y : List Lexeme). AllAlike a' y) (sym q) h)

mutual
  pub alike : (e : Tree) (l k : ℕ) (ts us : List Lexeme) → Reads l ts e → Reads k us e → AllAlike ts us
  alike (t.Number n) l k ts us r s = along ts (r.1.only ∷ []) us (s.1.only ∷ []) r.1.parts s.1.parts (number_alike n r.1.only s.1.only r.1.is s.1.is, tt)
  alike (t.Named n) l k ts us r s = along ts (r.1.only ∷ []) us (s.1.only ∷ []) r.1.parts s.1.parts (name_alike n r.1.only s.1.only r.1.is s.1.is, tt)
  alike (t.Group a) l k ts us r s =
      let p = r.1 in
      let q = s.1 in
      let inner = along p.rest (p.inner.front ++ p.inner.mark ∷ []) q.rest (q.inner.front ++ q.inner.mark ∷ []) p.inner.parts q.inner.parts
      (both p.inner.front q.inner.front (p.inner.mark ∷ []) (q.inner.mark ∷ []) (alike a 0 0 p.inner.front q.inner.front p.inner.inner q.inner.inner) (mark_alike _ p.inner.mark q.inner.mark p.inner.is_mark q.inner.is_mark, tt)) in
      along ts (p.mark ∷ p.rest) us (q.mark ∷ q.rest) p.parts q.parts (mark_alike _ p.mark q.mark p.is_mark q.is_mark, inner)
  alike (t.Unary op a) l k ts us r s =
      let p = r.1 in
      let q = s.1 in
      along ts (p.mark ∷ p.rest) us (q.mark ∷ q.rest) p.parts q.parts (mark_alike _ p.mark q.mark p.is_mark q.is_mark, alike a 12 12 p.rest q.rest p.inner q.inner)
  alike (t.Binary op x y) l k ts us r s =
      let p = r.1 in
      let q = s.1 in
      along ts (p.left ++ p.mark ∷ p.right) us (q.left ++ q.mark ∷ q.right) p.parts q.parts
      (both p.left q.left (p.mark ∷ p.right) (q.mark ∷ q.right) (alike x _ _ p.left q.left p.first q.first) (mark_alike _ p.mark q.mark p.is_mark q.is_mark, alike y _ _ p.right q.right p.second q.second))
  alike (t.Cond c x y) l k ts us r s =
      let p = r.1 in
      let q = s.1 in
      let p2 = p.second in
      let q2 = q.second in
      let rest = along p.right (p2.left ++ p2.mark ∷ p2.right) q.right (q2.left ++ q2.mark ∷ q2.right) p2.parts q2.parts
      (both p2.left q2.left (p2.mark ∷ p2.right) (q2.mark ∷ q2.right) (alike x 0 0 p2.left q2.left p2.first q2.first) (mark_alike _ p2.mark q2.mark p2.is_mark q2.is_mark, alike y 1 1 p2.right q2.right p2.second q2.second)) in
      along ts (p.left ++ p.mark ∷ p.right) us (q.left ++ q.mark ∷ q.right) p.parts q.parts
      (both p.left q.left (p.mark ∷ p.right) (q.mark ∷ q.right) (alike c 2 2 p.left q.left p.first q.first) (mark_alike _ p.mark q.mark p.is_mark q.is_mark, rest))
  alike (t.Assign n a) l k ts us r s =
      let p = r.1 in
      let q = s.1 in
      let name = along p.left (p.first.only ∷ []) q.left (q.first.only ∷ []) p.first.parts q.first.parts (name_alike n p.first.only q.first.only p.first.is q.first.is, tt) in
      along ts (p.left ++ p.mark ∷ p.right) us (q.left ++ q.mark ∷ q.right) p.parts q.parts
      (both p.left q.left (p.mark ∷ p.right) (q.mark ∷ q.right) name (mark_alike _ p.mark q.mark p.is_mark q.is_mark, alike a 0 0 p.right q.right p.second q.second))
  alike (t.Call n args) l k ts us r s =
      let p = r.1 in
      let q = s.1 in
      let name = along p.left (p.first.only ∷ []) q.left (q.first.only ∷ []) p.first.parts q.first.parts (name_alike n p.first.only q.first.only p.first.is q.first.is, tt) in
      let inner = along p.right (p.second.front ++ p.second.mark ∷ []) q.right (q.second.front ++ q.second.mark ∷ []) p.second.parts q.second.parts
      (both p.second.front q.second.front (p.second.mark ∷ []) (q.second.mark ∷ []) (args_alike args p.second.front q.second.front p.second.inner q.second.inner) (mark_alike _ p.second.mark q.second.mark p.second.is_mark q.second.is_mark, tt)) in
      along ts (p.left ++ p.mark ∷ p.right) us (q.left ++ q.mark ∷ q.right) p.parts q.parts
      (both p.left q.left (p.mark ∷ p.right) (q.mark ∷ q.right) name (mark_alike _ p.mark q.mark p.is_mark q.is_mark, inner))

  arg_alike : (a : ArgTree) (ts us : List Lexeme) → ReadsArg ts a → ReadsArg us a → AllAlike ts us
  arg_alike (t.ExprArg at e) ts us r s = alike e 0 0 ts us r.0 s.0
  arg_alike (t.TextArg x) ts us r s = along ts (r.only ∷ []) us (s.only ∷ []) r.parts s.parts (string_alike x r.only s.only r.is s.is, tt)

  args_alike : (args : ArgTrees) (ts us : List Lexeme) → ReadsArgs ts args → ReadsArgs us args → AllAlike ts us
  args_alike t.NoArgs ts us r s = along ts [] us [] r s tt
  args_alike (t.MoreArgs a more) ts us r s =
      along ts (r.left ++ r.right) us (s.left ++ s.right) r.parts s.parts (both r.left s.left r.right s.right (arg_alike a r.left s.left r.first s.first) (more_alike more r.right s.right r.second s.second))

  more_alike : (args : ArgTrees) (ts us : List Lexeme) → ReadsMore ts args → ReadsMore us args → AllAlike ts us
  more_alike t.NoArgs ts us r s = along ts [] us [] r s tt
  more_alike (t.MoreArgs a more) ts us r s =
      let p = r.inner in
      let q = s.inner in
      let inner = along r.rest (p.left ++ p.right) s.rest (q.left ++ q.right) p.parts q.parts (both p.left q.left p.right q.right (arg_alike a p.left q.left p.first q.first) (more_alike more p.right q.right p.second q.second)) in
      along ts (r.mark ∷ r.rest) us (s.mark ∷ s.rest) r.parts s.parts (mark_alike _ r.mark s.mark r.is_mark s.is_mark, inner)

stmt_alike : (x : StmtTree) (ts us : List Lexeme) → ReadsStmt ts x → ReadsStmt us x → AllAlike ts us
stmt_alike (t.Empty at) ts us r s = along ts (r.only ∷ []) us (s.only ∷ []) r.parts s.parts (mark_alike _ r.only s.only r.is.0 s.is.0, tt)
stmt_alike (t.Declare n e) ts us r s =
    let p = r.inner in
    let q = s.inner in
    let name = along p.left (p.first.only ∷ []) q.left (q.first.only ∷ []) p.first.parts q.first.parts (name_alike n p.first.only q.first.only p.first.is q.first.is, tt) in
    let value = along p.right (p.second.front ++ p.second.mark ∷ []) q.right (q.second.front ++ q.second.mark ∷ []) p.second.parts q.second.parts
    (both p.second.front q.second.front (p.second.mark ∷ []) (q.second.mark ∷ []) (alike e 0 0 p.second.front q.second.front p.second.inner q.second.inner) (mark_alike _ p.second.mark q.second.mark p.second.is_mark q.second.is_mark, tt)) in
    let inner = along r.rest (p.left ++ p.mark ∷ p.right) s.rest (q.left ++ q.mark ∷ q.right) p.parts q.parts
    (both p.left q.left (p.mark ∷ p.right) (q.mark ∷ q.right) name (mark_alike _ p.mark q.mark p.is_mark q.is_mark, value)) in
    along ts (r.mark ∷ r.rest) us (s.mark ∷ s.rest) r.parts s.parts (mark_alike _ r.mark s.mark r.is_mark s.is_mark, inner)
stmt_alike (t.Plain at e) ts us r s =
    along ts (r.front ++ r.mark ∷ []) us (s.front ++ s.mark ∷ []) r.parts s.parts
    (both r.front s.front (r.mark ∷ []) (s.mark ∷ []) (alike e 0 0 r.front s.front r.inner.0 s.inner.0) (mark_alike _ r.mark s.mark r.is_mark s.is_mark, tt))

pub code_alike : (code : List StmtTree) (ts us : List Lexeme) → ReadsCode ts code → ReadsCode us code → AllAlike ts us
code_alike [] ts us r s = along ts [] us [] r s tt
code_alike (x ∷ more) ts us r s =
    along ts (r.left ++ r.right) us (s.left ++ s.right) r.parts s.parts (both r.left s.left r.right s.right (stmt_alike x r.left s.left r.first s.first) (code_alike more r.right s.right r.second s.second))
