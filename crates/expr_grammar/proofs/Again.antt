-- Tokens that are moved read as the tree that differs in its places alone.
use Rattle.std.proofs.Common.{◌≡◌, ℕ, ◌+◌, List, [], ◌∷◌, ◌++◌, refl, sym, ap, subst, ◌∙◌}
use Rattle.dap_base.specs.declared.text.Place.{Place}
use Rattle.expr_grammar.specs.declared.code.Name.{Name}
use Rattle.expr_grammar.specs.declared.code.TextArg as string
use Rattle.expr_grammar.specs.Lexeme.{Lexeme}
use Rattle.expr_grammar.specs.Tree as t
use Rattle.expr_grammar.specs.Tree.{Tree, ArgTree, ArgTrees, StmtTree}
use Rattle.expr_grammar.specs.Grammar.{level, IsMark, IsName, IsNumber, IsString, BeginsAt, Reads, ReadsArg, ReadsArgs, ReadsMore, ReadsStmt, ReadsCode}
use Rattle.expr_grammar.specs.Moved.{IsMovedToken, AreMoved}
use Rattle.expr_grammar.specs.Bare.{nowhere, bare, bare_arg, bare_args, bare_stmt, bare_code}

-- ---- single tokens

mark_moves : (text : List ℕ) (k u : Lexeme) → IsMark text k → IsMovedToken k u → IsMark text u
mark_moves text k u is m = record { kind = m.kind ∙ is.kind; text_is = m.text ∙ is.text_is }

number_moves : (n : ℕ) (k u : Lexeme) → IsNumber n k → IsMovedToken k u → IsNumber n u
number_moves n k u is m = subst (λ (x : List ℕ). IsNumber n (record { kind = u.kind; text = x; start = u.start; at = u.at })) (sym m.text) (record { kind = m.kind ∙ is.kind; value = is.value })

name_moves : (n : Name) (k u : Lexeme) → IsName n k → IsMovedToken k u → IsName (record n { at = u.at }) u
name_moves n k u is m = record { kind = m.kind ∙ is.kind; text_is = m.text ∙ is.text_is; at_is = refl }

string_moves : (s : string.TextArg) (k u : Lexeme) → IsString s k → IsMovedToken k u → IsString (record s { at = u.at }) u
string_moves s k u is m = record { kind = m.kind ∙ is.kind; text_is = m.text ∙ is.text_is; at_is = refl }

-- ---- lists of tokens

record Cons (t : Lexeme) (ts us : List Lexeme) : Type 0 where
  u : Lexeme
  more : List Lexeme
  parts : us ≡ u ∷ more
  head : IsMovedToken t u
  tail : AreMoved ts more

cons : (k : Lexeme) (ts us : List Lexeme) → AreMoved (k ∷ ts) us → Cons k ts us
cons k ts [] m = absurd m
cons k ts (u ∷ us) m = record { u = u; more = us; parts = refl; head = m.0; tail = m.1 }

record Split (left right us : List Lexeme) : Type 0 where
  a : List Lexeme
  b : List Lexeme
  parts : us ≡ a ++ b
  first : AreMoved left a
  second : AreMoved right b

split : (left right us : List Lexeme) → AreMoved (left ++ right) us → Split left right us
split [] right us m = record { a = []; b = us; parts = refl; first = tt; second = m }
split (k ∷ left) right [] m = absurd m
split (k ∷ left) right (u ∷ us) m =
    let s = split left right us m.1 in
    record { a = u ∷ s.a; b = s.b; parts = ap (λ (l : List Lexeme). u ∷ l) s.parts; first = (m.0, s.first); second = s.second }

along : (ts us vs : List Lexeme) → ts ≡ us → AreMoved ts vs → AreMoved us vs
along ts us vs e m = subst (λ (l : List Lexeme). AreMoved l vs) e m

-- a list that is moved from one token
record One (k : Lexeme) (us : List Lexeme) : Type 0 where
  u : Lexeme
  parts : us ≡ u ∷ []
  head : IsMovedToken k u

one : (k : Lexeme) (us : List Lexeme) → AreMoved (k ∷ []) us → One k us
one k [] m = absurd m
one k (u ∷ []) m = record { u = u; parts = refl; head = m.0 }
one k (u ∷ v ∷ us) m = absurd m.1

-- a list that is moved from none
empty : (us : List Lexeme) → AreMoved [] us → us ≡ []
empty [] m = refl
empty (u ∷ us) m = absurd m

-- a list that is moved from tokens with one mark between them
record Mid (left : List Lexeme) (mark : Lexeme) (right us : List Lexeme) : Type 0 where
  a : List Lexeme
  u : Lexeme
  b : List Lexeme
  parts : us ≡ a ++ u ∷ b
  first : AreMoved left a
  head : IsMovedToken mark u
  second : AreMoved right b

mid : (ts left : List Lexeme) (mark : Lexeme) (right us : List Lexeme) → ts ≡ left ++ mark ∷ right → AreMoved ts us → Mid left mark right us
mid ts left mark right us e m =
    let s = split left (mark ∷ right) us (along ts (left ++ mark ∷ right) us e m) in
    let c = cons mark right s.b s.second in
    record { a = s.a; u = c.u; b = c.more; parts = s.parts ∙ ap (λ (l : List Lexeme). s.a ++ l) c.parts; first = s.first; head = c.head; second = c.tail }

at_moves : (at : Place) (ts us : List Lexeme) → BeginsAt at ts → AreMoved ts us → (p : Place) × BeginsAt p us
at_moves at [] us b m = absurd b
at_moves at (k ∷ ts) [] b m = absurd m
at_moves at (k ∷ ts) (u ∷ us) b m = (u.at, refl)

-- ---- trees

-- The tokens read as a tree that is the same except for its places: an expression, an argument, arguments.
pub record Again (l : ℕ) (us : List Lexeme) (e : Tree) : Type 0 where
  pub tree : Tree
  pub reads : Reads l us tree
  pub same : bare tree ≡ bare e

pub record AgainArg (us : List Lexeme) (a : ArgTree) : Type 0 where
  pub tree : ArgTree
  pub reads : ReadsArg us tree
  pub same : bare_arg tree ≡ bare_arg a

pub record AgainArgs (us : List Lexeme) (a : ArgTrees) : Type 0 where
  pub tree : ArgTrees
  pub reads : ReadsArgs us tree
  pub same : bare_args tree ≡ bare_args a

pub record AgainMore (us : List Lexeme) (a : ArgTrees) : Type 0 where
  pub tree : ArgTrees
  pub reads : ReadsMore us tree
  pub same : bare_args tree ≡ bare_args a

mutual
  pub again : (e : Tree) (l : ℕ) (ts us : List Lexeme) → Reads l ts e → AreMoved ts us → Again l us e
  again (t.Number n) l ts us r m =
      let o = one r.1.only us (along ts (r.1.only ∷ []) us r.1.parts m) in
      record { tree = t.Number n; reads = (r.0, record { only = o.u; parts = o.parts; is = number_moves n r.1.only o.u r.1.is o.head }); same = refl }
  again (t.Named n) l ts us r m =
      let o = one r.1.only us (along ts (r.1.only ∷ []) us r.1.parts m) in
      record { tree = t.Named (record n { at = o.u.at }); reads = (r.0, record { only = o.u; parts = o.parts; is = name_moves n r.1.only o.u r.1.is o.head }); same = refl }
  again (t.Group a) l ts us r m =
      let p = r.1 in
      let c = cons p.mark p.rest us (along ts (p.mark ∷ p.rest) us p.parts m) in
      let q = p.inner in
      let s = mid p.rest q.front q.mark [] c.more q.parts c.tail in
      let x = again a 0 q.front s.a q.inner s.first in
      let none : s.b ≡ [] = empty s.b s.second in
      record {
        tree = t.Group x.tree;
        reads = (
          r.0,
          record {
            mark = c.u;
            rest = c.more;
            parts = c.parts;
            is_mark = mark_moves _ p.mark c.u p.is_mark c.head;
            inner = record { front = s.a; mark = s.u; parts = s.parts ∙ ap (λ (b : List Lexeme). s.a ++ s.u ∷ b) none; is_mark = mark_moves _ q.mark s.u q.is_mark s.head; inner = x.reads };
          },
        );
        same = ap t.Group x.same;
      }
  again (t.Unary op a) l ts us r m =
      let p = r.1 in
      let c = cons p.mark p.rest us (along ts (p.mark ∷ p.rest) us p.parts m) in
      let x = again a 12 p.rest c.more p.inner c.tail in
      record {
        tree = t.Unary op x.tree;
        reads = (r.0, record { mark = c.u; rest = c.more; parts = c.parts; is_mark = mark_moves _ p.mark c.u p.is_mark c.head; inner = x.reads });
        same = ap (t.Unary op) x.same;
      }
  again (t.Binary op x y) l ts us r m =
      let p = r.1 in
      let s = mid ts p.left p.mark p.right us p.parts m in
      let a = again x (level op) p.left s.a p.first s.first in
      let b = again y (level op + 1) p.right s.b p.second s.second in
      let same1 = a.same in
      let same2 = b.same in
      record {
        tree = t.Binary op a.tree b.tree;
        reads = (r.0, record { left = s.a; mark = s.u; right = s.b; parts = s.parts; is_mark = mark_moves _ p.mark s.u p.is_mark s.head; first = a.reads; second = b.reads });
        same = cc;
      }
  again (t.Cond c x y) l ts us r m =
      let p = r.1 in
      let s = mid ts p.left p.mark p.right us p.parts m in
      let q = p.second in
      let z = mid p.right q.left q.mark q.right s.b q.parts s.second in
      let a = again c 2 p.left s.a p.first s.first in
      let b = again x 0 q.left z.a q.first z.first in
      let d = again y 1 q.right z.b q.second z.second in
      let same1 = a.same in
      let same2 = b.same in
      let same3 = d.same in
      record {
        tree = t.Cond a.tree b.tree d.tree;
        reads = (
          r.0,
          record {
            left = s.a;
            mark = s.u;
            right = s.b;
            parts = s.parts;
            is_mark = mark_moves _ p.mark s.u p.is_mark s.head;
            first = a.reads;
            second = record { left = z.a; mark = z.u; right = z.b; parts = z.parts; is_mark = mark_moves _ q.mark z.u q.is_mark z.head; first = b.reads; second = d.reads };
          },
        );
        same = cc;
      }
  again (t.Assign n a) l ts us r m =
      let p = r.1 in
      let s = mid ts p.left p.mark p.right us p.parts m in
      let o = one p.first.only s.a (along p.left (p.first.only ∷ []) s.a p.first.parts s.first) in
      let x = again a 0 p.right s.b p.second s.second in
      let same1 = x.same in
      record {
        tree = t.Assign (record n { at = o.u.at }) x.tree;
        reads = (
          r.0,
          record {
            left = s.a;
            mark = s.u;
            right = s.b;
            parts = s.parts;
            is_mark = mark_moves _ p.mark s.u p.is_mark s.head;
            first = record { only = o.u; parts = o.parts; is = name_moves n p.first.only o.u p.first.is o.head };
            second = x.reads;
          },
        );
        same = cc;
      }
  again (t.Call n args) l ts us r m =
      let p = r.1 in
      let s = mid ts p.left p.mark p.right us p.parts m in
      let o = one p.first.only s.a (along p.left (p.first.only ∷ []) s.a p.first.parts s.first) in
      let q = p.second in
      let z = mid p.right q.front q.mark [] s.b q.parts s.second in
      let none : z.b ≡ [] = empty z.b z.second in
      let x = again_args args q.front z.a q.inner z.first in
      let same1 = x.same in
      record {
        tree = t.Call (record n { at = o.u.at }) x.tree;
        reads = (
          r.0,
          record {
            left = s.a;
            mark = s.u;
            right = s.b;
            parts = s.parts;
            is_mark = mark_moves _ p.mark s.u p.is_mark s.head;
            first = record { only = o.u; parts = o.parts; is = name_moves n p.first.only o.u p.first.is o.head };
            second = record { front = z.a; mark = z.u; parts = z.parts ∙ ap (λ (b : List Lexeme). z.a ++ z.u ∷ b) none; is_mark = mark_moves _ q.mark z.u q.is_mark z.head; inner = x.reads };
          },
        );
        same = cc;
      }

  again_arg : (a : ArgTree) (ts us : List Lexeme) → ReadsArg ts a → AreMoved ts us → AgainArg us a
  again_arg (t.ExprArg at e) ts us r m =
      let x = again e 0 ts us r.0 m in
      let p = at_moves at ts us r.1 m in
      record { tree = t.ExprArg p.0 x.tree; reads = (x.reads, p.1); same = ap (t.ExprArg nowhere) x.same }
  again_arg (t.TextArg s) ts us r m =
      let o = one r.only us (along ts (r.only ∷ []) us r.parts m) in
      record { tree = t.TextArg (record s { at = o.u.at }); reads = record { only = o.u; parts = o.parts; is = string_moves s r.only o.u r.is o.head }; same = refl }

  again_args : (args : ArgTrees) (ts us : List Lexeme) → ReadsArgs ts args → AreMoved ts us → AgainArgs us args
  again_args t.NoArgs ts us r m = record { tree = t.NoArgs; reads = empty us (along ts [] us r m); same = refl }
  again_args (t.MoreArgs a more) ts us r m =
      let s = split r.left r.right us (along ts (r.left ++ r.right) us r.parts m) in
      let x = again_arg a r.left s.a r.first s.first in
      let y = again_more more r.right s.b r.second s.second in
      let same1 = x.same in
      let same2 = y.same in
      record { tree = t.MoreArgs x.tree y.tree; reads = record { left = s.a; right = s.b; parts = s.parts; first = x.reads; second = y.reads }; same = cc }

  again_more : (args : ArgTrees) (ts us : List Lexeme) → ReadsMore ts args → AreMoved ts us → AgainMore us args
  again_more t.NoArgs ts us r m = record { tree = t.NoArgs; reads = empty us (along ts [] us r m); same = refl }
  again_more (t.MoreArgs a more) ts us r m =
      let c = cons r.mark r.rest us (along ts (r.mark ∷ r.rest) us r.parts m) in
      let p = r.inner in
      let s = split p.left p.right c.more (along r.rest (p.left ++ p.right) c.more p.parts c.tail) in
      let x = again_arg a p.left s.a p.first s.first in
      let y = again_more more p.right s.b p.second s.second in
      let same1 = x.same in
      let same2 = y.same in
      record {
        tree = t.MoreArgs x.tree y.tree;
        reads = record {
          mark = c.u;
          rest = c.more;
          parts = c.parts;
          is_mark = mark_moves _ r.mark c.u r.is_mark c.head;
          inner = record { left = s.a; right = s.b; parts = s.parts; first = x.reads; second = y.reads };
        };
        same = cc;
      }

-- the same of a statement
pub record AgainStmt (us : List Lexeme) (x : StmtTree) : Type 0 where
  pub tree : StmtTree
  pub reads : ReadsStmt us tree
  pub same : bare_stmt tree ≡ bare_stmt x

again_stmt : (x : StmtTree) (ts us : List Lexeme) → ReadsStmt ts x → AreMoved ts us → AgainStmt us x
again_stmt (t.Empty at) ts us r m =
    let o = one r.only us (along ts (r.only ∷ []) us r.parts m) in
    record { tree = t.Empty o.u.at; reads = record { only = o.u; parts = o.parts; is = (mark_moves _ r.only o.u r.is.0 o.head, refl) }; same = refl }
again_stmt (t.Declare n e) ts us r m =
    let c = cons r.mark r.rest us (along ts (r.mark ∷ r.rest) us r.parts m) in
    let p = r.inner in
    let s = mid r.rest p.left p.mark p.right c.more p.parts c.tail in
    let o = one p.first.only s.a (along p.left (p.first.only ∷ []) s.a p.first.parts s.first) in
    let q = p.second in
    let z = mid p.right q.front q.mark [] s.b q.parts s.second in
    let none : z.b ≡ [] = empty z.b z.second in
    let x = again e 0 q.front z.a q.inner z.first in
    let same1 = x.same in
    record {
      tree = t.Declare (record n { at = o.u.at }) x.tree;
      reads = record {
        mark = c.u;
        rest = c.more;
        parts = c.parts;
        is_mark = mark_moves _ r.mark c.u r.is_mark c.head;
        inner = record {
          left = s.a;
          mark = s.u;
          right = s.b;
          parts = s.parts;
          is_mark = mark_moves _ p.mark s.u p.is_mark s.head;
          first = record { only = o.u; parts = o.parts; is = name_moves n p.first.only o.u p.first.is o.head };
          second = record { front = z.a; mark = z.u; parts = z.parts ∙ ap (λ (b : List Lexeme). z.a ++ z.u ∷ b) none; is_mark = mark_moves _ q.mark z.u q.is_mark z.head; inner = x.reads };
        };
      };
      same = cc;
    }
again_stmt (t.Plain at e) ts us r m =
    let s = mid ts r.front r.mark [] us r.parts m in
    let none : s.b ≡ [] = empty s.b s.second in
    let x = again e 0 r.front s.a r.inner.0 s.first in
    let p = at_moves at r.front s.a r.inner.1 s.first in
    record {
      tree = t.Plain p.0 x.tree;
      reads = record { front = s.a; mark = s.u; parts = s.parts ∙ ap (λ (b : List Lexeme). s.a ++ s.u ∷ b) none; is_mark = mark_moves _ r.mark s.u r.is_mark s.head; inner = (x.reads, p.1) };
      same = ap (t.Plain nowhere) x.same;
    }

-- the same of code
pub record AgainCode (us : List Lexeme) (code : List StmtTree) : Type 0 where
  pub trees : List StmtTree
  pub reads : ReadsCode us trees
  pub same : bare_code trees ≡ bare_code code

pub again_code : (code : List StmtTree) (ts us : List Lexeme) → ReadsCode ts code → AreMoved ts us → AgainCode us code
again_code [] ts us r m = record { trees = []; reads = empty us (along ts [] us r m); same = refl }
again_code (x ∷ more) ts us r m =
    let s = split r.left r.right us (along ts (r.left ++ r.right) us r.parts m) in
    let a = again_stmt x r.left s.a r.first s.first in
    let b = again_code more r.right s.b r.second s.second in
    let same1 = a.same in
    let same2 = b.same in
    record { trees = a.tree ∷ b.trees; reads = record { left = s.a; right = s.b; parts = s.parts; first = a.reads; second = b.reads }; same = cc }
