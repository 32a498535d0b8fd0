-- Statements that are in the grammar are read.
use Rattle.std.proofs.Common.{◌≡◌, ℕ, suc, Bool, true, false, List, [], ◌∷◌, ◌++◌, length, Ok, Err, refl, sym, ap, ◌∙◌, append_assoc}
use Rattle.dap_base.proofs.Basics.{same_Ok}
use Rattle.std.specs.Prelude.{codes}
use Rattle.dap_base.specs.declared.text.Place.{Place}
use Rattle.expr_grammar.specs.declared.code.Name.{Name}
use Rattle.expr_grammar.specs.Lexeme.{Lexeme}
use Rattle.expr_grammar.specs.Tree as t
use Rattle.expr_grammar.specs.Tree.{Tree, StmtTree}
use Rattle.expr_grammar.specs.Grammar.{IsMark, IsName, BeginsAt, Reads, ReadsStmt, ReadsCode}
use Rattle.expr_grammar.specs.Reading.{Front, Statements, is_mark, name_first, expect, declaration_after, plain, statement, statements, read, whole, operand}
use Rattle.expr_grammar.proofs.Fix.{whole_is, statements_is}
use Rattle.expr_grammar.proofs.Found.{mark_from}
use Rattle.expr_grammar.proofs.Levels.{mark_is, expect_is}
use Rattle.expr_grammar.proofs.Complete.{name_is, semicolon_closes, ended}
use Rattle.expr_grammar.proofs.CompleteArgs.{complete, no_start, mark_no_start}

-- an expression and its semicolon, whatever follows
whole_ended : (e : Tree) (front : List Lexeme) (k : Lexeme) (rest : List Lexeme) → Reads 0 front e → IsMark (codes ";") k → whole read (front ++ k ∷ rest) ≡ Ok (e, k ∷ rest)
whole_ended e front k rest r m = sym (whole_is (front ++ k ∷ rest)) ∙ ended (complete e) (codes ";") semicolon_closes front k rest r m

semicolon_is : (k : Lexeme) (rest : List Lexeme) → IsMark (codes ";") k → expect (codes ";") (k ∷ rest) ≡ Ok (tt, rest)
semicolon_is k rest m = expect_is (codes ";") k rest (mark_is (codes ";") (codes ";") k m)

-- ---- the three statements

empty_read : (at : Place) (k : Lexeme) (rest : List Lexeme) → IsMark (codes ";") k → k.at ≡ at → statement read (k ∷ rest) ≡ Ok (t.Empty at, rest)
unfolding statement
empty_read at k rest m place =
    let is : is_mark (codes ";") k ≡ true = mark_is (codes ";") (codes ";") k m in
    rw is (ap (λ (p : Place). Ok (t.Empty p, rest)) place)

name_read : (n : Name) (k : Lexeme) (rest : List Lexeme) → IsName n k → name_first (k ∷ rest) ≡ Ok (n, rest)
unfolding name_first
name_read n k rest is = rw is.kind (ap (λ (m : Name). Ok (m, rest)) (name_is n k is))

declared_read : (n : Name) (e : Tree) (k equals : Lexeme) (ts us rest : List Lexeme) (semi : Lexeme) → IsName n k → IsMark (codes "=") equals → whole read us ≡ Ok (e, semi ∷ rest) → IsMark (codes ";") semi → ts ≡ k ∷ equals ∷ us
    → declaration_after read ts ≡ Ok (t.Declare n e, rest)
unfolding declaration_after
declared_read n e k equals ts us rest semi is q value m parts =
    let one : name_first (k ∷ equals ∷ us) ≡ Ok (n, equals ∷ us) = name_read n k (equals ∷ us) is in
    let two : expect (codes "=") (equals ∷ us) ≡ Ok (tt, us) = expect_is (codes "=") equals us (mark_is (codes "=") (codes "=") equals q) in
    let last : expect (codes ";") (semi ∷ rest) ≡ Ok (tt, rest) = semicolon_is semi rest m in
    ap (declaration_after read) parts ∙ rw (one, two, value, last) refl

var_statement : (k : Lexeme) (ts : List Lexeme) → IsMark (codes "__var") k → statement read (k ∷ ts) ≡ declaration_after read ts
unfolding statement
var_statement k ts m =
    let non : is_mark (codes ";") k ≡ false = mark_is (codes "__var") (codes ";") k m in
    let is : is_mark (codes "__var") k ≡ true = mark_is (codes "__var") (codes "__var") k m in
    rw (non, is) refl

declare_complete : (n : Name) (e : Tree) (front rest : List Lexeme) → ReadsStmt front (t.Declare n e) → statement read (front ++ rest) ≡ Ok (t.Declare n e, rest)
declare_complete n e front rest r =
    let j = r.inner in
    let v = j.second in
    let s = j.first in
    let inner : r.rest ++ rest ≡ s.only ∷ j.mark ∷ (v.front ++ v.mark ∷ rest) =
    ap (λ (f : List Lexeme). f ++ rest) j.parts ∙ append_assoc j.left (j.mark ∷ j.right) rest ∙ ap (λ (f : List Lexeme). f ++ j.mark ∷ (j.right ++ rest)) s.parts
    ∙ ap (λ (f : List Lexeme). s.only ∷ j.mark ∷ f) (ap (λ (f : List Lexeme). f ++ rest) v.parts ∙ append_assoc v.front (v.mark ∷ []) rest) in
    ap (λ (f : List Lexeme). statement read (f ++ rest)) r.parts ∙ var_statement r.mark (r.rest ++ rest) r.is_mark
    ∙ declared_read n e s.only j.mark (r.rest ++ rest) (v.front ++ v.mark ∷ rest) rest v.mark s.is j.is_mark (whole_ended e v.front v.mark rest v.inner v.is_mark) v.is_mark inner

plain_read : (at : Place) (e : Tree) (ts : List Lexeme) (semi : Lexeme) (rest : List Lexeme) → whole read ts ≡ Ok (e, semi ∷ rest) → IsMark (codes ";") semi → plain read at ts ≡ Ok (t.Plain at e, rest)
unfolding plain
plain_read at e ts semi rest value m =
    let last : expect (codes ";") (semi ∷ rest) ≡ Ok (tt, rest) = semicolon_is semi rest m in
    rw (value, last) refl

not_mark : (k : Lexeme) (ts : List Lexeme) (e : Tree) (rest : List Lexeme) (text : List ℕ) → ((m : IsMark text k) → operand read (k ∷ ts) ≡ Err (suc (length ts))) → whole read (k ∷ ts) ≡ Ok (e, rest) → (v : Bool) → is_mark text k ≡ v → v ≡ false
not_mark k ts e rest text bad good true is = absurd (no_start k ts (suc (length ts)) e rest (bad (mark_from text k is)) good)
not_mark k ts e rest text bad good false is = refl

plain_statement : (k : Lexeme) (ts : List Lexeme) (e : Tree) (rest : List Lexeme) → whole read (k ∷ ts) ≡ Ok (e, rest) → statement read (k ∷ ts) ≡ plain read k.at (k ∷ ts)
unfolding statement
plain_statement k ts e rest good =
    let one : is_mark (codes ";") k ≡ false = not_mark k ts e rest (codes ";") (λ m. (mark_no_start (codes ";") k m refl refl).refused ts) good (is_mark (codes ";") k) refl in
    let two : is_mark (codes "__var") k ≡ false = not_mark k ts e rest (codes "__var") (λ m. (mark_no_start (codes "__var") k m refl refl).refused ts) good (is_mark (codes "__var") k) refl in
    rw (one, two) refl

plain_from : (at : Place) (e : Tree) (front : List Lexeme) (semi : Lexeme) (rest : List Lexeme) → Reads 0 front e → BeginsAt at front → IsMark (codes ";") semi → statement read (front ++ semi ∷ rest) ≡ Ok (t.Plain at e, rest)
plain_from at e [] semi rest r b m = absurd b
plain_from at e (k ∷ front) semi rest r b m =
    let value = whole_ended e (k ∷ front) semi rest r m in
    plain_statement k (front ++ semi ∷ rest) e (semi ∷ rest) value ∙ plain_read k.at e (k ∷ (front ++ semi ∷ rest)) semi rest value m ∙ ap (λ (p : Place). Ok (t.Plain p e, rest)) b

pub statement_complete : (s : StmtTree) (front rest : List Lexeme) → ReadsStmt front s → statement read (front ++ rest) ≡ Ok (s, rest)
statement_complete (t.Empty at) front rest r = ap (λ (f : List Lexeme). statement read (f ++ rest)) r.parts ∙ empty_read at r.only rest r.is.0 r.is.1
statement_complete (t.Declare n e) front rest r = declare_complete n e front rest r
statement_complete (t.Plain at e) front rest r =
    let whole_list : front ++ rest ≡ r.front ++ r.mark ∷ rest = ap (λ (f : List Lexeme). f ++ rest) r.parts ∙ append_assoc r.front (r.mark ∷ []) rest in
    ap (statement read) whole_list ∙ plain_from at e r.front r.mark rest r.inner.0 r.inner.1 r.is_mark

-- ---- code

-- a statement has tokens
no_statement : (s : StmtTree) (rest : List Lexeme) → statement read [] ≡ Ok (s, rest) → ⊥
unfolding statement
no_statement s rest e = let both : ◌≡◌ {A = Front StmtTree} (Err 0) (Ok (s, rest)) = e in absurd cc

statements_step : (ts us : List Lexeme) (s : StmtTree) (more : List StmtTree) → statement read ts ≡ Ok (s, us) → statements read us ≡ Ok (more, []) → statements read ts ≡ Ok (s ∷ more, [])
unfolding statements
statements_step [] us s more one two = absurd (no_statement s us one)
statements_step (k ∷ ts) us s more one two = let next : read Statements us ≡ Ok (more, []) = statements_is us ∙ two in rw (one, next) refl

statements_none : statements read [] ≡ Ok ([], [])
unfolding statements
statements_none = refl

pub code_complete : (ts : List Lexeme) (code : List StmtTree) → ReadsCode ts code → statements read ts ≡ Ok (code, [])
code_complete ts [] r = ap (statements read) r ∙ statements_none
code_complete ts (s ∷ more) r =
    ap (statements read) r.parts ∙ statements_step (r.left ++ r.right) r.right s more (statement_complete s r.left r.right r.first) (code_complete r.right more r.second)

abbrev done : List StmtTree → Front (List StmtTree)
done code = Ok (code, [])

same_done : (x y : List StmtTree) → done x ≡ done y → x ≡ y
same_done x y e = ap (λ (p : List StmtTree × List Lexeme). p.0) (same_Ok (x, []) (y, []) e)

pub one_code : (ts : List Lexeme) (x y : List StmtTree) → ReadsCode ts x → ReadsCode ts y → x ≡ y
one_code ts x y rx ry = same_done x y (sym (code_complete ts x rx) ∙ code_complete ts y ry)
