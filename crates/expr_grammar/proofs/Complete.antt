-- Expressions that are in the grammar are read, whatever follows that ends them: each form from its parts.
use Rattle.std.proofs.Common.{◌≡◌, ℕ, ◌+◌, ◌≤◌, true, false, List, [], ◌∷◌, ◌++◌, Some, None, Ok, refl, ap, ◌∙◌, append_assoc, arith}
use Rattle.std.specs.Prelude.{codes}
use Rattle.std.specs.Str.{bytes_eq}
use Rattle.expr_grammar.specs.declared.code.Name.{Name}
use Rattle.expr_grammar.specs.declared.code.UnaryOp.{UnaryOp}
use Rattle.expr_grammar.specs.declared.code.BinaryOp.{BinaryOp}
use Rattle.expr_grammar.specs.Tree as t
use Rattle.expr_grammar.specs.Tree.{Tree, ArgTree, ArgTrees}
use Rattle.expr_grammar.specs.Lexeme.{Lexeme}
use Rattle.expr_grammar.specs.Grammar.{level, binary_text, unary_text, IsMark, IsName, Reads}
use Rattle.expr_grammar.specs.Reading.{Read, Whole, Choice, Climb, is_mark, operator_of, binary_of, name_of, expect, grouped_expression, name_or_call, choice_after, assignment_after, read, whole, choice, at_level, operand}
use Rattle.dap_base.specs.Outcome.{◌>>=◌}
use Rattle.expr_grammar.proofs.Fix.{whole_is, choice_is, operand_is}
use Rattle.expr_grammar.proofs.Turns.{climbs}
use Rattle.expr_grammar.proofs.Levels.{level_of, binds, begins, top, level_most, level_least, operator_shut, unary_is, mark_binary, mark_is, op_binary, climb_stops, asked_stops, assigned_stops, expect_is}

-- ---- a tree at its level, and at lower ones

pub relevel : (e : Tree) (l k : ℕ) (ts : List Lexeme) → Reads l ts e → k ≤ top e → Reads k ts e
relevel (t.Number n) l k ts r le = (le, r.1)
relevel (t.Named n) l k ts r le = (le, r.1)
relevel (t.Group a) l k ts r le = (le, r.1)
relevel (t.Unary op a) l k ts r le = (le, r.1)
relevel (t.Binary op x y) l k ts r le = (le, r.1)
relevel (t.Cond c x y) l k ts r le = (le, r.1)
relevel (t.Assign n a) l k ts r le = (le, r.1)
relevel (t.Call n args) l k ts r le = (le, r.1)

pub below_top : (e : Tree) (l : ℕ) (ts : List Lexeme) → Reads l ts e → l ≤ top e
below_top (t.Number n) l ts r = r.0
below_top (t.Named n) l ts r = r.0
below_top (t.Group a) l ts r = r.0
below_top (t.Unary op a) l ts r = r.0
below_top (t.Binary op x y) l ts r = r.0
below_top (t.Cond c x y) l ts r = r.0
below_top (t.Assign n a) l ts r = r.0
below_top (t.Call n args) l ts r = r.0

-- ---- completeness

-- No parenthesis is opened after the tree: it would make a call of a name at its end.
abbrev pub NoOpen : List Lexeme → Type 0
NoOpen rest = begins (codes "(") rest ≡ false

pub record Complete (e : Tree) : Type 0 where
  pub operands : (front rest : List Lexeme) → Reads 12 front e → NoOpen rest → operand read (front ++ rest) ≡ Ok (e, rest)
  pub levels : (l : ℕ) (front rest : List Lexeme) → 2 ≤ l → Reads l front e → NoOpen rest → binds rest ≤ top e → at_level read l (front ++ rest) ≡ read (Climb l e) rest
  pub choices : (front rest : List Lexeme) → Reads 1 front e → NoOpen rest → binds rest ≡ 0 → begins (codes "?") rest ≡ false → choice read (front ++ rest) ≡ Ok (e, rest)
  pub wholes : (front rest : List Lexeme) → Reads 0 front e → NoOpen rest → binds rest ≡ 0 → begins (codes "?") rest ≡ false → begins (codes "=") rest ≡ false → whole read (front ++ rest) ≡ Ok (e, rest)

pub level_from : (e : Tree) (l : ℕ) (ts rest : List Lexeme) → operand read ts ≡ Ok (e, rest) → at_level read l ts ≡ read (Climb l e) rest
unfolding at_level
level_from e l ts rest h = rw h refl

pub choice_from : (e : Tree) (ts rest : List Lexeme) → at_level read 2 ts ≡ read (Climb 2 e) rest → binds rest ≡ 0 → begins (codes "?") rest ≡ false → choice read ts ≡ Ok (e, rest)
unfolding choice
choice_from e ts rest h none ask =
    let stop : read (Climb 2 e) rest ≡ Ok (e, rest) = climb_stops 2 e rest (omega (arith, none)) in
    rw (h, stop) (asked_stops e rest ask)

pub whole_from : (e : Tree) (ts rest : List Lexeme) → choice read ts ≡ Ok (e, rest) → begins (codes "=") rest ≡ false → whole read ts ≡ Ok (e, rest)
unfolding whole
whole_from e ts rest h sets = rw h (assigned_stops e rest sets)

-- a tree of level 12 that is an operand
pub from_operand : (e : Tree) → (12 ≤ top e) → ((front rest : List Lexeme) → Reads 12 front e → NoOpen rest → operand read (front ++ rest) ≡ Ok (e, rest)) → Complete e
from_operand e tops h =
    let high = λ (l : ℕ) (front : List Lexeme) (r : Reads l front e). relevel e l 12 front r tops in
    let lev = λ (l : ℕ) (front rest : List Lexeme) (r : Reads l front e) (shut : NoOpen rest). level_from e l (front ++ rest) rest (h front rest (high l front r) shut) in
    let cho = λ (front rest : List Lexeme) (l : ℕ) (r : Reads l front e) (shut : NoOpen rest) (none : binds rest ≡ 0) (ask : begins (codes "?") rest ≡ false). choice_from e (front ++ rest) rest (level_from e 2 (front ++ rest) rest (h front rest (high l front r) shut)) none ask in
    record {
      operands = h;
      levels = λ l front rest two r shut le. lev l front rest r shut;
      choices = λ front rest r shut none ask. cho front rest 1 r shut none ask;
      wholes = λ front rest r shut none ask sets. whole_from e (front ++ rest) rest (cho front rest 0 r shut none ask) sets;
    }

pub number_complete : (n : ℕ) (front rest : List Lexeme) → Reads 12 front (t.Number n) → NoOpen rest → operand read (front ++ rest) ≡ Ok (t.Number n, rest)
unfolding operand
number_complete n front rest r shut =
    let s = r.1 in
    ap (λ (f : List Lexeme). operand read (f ++ rest)) s.parts ∙ rw (s.is.kind, s.is.value) refl

pub name_is : (n : Name) (k : Lexeme) → IsName n k → name_of k ≡ n
name_is n k h =
    let one : name_of k ≡ record { text = n.text; at = k.at } = ap (λ (x : List ℕ). record { text = x; at = k.at }) h.text_is in
    let two : record { text = n.text; at = k.at } ≡ n = ap (λ x. record { text = n.text; at = x }) h.at_is in
    one ∙ two

-- nothing is called
pub named_stops : (n : Name) (rest : List Lexeme) → NoOpen rest → name_or_call read n rest ≡ Ok (t.Named n, rest)
named_stops n [] h = refl
named_stops n (k ∷ ts) h = rw h refl

pub name_operand : (n : Name) (k : Lexeme) (ts : List Lexeme) → IsName n k → operand read (k ∷ ts) ≡ name_or_call read n ts
unfolding operand
name_operand n k ts h = rw h.kind (ap (λ (m : Name). name_or_call read m ts) (name_is n k h))

pub named_complete : (n : Name) (front rest : List Lexeme) → Reads 12 front (t.Named n) → NoOpen rest → operand read (front ++ rest) ≡ Ok (t.Named n, rest)
named_complete n front rest r shut =
    let s = r.1 in
    ap (λ (f : List Lexeme). operand read (f ++ rest)) s.parts ∙ name_operand n s.only rest s.is ∙ named_stops n rest shut

pub open_operand : (k : Lexeme) (ts : List Lexeme) → IsMark (codes "(") k → operand read (k ∷ ts) ≡ grouped_expression read ts
unfolding operand
open_operand k ts m = rw (m.kind, m.text_is) refl

pub unary_operand : (op : UnaryOp) (k : Lexeme) (ts : List Lexeme) → IsMark (unary_text op) k → operand read (k ∷ ts) ≡ (operand read ts >>= λ x. Ok (t.Unary op x.0, x.1))
unfolding operand
unary_operand op k ts m = rw (m.kind, m.text_is, unary_is op) (ap (λ (r : Read). r >>= λ x. Ok (t.Unary op x.0, x.1)) (operand_is ts))

-- what ends a part
pub record Closes (text : List ℕ) : Type 0 where
  pub no_open : bytes_eq text (codes "(") ≡ false
  pub no_operator : operator_of text ≡ None
  pub no_question : bytes_eq text (codes "?") ≡ false
  pub no_set : bytes_eq text (codes "=") ≡ false

pub ended : {e : Tree} (h : Complete e) (text : List ℕ) → Closes text → (front : List Lexeme) (k : Lexeme) (rest : List Lexeme) → Reads 0 front e → IsMark text k → read Whole (front ++ k ∷ rest) ≡ Ok (e, k ∷ rest)
ended h text c front k rest r m =
    whole_is (front ++ k ∷ rest) ∙ h.wholes front (k ∷ rest) r (mark_is text (codes "(") k m ∙ c.no_open) (ap level_of (mark_binary text k m ∙ c.no_operator)) (mark_is text (codes "?") k m ∙ c.no_question) (mark_is text (codes "=") k m ∙ c.no_set)

pub close_closes : Closes (codes ")")
close_closes = record { no_open = refl; no_operator = refl; no_question = refl; no_set = refl }

pub comma_closes : Closes (codes ",")
comma_closes = record { no_open = refl; no_operator = refl; no_question = refl; no_set = refl }

pub semicolon_closes : Closes (codes ";")
semicolon_closes = record { no_open = refl; no_operator = refl; no_question = refl; no_set = refl }

pub colon_closes : Closes (codes ":")
colon_closes = record { no_open = refl; no_operator = refl; no_question = refl; no_set = refl }

pub group_complete : (a : Tree) → Complete a → (front rest : List Lexeme) → Reads 12 front (t.Group a) → NoOpen rest → operand read (front ++ rest) ≡ Ok (t.Group a, rest)
group_complete a h front rest r shut =
    let p = r.1 in
    let q = p.inner in
    let whole_list : front ++ rest ≡ p.mark ∷ (q.front ++ q.mark ∷ rest) = ap (λ (f : List Lexeme). f ++ rest) p.parts ∙ ap (λ (f : List Lexeme). p.mark ∷ f) (ap (λ (f : List Lexeme). f ++ rest) q.parts ∙ append_assoc q.front (q.mark ∷ []) rest) in
    let inner : read Whole (q.front ++ q.mark ∷ rest) ≡ Ok (a, q.mark ∷ rest) = ended h (codes ")") close_closes q.front q.mark rest q.inner q.is_mark in
    let closing : expect (codes ")") (q.mark ∷ rest) ≡ Ok (tt, rest) = expect_is (codes ")") q.mark rest (mark_is (codes ")") (codes ")") q.mark q.is_mark) in
    ap (operand read) whole_list ∙ open_operand p.mark (q.front ++ q.mark ∷ rest) p.is_mark ∙ rw (inner, closing) refl

pub unary_complete : (op : UnaryOp) (a : Tree) → Complete a → (front rest : List Lexeme) → Reads 12 front (t.Unary op a) → NoOpen rest → operand read (front ++ rest) ≡ Ok (t.Unary op a, rest)
unary_complete op a h front rest r shut =
    let p = r.1 in
    ap (λ (f : List Lexeme). operand read (f ++ rest)) p.parts ∙ unary_operand op p.mark (p.rest ++ rest) p.is_mark ∙ rw (h.operands p.rest rest p.inner shut) refl

pub binary_level : (op : BinaryOp) (x y : Tree) → Complete x → Complete y → (l : ℕ) (front rest : List Lexeme) → 2 ≤ l → Reads l front (t.Binary op x y) → NoOpen rest → binds rest ≤ level op
    → at_level read l (front ++ rest) ≡ read (Climb l (t.Binary op x y)) rest
binary_level op x y hx hy l front rest two r shut le =
    let j = r.1 in
    let whole_list : front ++ rest ≡ j.left ++ j.mark ∷ (j.right ++ rest) = ap (λ (f : List Lexeme). f ++ rest) j.parts ∙ append_assoc j.left (j.mark ∷ j.right) rest in
    let is : binary_of j.mark ≡ Some op = op_binary op j.mark j.is_mark in
    let is_level : binds (j.mark ∷ (j.right ++ rest)) ≡ level op = ap level_of is in
    let top_x = below_top x (level op) j.left j.first in
    let top_y = below_top y (level op + 1) j.right j.second in
    let left : at_level read l (j.left ++ j.mark ∷ (j.right ++ rest)) ≡ read (Climb l x) (j.mark ∷ (j.right ++ rest)) =
    hx.levels l j.left (j.mark ∷ (j.right ++ rest)) two (relevel x (level op) l j.left j.first (omega (arith, r.0, top_x))) (mark_is (binary_text op) (codes "(") j.mark j.is_mark ∙ operator_shut op) (omega (arith, is_level, top_x)) in
    let right : at_level read (level op + 1) (j.right ++ rest) ≡ Ok (y, rest) =
    hy.levels (level op + 1) j.right rest (omega (arith, level_least op)) j.second shut (omega (arith, le, top_y)) ∙ climb_stops (level op + 1) y rest (omega (arith, le)) in
    ap (at_level read l) whole_list ∙ left ∙ climbs l x (j.mark ∷ (j.right ++ rest)) j.mark (j.right ++ rest) op refl is r.0 ∙ rw right refl

pub binary_complete : (op : BinaryOp) (x y : Tree) → Complete x → Complete y → Complete (t.Binary op x y)
binary_complete op x y hx hy =
    let cho = λ (front rest : List Lexeme) (l : ℕ) (r : Reads l front (t.Binary op x y)) (shut : NoOpen rest) (none : binds rest ≡ 0) (ask : begins (codes "?") rest ≡ false).
    choice_from (t.Binary op x y) (front ++ rest) rest (binary_level op x y hx hy 2 front rest (omega arith) (relevel (t.Binary op x y) l 2 front r (level_least op)) shut (omega (arith, none))) none ask in
    record {
      operands = λ front rest r shut. absurd (omega (arith, r.0, level_most op));
      levels = λ l front rest two r shut le. binary_level op x y hx hy l front rest two r shut le;
      choices = λ front rest r shut none ask. cho front rest 1 r shut none ask;
      wholes = λ front rest r shut none ask sets. whole_from (t.Binary op x y) (front ++ rest) rest (cho front rest 0 r shut none ask) sets;
    }

pub asks : (c x y : Tree) (k : Lexeme) (ts : List Lexeme) (k2 : Lexeme) (us rest : List Lexeme) → IsMark (codes "?") k → read Whole ts ≡ Ok (x, k2 ∷ us) → IsMark (codes ":") k2 → read Choice us ≡ Ok (y, rest)
    → choice_after read c (k ∷ ts) ≡ Ok (t.Cond c x y, rest)
unfolding choice_after
asks c x y k ts k2 us rest m first m2 last =
    let here : is_mark (codes "?") k ≡ true = mark_is (codes "?") (codes "?") k m in
    let colon : expect (codes ":") (k2 ∷ us) ≡ Ok (tt, us) = expect_is (codes ":") k2 us (mark_is (codes ":") (codes ":") k2 m2) in
    rw (here, first, colon, last) refl

pub choice_steps : (c : Tree) (ts rest : List Lexeme) → at_level read 2 ts ≡ Ok (c, rest) → choice read ts ≡ choice_after read c rest
unfolding choice
choice_steps c ts rest h = rw h refl

pub cond_choice : (c x y : Tree) → Complete c → Complete x → Complete y → (l : ℕ) (front rest : List Lexeme) → Reads l front (t.Cond c x y) → NoOpen rest → binds rest ≡ 0 → begins (codes "?") rest ≡ false
    → choice read (front ++ rest) ≡ Ok (t.Cond c x y, rest)
cond_choice c x y hc hx hy l front rest r shut none ask =
    let j = r.1 in
    let k = j.second in
    let whole_list : front ++ rest ≡ j.left ++ j.mark ∷ (k.left ++ k.mark ∷ (k.right ++ rest)) =
    ap (λ (f : List Lexeme). f ++ rest) j.parts ∙ append_assoc j.left (j.mark ∷ j.right) rest ∙ ap (λ (f : List Lexeme). j.left ++ j.mark ∷ f) (ap (λ (f : List Lexeme). f ++ rest) k.parts ∙ append_assoc k.left (k.mark ∷ k.right) rest) in
    let after = k.left ++ k.mark ∷ (k.right ++ rest) in
    let no_op : binds (j.mark ∷ after) ≡ 0 = ap level_of (mark_binary (codes "?") j.mark j.is_mark) in
    let test : at_level read 2 (j.left ++ j.mark ∷ after) ≡ Ok (c, j.mark ∷ after) =
    hc.levels 2 j.left (j.mark ∷ after) (omega arith) j.first (mark_is (codes "?") (codes "(") j.mark j.is_mark) (omega (arith, no_op)) ∙ climb_stops 2 c (j.mark ∷ after) (omega (arith, no_op)) in
    ap (choice read) whole_list ∙ choice_steps c (j.left ++ j.mark ∷ after) (j.mark ∷ after) test
    ∙ asks c x y j.mark after k.mark (k.right ++ rest) rest j.is_mark (ended hx (codes ":") colon_closes k.left k.mark (k.right ++ rest) k.first k.is_mark) k.is_mark (choice_is (k.right ++ rest) ∙ hy.choices k.right rest k.second shut none ask)

pub cond_complete : (c x y : Tree) → Complete c → Complete x → Complete y → Complete (t.Cond c x y)
cond_complete c x y hc hx hy = record {
  operands = λ front rest r shut. absurd (omega (arith, r.0));
  levels = λ l front rest two r shut le. absurd (omega (arith, r.0, two));
  choices = λ front rest r shut none ask. cond_choice c x y hc hx hy 1 front rest r shut none ask;
  wholes = λ front rest r shut none ask sets. whole_from (t.Cond c x y) (front ++ rest) rest (cond_choice c x y hc hx hy 0 front rest r shut none ask) sets;
}

pub whole_steps : (e : Tree) (ts rest : List Lexeme) → choice read ts ≡ Ok (e, rest) → whole read ts ≡ assignment_after read e rest
unfolding whole
whole_steps e ts rest h = rw h refl

pub sets_to : (n : Name) (a : Tree) (k : Lexeme) (ts rest : List Lexeme) → IsMark (codes "=") k → read Whole ts ≡ Ok (a, rest) → assignment_after read (t.Named n) (k ∷ ts) ≡ Ok (t.Assign n a, rest)
unfolding assignment_after
sets_to n a k ts rest m h =
    let here : is_mark (codes "=") k ≡ true = mark_is (codes "=") (codes "=") k m in
    rw (here, h) refl

pub assign_whole : (n : Name) (a : Tree) → Complete a → (front rest : List Lexeme) → Reads 0 front (t.Assign n a) → NoOpen rest → binds rest ≡ 0 → begins (codes "?") rest ≡ false → begins (codes "=") rest ≡ false
    → whole read (front ++ rest) ≡ Ok (t.Assign n a, rest)
assign_whole n a h front rest r shut none ask sets =
    let j = r.1 in
    let after = j.mark ∷ (j.right ++ rest) in
    let whole_list : front ++ rest ≡ j.left ++ after = ap (λ (f : List Lexeme). f ++ rest) j.parts ∙ append_assoc j.left (j.mark ∷ j.right) rest in
    let name : Reads 12 j.left (t.Named n) = (omega arith, j.first) in
    let no_op : binds after ≡ 0 = ap level_of (mark_binary (codes "=") j.mark j.is_mark) in
    let no_ask : begins (codes "?") after ≡ false = mark_is (codes "=") (codes "?") j.mark j.is_mark in
    let first : choice read (j.left ++ after) ≡ Ok (t.Named n, after) = choice_from (t.Named n) (j.left ++ after) after (level_from (t.Named n) 2 (j.left ++ after) after (named_complete n j.left after name (mark_is (codes "=") (codes "(") j.mark j.is_mark))) no_op no_ask in
    ap (whole read) whole_list ∙ whole_steps (t.Named n) (j.left ++ after) after first ∙ sets_to n a j.mark (j.right ++ rest) rest j.is_mark (whole_is (j.right ++ rest) ∙ h.wholes j.right rest j.second shut none ask sets)

pub assign_complete : (n : Name) (a : Tree) → Complete a → Complete (t.Assign n a)
assign_complete n a h = record {
  operands = λ front rest r shut. absurd (omega (arith, r.0));
  levels = λ l front rest two r shut le. absurd (omega (arith, r.0, two));
  choices = λ front rest r shut none ask. absurd (omega (arith, r.0));
  wholes = λ front rest r shut none ask sets. assign_whole n a h front rest r shut none ask sets;
}
