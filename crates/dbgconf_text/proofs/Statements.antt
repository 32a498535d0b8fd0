-- Statements, one after the other, and what is put into each.
use Rattle.std.proofs.Common.{◌≡◌, ℕ, suc, ◌+◌, ◌-◌, ◌<◌, ◌≤◌, Bool, true, false, cond, List, [], ◌∷◌, ◌++◌, length, take, drop, get_or, Option, Some, None, IsUtf8, refl, sym, ap, subst, ◌∙◌, append_assoc, arith}
use Rattle.std.specs.Prelude.{codes, ◌&&◌, ◌||◌, option_map}
use Rattle.std.specs.Str.{bytes_eq, IsCharBoundary}
use Rattle.std.specs.Cmp.Lexicographic.{bytes_decides}
use Rattle.std.proofs.iter.FirstChar.{beside_ascii}
use Rattle.std.proofs.lemmas.Str.{IsUtf8-drop}
use Rattle.std.proofs.lemmas.Bool.{both_ways, false_from_ne_true}
use Rattle.std.proofs.lemmas.List.{length-append, length-drop, length-take-le, drop-drop, take_at, drop_at, take-append-drop, get_or-drop, get_or-take, drop_all}
use Rattle.std.proofs.Math.Bool.{or-false, or_assoc}
use Rattle.std.proofs.lemmas.Option.{same_Some}
use Rattle.text_lines.specs.Hex.{hex}
use Rattle.expr_grammar.specs.declared.code.Name.{Name}
use Rattle.expr_grammar.specs.Lexeme.{Lexeme}
use Rattle.expr_grammar.specs.Tree as t
use Rattle.expr_grammar.specs.Tree.{Tree, StmtTree}
use Rattle.expr_grammar.specs.Reading.{is_mark}
use Rattle.expr_grammar.specs.Grammar.{IsMark, IsName, Reads, ReadsCode}
use Rattle.expr_grammar.specs.Lexing.{IsTokenOf, Divides}
use Rattle.dbgconf_text.specs.Cuts.{Setting, Cut, value_of, without, semicolon, cut_after, cuts, spliced_text}
use Rattle.dbgconf_text.specs.Replacing.{declares}
use Rattle.dbgconf_text.specs.Splicing.{CanCut, Splicing, cut_of, flag, left_after, out_after, pending, rest_after, statement_len}
use Rattle.expr_grammar.proofs.Moves.{divides_order, gap_order}
use Rattle.dbgconf_text.proofs.Splice as splice
use Rattle.expr_grammar.specs.Plain.{ArePlain}
use Rattle.expr_grammar.proofs.Plain.{name_plain, plain}
use Rattle.dbgconf_text.proofs.Changed as changed
use Rattle.dbgconf_text.proofs.Changed.{NoKeyword, NoKeywords, skip_all, no_keywords, keywords_append, semi_found, semi_no_keyword, equals_no_keyword, keyword_is, parts_of, semi_is, not_end, name_not_end}
use Rattle.dbgconf_text.proofs.Items.{nil_cons}
use Rattle.dap_base.proofs.Basics.{some_none}

-- ---- values

eq_along : (a b c : List ℕ) → bytes_eq a b ≡ true → bytes_eq a c ≡ bytes_eq b c
eq_along a b c e = ap (λ (l : List ℕ). bytes_eq l c) ((bytes_decides a b).0 e)

value_step : (n m : List ℕ) (s : Setting) (more : List Setting) (x y : Bool) → bytes_eq s.name n ≡ x → bytes_eq s.name m ≡ y
    → value_of m (without n more) ≡ cond (bytes_eq n m) None (value_of m more) → value_of m (without n (s ∷ more)) ≡ cond (bytes_eq n m) None (value_of m (s ∷ more))
value_step n m s more true true ex ey rest =
    let same : bytes_eq n m ≡ true = sym (eq_along s.name n m ex) ∙ ey in
    rw ex (rest ∙ (rw same refl))
value_step n m s more true false ex ey rest = rw (ex, ey) rest
value_step n m s more false true ex ey rest =
    let other : bytes_eq n m ≡ false = false_from_ne_true (bytes_eq n m) (λ e. both_ways (bytes_eq s.name n) ex ((bytes_decides s.name n).1 ((bytes_decides s.name m).0 ey ∙ sym ((bytes_decides n m).0 e)))) in
    rw (ex, ey, other) refl
value_step n m s more false false ex ey rest = rw (ex, ey) rest

none_both : (b : Bool) → value_of [] [] ≡ cond b None (value_of [] [])
none_both true = refl
none_both false = refl

pub value_without : (n m : List ℕ) (set : List Setting) → value_of m (without n set) ≡ cond (bytes_eq n m) None (value_of m set)
value_without n m [] = none_both (bytes_eq n m)
value_without n m (s ∷ more) = value_step n m s more (bytes_eq s.name n) (bytes_eq s.name m) refl refl (value_without n m more)

-- ---- what tokens declare

declares_append : (f : Bool) (xs ys : List Lexeme) (m : List ℕ) → declares f (xs ++ ys) m ≡ (declares f xs m || declares (flag f xs) ys m)
declares_append f [] ys m = refl
declares_append f (k ∷ xs) ys m =
    ap (λ b. f && bytes_eq k.text m || b) (declares_append (is_mark (codes "__var") k) xs ys m)
    ∙ sym (or_assoc (f && bytes_eq k.text m) (declares (is_mark (codes "__var") k) xs m) (declares (flag (is_mark (codes "__var") k) xs) ys m))

flag_append : (f : Bool) (xs ys : List Lexeme) → flag f (xs ++ ys) ≡ flag (flag f xs) ys
flag_append f [] ys = refl
flag_append f (k ∷ xs) ys = flag_append (is_mark (codes "__var") k) xs ys

free_false : (ts : List Lexeme) (m : List ℕ) → NoKeywords ts → declares false ts m ≡ false
free_false [] m h = refl
free_false (k ∷ ts) m h = rw h.0 (free_false ts m h.1)

free_flag : (ts : List Lexeme) → NoKeywords ts → flag false ts ≡ false
free_flag [] h = refl
free_flag (k ∷ ts) h = rw h.0 (free_flag ts h.1)

-- ---- the first statement

abbrev NoEnd : List Lexeme → Type 0
NoEnd [] = Unit {0}
NoEnd (k ∷ ts) = (is_mark (codes ";") k ≡ false) × NoEnd ts

no_end : (ts : List Lexeme) → ArePlain ts → NoEnd ts
no_end [] p = tt
no_end (k ∷ ts) p = (p.0.semicolon, no_end ts p.1)

statement_size : (front : List Lexeme) (semi : Lexeme) (right : List Lexeme) → NoEnd front → IsMark (codes ";") semi → statement_len (front ++ semi ∷ right) ≡ suc (length front)
statement_size [] semi right p is = let e = semi_is semi is in rw e refl
statement_size (k ∷ front) semi right p is =
    let other = p.0 in
    rw other (ap suc (statement_size front semi right p.1 is))

-- a declaration, or no keyword
pub data Kind (own : List Lexeme) : Type 0 where
  declared : (n : Name) (e : Tree) → changed.Parts own n e → Kind own
  free : NoKeywords own → Kind own

pub record First (left : List Lexeme) : Type 0 where
  pub own : List Lexeme
  pub right : List Lexeme
  pub parts : left ≡ own ++ right
  pub size : statement_len left ≡ length own
  pub some : 0 < length own
  pub more : List StmtTree
  pub reads : ReadsCode right more
  pub kind : Kind own

size_of : (left own front : List Lexeme) (semi : Lexeme) (right : List Lexeme) → left ≡ own ++ right → own ≡ front ++ semi ∷ [] → NoEnd front → IsMark (codes ";") semi → statement_len left ≡ length own
size_of left own front semi right e f p is =
    let whole : left ≡ front ++ semi ∷ right = e ∙ ap (λ (l : List Lexeme). l ++ right) f ∙ append_assoc front (semi ∷ []) right in
    let n : suc (length front) ≡ length own = omega (arith, ap length f, length-append front (semi ∷ [])) in
    ap statement_len whole ∙ statement_size front semi right p is ∙ n

pos_of : (own front : List Lexeme) (semi : Lexeme) → own ≡ front ++ semi ∷ [] → 0 < length own
pos_of own front semi f = omega (arith, ap length f, length-append front (semi ∷ []))

var_plain : (k : Lexeme) → IsMark (codes "__var") k → is_mark (codes ";") k ≡ false
var_plain k is = not_end k (codes "__var") is refl

pub first : (code : List StmtTree) (k : Lexeme) (ts : List Lexeme) → ReadsCode (k ∷ ts) code → First (k ∷ ts)
first [] k ts r = absurd (nil_cons k ts r)
first (t.Empty at ∷ more) k ts r =
    let one = r.first in
    record {
      own = r.left;
      right = r.right;
      parts = r.parts;
      size = size_of (k ∷ ts) r.left [] one.only r.right r.parts one.parts tt one.is.0;
      some = pos_of r.left [] one.only one.parts;
      more = more;
      reads = r.second;
      kind = free (subst NoKeywords (sym one.parts) (semi_no_keyword one.only one.is.0, tt));
    }
first (t.Plain at e ∷ more) k ts r =
    let p = r.first in
    let tokens = plain e 0 p.front p.inner.0 in
    record {
      own = r.left;
      right = r.right;
      parts = r.parts;
      size = size_of (k ∷ ts) r.left p.front p.mark r.right r.parts p.parts (no_end p.front tokens) p.is_mark;
      some = pos_of r.left p.front p.mark p.parts;
      more = more;
      reads = r.second;
      kind = free (subst NoKeywords (sym p.parts) (keywords_append p.front (p.mark ∷ []) (no_keywords p.front tokens) (semi_no_keyword p.mark p.is_mark, tt)));
    }
first (t.Declare n e ∷ more) k ts r =
    let p = parts_of r.left n e r.first in
    let front = p.var ∷ p.name ∷ p.equals ∷ p.mid in
    let none : NoEnd front = (var_plain p.var p.is_var, (name_not_end n p.name p.is_name, (not_end p.equals (codes "=") p.is_equals refl, no_end p.mid (plain e 0 p.mid p.value)))) in
    record {
      own = r.left;
      right = r.right;
      parts = r.parts;
      size = size_of (k ∷ ts) r.left front p.semi r.right r.parts p.parts none p.is_semi;
      some = pos_of r.left front p.semi p.parts;
      more = more;
      reads = r.second;
      kind = declared n e p;
    }

-- ---- turns

plus_minus : (a b : ℕ) → a ≤ b → a + (b - a) ≡ b
plus_minus a b le = omega (arith, le)

minus_one : (h e x : ℕ) → h ≤ e + 1 → h ≤ x → x ≤ e → h + (e + 1 - h - 1) ≡ e
minus_one h e x le a b = omega (arith, le, a, b)

byte_at : (text : List ℕ) (k : Lexeme) → IsTokenOf text k → (b : ℕ) (is : List ℕ) → length k.text ≡ 1 → k.text ≡ is → is ≡ b ∷ [] → get_or text k.start 0 ≡ b
byte_at text k t b is one text_is single =
    let taken : take 1 (drop k.start text) ≡ b ∷ [] = ap (λ (i : ℕ). take i (drop k.start text)) (sym one) ∙ sym t.is_slice ∙ text_is ∙ single in
    let zero_at : k.start + 0 ≡ k.start = omega arith in
    ap (λ (i : ℕ). get_or text i 0) (sym zero_at) ∙ sym (get_or-drop k.start text 0 0) ∙ sym (get_or-take 1 (drop k.start text) 0 0 (omega arith)) ∙ ap (λ (l : List ℕ). get_or l 0 0) taken

beside_cut : (bs : List ℕ) (n : ℕ) → IsUtf8 bs → 0 < n → n ≤ length bs → get_or bs (n - 1) 0 < 128 → IsCharBoundary bs n
beside_cut bs n utf8 pos le ascii =
    let pred : n - 1 + 1 ≡ n = omega (arith, pos) in
    subst (IsCharBoundary bs) pred (beside_ascii bs (n - 1) utf8 (omega (arith, pos, le)) ascii).1

text_at : (text rest : List ℕ) (n : ℕ) → rest ≡ drop n text → (m : ℕ) → get_or rest m 0 ≡ get_or text (n + m) 0
text_at text rest n is m = ap (λ (l : List ℕ). get_or l m 0) is ∙ get_or-drop n text m 0

take_more_tokens : (all : List Lexeme) (n : ℕ) (own right : List Lexeme) → drop n all ≡ own ++ right → n ≤ length all → take (n + length own) all ≡ take n all ++ own
take_more_tokens all n own right e le =
    let whole : all ≡ take n all ++ (own ++ right) = sym (take-append-drop n all) ∙ ap (λ (l : List Lexeme). take n all ++ l) e in
    let size : length (take n all ++ own) ≡ n + length own = omega (arith, length-append (take n all) own, length-take-le n all le) in
    ap (take (n + length own)) (whole ∙ sym (append_assoc (take n all) own right)) ∙ take_at (take n all ++ own) right (n + length own) size

drop_more_tokens : (all : List Lexeme) (n : ℕ) (own right : List Lexeme) → drop n all ≡ own ++ right → drop (n + length own) all ≡ right
drop_more_tokens all n own right e = sym (drop-drop (length own) n all) ∙ ap (drop (length own)) e ∙ drop_at own right (length own) refl

cuts_declared : (set : List Setting) (var name equals semi : Lexeme) (mid right : List Lexeme) (n : Name) (e : Tree) → IsMark (codes "__var") var → IsName n name → IsMark (codes "=") equals → Reads 0 mid e → IsMark (codes ";") semi
    → cuts set (var ∷ name ∷ equals ∷ (mid ++ semi ∷ right)) ≡ cut_after (value_of n.text set) equals (mid ++ semi ∷ right) (cuts (without n.text set) right)
cuts_declared set var name equals semi mid right n e a b c d f =
    let others : NoKeywords (name ∷ equals ∷ (mid ++ semi ∷ [])) = ((name_plain n name b).keyword, (equals_no_keyword equals c, keywords_append mid (semi ∷ []) (no_keywords mid (plain e 0 mid d)) (semi_no_keyword semi f, tt))) in
    let there : (name ∷ equals ∷ (mid ++ semi ∷ [])) ++ right ≡ name ∷ equals ∷ (mid ++ semi ∷ right) = ap (λ (l : List Lexeme). name ∷ equals ∷ l) (append_assoc mid (semi ∷ []) right) in
    let rest_cuts : cuts (without n.text set) (name ∷ equals ∷ (mid ++ semi ∷ right)) ≡ cuts (without n.text set) right = ap (cuts (without n.text set)) (sym there) ∙ skip_all (without n.text set) (name ∷ equals ∷ (mid ++ semi ∷ [])) right others in
    let key = keyword_is var a in
    let text = b.text_is in
    rw (key, text, rest_cuts) refl

pending_free : (set : List Setting) (before own : List Lexeme) (m : List ℕ) → flag false before ≡ false → NoKeywords own → pending set (before ++ own) m ≡ pending set before m
pending_free set before own m f h =
    let e : declares false (before ++ own) m ≡ declares false before m = declares_append false before own m ∙ ap (λ (v : Bool). declares false before m || declares v own m) f ∙ ap (λ (v : Bool). declares false before m || v) (free_false own m h) ∙ or-false (declares false before m) in
    ap (λ (v : Bool). cond v None (value_of m set)) e

declares_one : (own : List Lexeme) (n : Name) (e : Tree) (p : changed.Parts own n e) (m : List ℕ) → declares false own m ≡ bytes_eq n.text m
declares_one own n e p m =
    let key = keyword_is p.var p.is_var in
    let text = p.is_name.text_is in
    let name = (name_plain n p.name p.is_name).keyword in
    let rest : declares false (p.equals ∷ (p.mid ++ p.semi ∷ [])) m ≡ false = free_false (p.equals ∷ (p.mid ++ p.semi ∷ [])) m (equals_no_keyword p.equals p.is_equals, keywords_append p.mid (p.semi ∷ []) (no_keywords p.mid (plain e 0 p.mid p.value)) (semi_no_keyword p.semi p.is_semi, tt)) in
    let whole : declares false (p.var ∷ p.name ∷ p.equals ∷ (p.mid ++ p.semi ∷ [])) m ≡ bytes_eq n.text m = rw (key, name, rest, text) (or-false (bytes_eq n.text m)) in
    ap (λ (l : List Lexeme). declares false l m) p.parts ∙ whole

flag_one : (own : List Lexeme) (n : Name) (e : Tree) (p : changed.Parts own n e) → flag false own ≡ false
flag_one own n e p =
    let whole : flag false (p.var ∷ p.name ∷ p.equals ∷ (p.mid ++ p.semi ∷ [])) ≡ false = free_flag (p.equals ∷ (p.mid ++ p.semi ∷ [])) (equals_no_keyword p.equals p.is_equals, keywords_append p.mid (p.semi ∷ []) (no_keywords p.mid (plain e 0 p.mid p.value)) (semi_no_keyword p.semi p.is_semi, tt)) in
    ap (flag false) p.parts ∙ whole

pending_declared : (set : List Setting) (before own : List Lexeme) (n : Name) (e : Tree) (p : changed.Parts own n e) (m : List ℕ) → flag false before ≡ false → pending set (before ++ own) m ≡ cond (bytes_eq n.text m) None (pending set before m)
pending_declared set before own n e p m f =
    let d : declares false (before ++ own) m ≡ (declares false before m || bytes_eq n.text m) = declares_append false before own m ∙ ap (λ (v : Bool). declares false before m || declares v own m) f ∙ ap (λ (v : Bool). declares false before m || v) (declares_one own n e p m) in
    ap (λ (v : Bool). cond v None (value_of m set)) d ∙ by (declares false before m) (bytes_eq n.text m) where
      by : (a b : Bool) → cond (a || b) None (value_of m set) ≡ cond b None (cond a None (value_of m set))
      by true true = refl
      by true false = refl
      by false true = refl
      by false false = refl

record Tail (text : List ℕ) (a : ℕ) (right : List Lexeme) (b : ℕ) : Type 0 where
  offset : ℕ
  low : a ≤ offset
  divides : Divides text offset right b

divides_tail : (text : List ℕ) (a : ℕ) (own right : List Lexeme) (b : ℕ) → Divides text a (own ++ right) b → Tail text a right b
divides_tail text a [] right b d = record { offset = a; low = omega arith; divides = d }
divides_tail text a (k ∷ own) right b d =
    let r = divides_tail text (k.start + length k.text) own right b d.2 in
    record { offset = r.offset; low = omega (arith, r.low, gap_order d.0); divides = r.divides }

-- what is known when a statement was looked at
record Known (text out rest : List ℕ) (all : List Lexeme) (n : ℕ) (set : List Setting) (own right : List Lexeme) : Type 0 where
  parts : drop n all ≡ own ++ right
  within : n + length own ≤ length all
  before : take (n + length own) all ≡ take n all ++ own
  after : drop (n + length own) all ≡ right

known : (text out rest : List ℕ) (all : List Lexeme) (n : ℕ) (set : List Setting) (own right : List Lexeme) → Splicing text out rest all n set → drop n all ≡ own ++ right → Known text out rest all n set own right
known text out rest all n set own right s e = record {
  parts = e;
  within = omega (arith, s.some, sym (length-drop n all) ∙ ap length e, length-append own right);
  before = take_more_tokens all n own right e s.some;
  after = drop_more_tokens all n own right e;
}

-- a statement that stays: the names that are left are these
stays : (text out rest : List ℕ) (all : List Lexeme) (n : ℕ) (set left : List Setting) (own right : List Lexeme) (more : List StmtTree) → Splicing text out rest all n set → drop n all ≡ own ++ right → ReadsCode right more
    → ((name : List ℕ) → value_of name left ≡ pending set (take n all ++ own) name) → flag false (take n all ++ own) ≡ false
    → out ++ spliced_text text (length text - length rest) (cuts left right) ≡ spliced_text text 0 (cuts set all) → Splicing text out rest all (n + length own) set
stays text out rest all n set left own right more s e reads values fl so_far =
    let k = known text out rest all n set own right s e in
    let t = divides_tail text s.offset own right (length text) (subst (λ (l : List Lexeme). Divides text s.offset l (length text)) e s.divides) in
    record {
      some = k.within;
      utf8 = s.utf8;
      within = s.within;
      back = s.back;
      offset = t.offset;
      low = omega (arith, s.low, t.low);
      divides = subst (λ (l : List Lexeme). Divides text t.offset l (length text)) (sym k.after) t.divides;
      code = more;
      reads = subst (λ (l : List Lexeme). ReadsCode l more) (sym k.after) reads;
      left = left;
      values = λ name. values name ∙ ap (λ (l : List Lexeme). pending set l name) (sym k.before);
      apart = ap (flag false) k.before ∙ fl;
      so_far = ap (λ (l : List Lexeme). out ++ spliced_text text (length text - length rest) (cuts left l)) k.after ∙ so_far;
    }

flag_on : (before own : List Lexeme) → flag false before ≡ false → flag false own ≡ false → flag false (before ++ own) ≡ false
flag_on before own f g = flag_append false before own ∙ ap (λ (v : Bool). flag v own) f ∙ g

turn_free : (text out rest : List ℕ) (all : List Lexeme) (n : ℕ) (set : List Setting) (own right : List Lexeme) (more : List StmtTree) → Splicing text out rest all n set → drop n all ≡ own ++ right → ReadsCode right more → NoKeywords own
    → Splicing text out rest all (n + length own) set
turn_free text out rest all n set own right more s e reads h =
    stays text out rest all n set s.left own right more s e reads
    (λ name. s.values name ∙ sym (pending_free set (take n all) own name s.apart h))
    (flag_on (take n all) own s.apart (free_flag own h))
    (ap (λ (c : List Cut). out ++ spliced_text text (length text - length rest) c) (sym (ap (cuts s.left) e ∙ skip_all s.left own right h)) ∙ s.so_far)

module _ (text out rest : List ℕ) (all : List Lexeme) (n : ℕ) (set : List Setting) (own right : List Lexeme) (more : List StmtTree) (s : Splicing text out rest all n set) (e : drop n all ≡ own ++ right) (reads : ReadsCode right more)
    (name : Name) (value : Tree) (p : changed.Parts own name value) where
  all_tokens : drop n all ≡ p.var ∷ p.name ∷ p.equals ∷ (p.mid ++ p.semi ∷ right)
  all_tokens = e ∙ ap (λ (l : List Lexeme). l ++ right) p.parts ∙ ap (λ (l : List Lexeme). p.var ∷ p.name ∷ p.equals ∷ l) (append_assoc p.mid (p.semi ∷ []) right)

  next_values : (m : List ℕ) → value_of m (without name.text s.left) ≡ pending set (take n all ++ own) m
  next_values m = value_without name.text m s.left ∙ ap (λ (o : Option ℕ). cond (bytes_eq name.text m) None o) (s.values m) ∙ sym (pending_declared set (take n all) own name value p m s.apart)

  all_cuts : (o : Option ℕ) → pending set (take n all) name.text ≡ o → cuts s.left (drop n all) ≡ cut_after o p.equals (p.mid ++ p.semi ∷ right) (cuts (without name.text s.left) right)
  all_cuts o is =
      ap (cuts s.left) all_tokens ∙ cuts_declared s.left p.var p.name p.equals p.semi p.mid right name value p.is_var p.is_name p.is_equals p.value p.is_semi
      ∙ ap (λ (o : Option ℕ). cut_after o p.equals (p.mid ++ p.semi ∷ right) (cuts (without name.text s.left) right)) (s.values name.text ∙ is)

  turn_kept : pending set (take n all) name.text ≡ None → Splicing text out rest all (n + length own) set
  turn_kept is =
      stays text out rest all n set (without name.text s.left) own right more s e reads next_values (flag_on (take n all) own s.apart (flag_one own name value p))
      (ap (λ (c : List Cut). out ++ spliced_text text (length text - length rest) c) (sym (all_cuts None is)) ∙ s.so_far)

  -- the cut of this statement, that it can be made, and what it leads to
  pub record Made (v : ℕ) : Type 0 where
    pub can : CanCut text rest (record { from = p.equals.start + 1; to = p.semi.start; value = v })
    pub next : Splicing text (out_after text rest out (Some (record { from = p.equals.start + 1; to = p.semi.start; value = v }))) (rest_after text rest (Some (record { from = p.equals.start + 1; to = p.semi.start; value = v }))) all (n + length own) set

  turn_cut : (v : ℕ) → pending set (take n all) name.text ≡ Some v → Made v
  turn_cut v is =
      let k = known text out rest all n set own right s e in
      let d : Divides text s.offset ((p.var ∷ p.name ∷ []) ++ p.equals ∷ (p.mid ++ p.semi ∷ right)) (length text) = subst (λ (l : List Lexeme). Divides text s.offset l (length text)) all_tokens s.divides in
      let a = splice.apart text s.offset (p.var ∷ p.name ∷ []) p.equals (p.mid ++ p.semi ∷ right) (length text) d in
      let b = splice.apart text (p.equals.start + length p.equals.text) p.mid p.semi right (length text) a.after in
      let one : length p.equals.text ≡ 1 = ap length p.is_equals.text_is in
      let semi_one : length p.semi.text ≡ 1 = ap length p.is_semi.text_is in
      let low : s.offset ≤ p.equals.start = divides_order text s.offset (p.var ∷ p.name ∷ []) p.equals.start a.before in
      let mid_low : p.equals.start + length p.equals.text ≤ p.semi.start = divides_order text (p.equals.start + length p.equals.text) p.mid p.semi.start b.before in
      let semi_in = splice.token_within text p.semi b.here (omega (arith, semi_one)) in
      let h = length text - length rest in
      let f = p.equals.start + 1 - h in
      let g = p.semi.start - (p.equals.start + 1) in
      let from_low : h ≤ p.equals.start + 1 = omega (arith, s.low, low) in
      let sum : h + length rest ≡ length text = omega (arith, s.within) in
      let byte : get_or rest (f - 1) 0 ≡ 61 = text_at text rest h s.back (f - 1) ∙ ap (λ (i : ℕ). get_or text i 0) (minus_one h p.equals.start s.offset from_low s.low low) ∙ byte_at text p.equals a.here 61 (codes "=") one p.is_equals.text_is refl in
      let first_cut : IsCharBoundary rest f = beside_cut rest f s.utf8 (omega (arith, s.low, low)) (omega (arith, sum, semi_in, mid_low, one, from_low)) (omega (arith, byte)) in
      let back1 : drop f rest ≡ drop (p.equals.start + 1) text = ap (drop f) s.back ∙ drop-drop f h text ∙ ap (λ (i : ℕ). drop i text) (plus_minus h (p.equals.start + 1) from_low) in
      let len1 : length (drop f rest) ≡ length text - (p.equals.start + 1) = ap length back1 ∙ length-drop (p.equals.start + 1) text in
      let byte2 : get_or (drop f rest) g 0 ≡ 59 = text_at text (drop f rest) (p.equals.start + 1) back1 g ∙ ap (λ (i : ℕ). get_or text i 0) (plus_minus (p.equals.start + 1) p.semi.start (omega (arith, mid_low, one))) ∙ byte_at text p.semi b.here 59 (codes ";") semi_one p.is_semi.text_is refl in
      let second_cut : IsCharBoundary (drop f rest) g = (omega (arith, len1, semi_in, mid_low, one), λ lt high. absurd (omega (arith, byte2, high))) in
      let utf1 = IsUtf8-drop rest f s.utf8 first_cut in
      let utf2 = IsUtf8-drop (drop f rest) g utf1 second_cut in
      let back2 : drop g (drop f rest) ≡ drop p.semi.start text = ap (drop g) back1 ∙ drop-drop g (p.equals.start + 1) text ∙ ap (λ (i : ℕ). drop i text) (plus_minus (p.equals.start + 1) p.semi.start (omega (arith, mid_low, one))) in
      let len2 : length (drop g (drop f rest)) ≡ length text - p.semi.start = ap length back2 ∙ length-drop p.semi.start text in
      let new_here : length text - length (drop g (drop f rest)) ≡ p.semi.start = omega (arith, len2, semi_in) in
      let t = divides_tail text s.offset own right (length text) (subst (λ (l : List Lexeme). Divides text s.offset l (length text)) e s.divides) in
      let cs = all_cuts (Some v) is in
      let at : semicolon (p.mid ++ p.semi ∷ right) ≡ p.semi.start = semi_found p.mid p.semi right (plain value 0 p.mid p.value) p.is_semi in
      let X = take f rest in
      let H = hex v in
      let R = spliced_text text p.semi.start (cuts (without name.text s.left) right) in
      let old : spliced_text text h (cuts s.left (drop n all)) ≡ X ++ 32 ∷ (H ++ R) =
      ap (spliced_text text h) cs ∙ ap (λ (i : ℕ). take f (drop h text) ++ 32 ∷ (H ++ spliced_text text i (cuts (without name.text s.left) right))) at ∙ ap (λ (l : List ℕ). take f l ++ 32 ∷ (H ++ R)) (sym s.back) in
      let joined : (out ++ (X ++ 32 ∷ H)) ++ R ≡ out ++ (X ++ 32 ∷ (H ++ R)) = append_assoc out (X ++ 32 ∷ H) R ∙ ap (λ (l : List ℕ). out ++ l) (append_assoc X (32 ∷ H) R) in
      record {
        can = record { from_low = from_low; to_low = omega (arith, mid_low, one); to_in = omega (arith, semi_in); first_cut = first_cut; second_cut = second_cut };
        next = record {
          some = k.within;
          utf8 = utf2;
          within = omega (arith, len2);
          back = back2 ∙ ap (λ (i : ℕ). drop i text) (sym new_here);
          offset = p.semi.start + length p.semi.text;
          low = omega (arith, new_here);
          divides = subst (λ (l : List Lexeme). Divides text (p.semi.start + length p.semi.text) l (length text)) (sym k.after) b.after;
          code = more;
          reads = subst (λ (l : List Lexeme). ReadsCode l more) (sym k.after) reads;
          left = without name.text s.left;
          values = λ m. next_values m ∙ ap (λ (l : List Lexeme). pending set l m) (sym k.before);
          apart = ap (flag false) k.before ∙ flag_on (take n all) own s.apart (flag_one own name value p);
          so_far = ap (λ (i : ℕ). (out ++ (X ++ 32 ∷ H)) ++ spliced_text text i (cuts (without name.text s.left) (drop (n + length own) all))) new_here
              ∙ ap (λ (l : List Lexeme). (out ++ (X ++ 32 ∷ H)) ++ spliced_text text p.semi.start (cuts (without name.text s.left) l)) k.after
              ∙ joined ∙ ap (λ (l : List ℕ). out ++ l) (sym old) ∙ s.so_far;
        };
      }

-- ---- by what the code finds

-- a statement without a keyword has no cut, and leaves the values
cut_free : (value : List ℕ → Option ℕ) (own : List Lexeme) → NoKeywords own → cut_of value own ≡ None
cut_free value [] h = refl
cut_free value (k ∷ []) h = refl
cut_free value (k ∷ n ∷ []) h = refl
cut_free value (k ∷ n ∷ e ∷ ts) h = let none = h.0 in rw none refl

left_free : (value : List ℕ → Option ℕ) (own : List Lexeme) (m : List ℕ) → NoKeywords own → left_after value own m ≡ value m
left_free value [] m h = refl
left_free value (k ∷ []) m h = refl
left_free value (k ∷ n ∷ []) m h = refl
left_free value (k ∷ n ∷ e ∷ ts) m h = let none = h.0 in rw none refl

-- a declaration has the cut of its name, which loses its value
cut_one : (value : List ℕ → Option ℕ) (own : List Lexeme) (n : Name) (e : Tree) (p : changed.Parts own n e)
    → cut_of value own ≡ option_map (λ v. record { from = p.equals.start + 1; to = p.semi.start; value = v }) (value n.text)
cut_one value own n e p =
    let key = keyword_is p.var p.is_var in
    let at : semicolon (p.mid ++ p.semi ∷ []) ≡ p.semi.start = semi_found p.mid p.semi [] (plain e 0 p.mid p.value) p.is_semi in
    let text = p.is_name.text_is in
    ap (cut_of value) p.parts ∙ (rw (key, at, text) refl)

left_one : (value : List ℕ → Option ℕ) (own : List Lexeme) (n : Name) (e : Tree) (p : changed.Parts own n e) (m : List ℕ) → left_after value own m ≡ cond (bytes_eq n.text m) None (value m)
left_one value own n e p m =
    let key = keyword_is p.var p.is_var in
    let text = p.is_name.text_is in
    ap (λ (l : List Lexeme). left_after value l m) p.parts ∙ (rw (key, text) refl)

-- names that have the same values have the same cut, and lose the same
pub same_cut : (f g : List ℕ → Option ℕ) (own : List Lexeme) → ((name : List ℕ) → f name ≡ g name) → cut_of f own ≡ cut_of g own
same_cut f g [] same = refl
same_cut f g (k ∷ []) same = refl
same_cut f g (k ∷ n ∷ []) same = refl
same_cut f g (k ∷ n ∷ e ∷ ts) same =
    ap (λ (o : Option ℕ). cond (is_mark (codes "__var") k) (option_map (λ v. record { from = e.start + 1; to = semicolon ts; value = v }) o) None) (same n.text)

pub same_left : (f g : List ℕ → Option ℕ) (own : List Lexeme) (m : List ℕ) → ((name : List ℕ) → f name ≡ g name) → left_after f own m ≡ left_after g own m
same_left f g [] m same = same m
same_left f g (k ∷ []) m same = same m
same_left f g (k ∷ n ∷ []) m same = same m
same_left f g (k ∷ n ∷ e ∷ ts) m same = ap (λ (o : Option ℕ). cond (is_mark (codes "__var") k && bytes_eq n.text m) None o) (same m)

pub statement : (text out rest : List ℕ) (all : List Lexeme) (n : ℕ) (set : List Setting) → Splicing text out rest all n set → n < length all → First (drop n all)
statement text out rest all n set s lt = by (drop n all) (omega (arith, length-drop n all, lt)) s.reads where
  by : (l : List Lexeme) → 0 < length l → ReadsCode l s.code → First l
  by [] pos r = absurd (omega (arith, pos))
  by (k ∷ ts) pos r = first s.code k ts r

own_is : (l : List Lexeme) (f : First l) → take (statement_len l) l ≡ f.own
own_is l f = ap (λ (m : ℕ). take m l) f.size ∙ ap (take (length f.own)) f.parts ∙ take_at f.own f.right (length f.own) refl

-- what a turn leads to
pub record Turned (text out rest : List ℕ) (all own : List Lexeme) (n : ℕ) (set : List Setting) : Type 0 where
  pub some : 0 < length own
  pub within : n + length own ≤ length all
  pub can : (c : Cut) → cut_of (pending set (take n all)) own ≡ Some c → CanCut text rest c
  pub next : Splicing text (out_after text rest out (cut_of (pending set (take n all)) own)) (rest_after text rest (cut_of (pending set (take n all)) own)) all (n + length own) set
  pub left : (name : List ℕ) → left_after (pending set (take n all)) own name ≡ pending set (take (n + length own) all) name

module _ (text out rest : List ℕ) (all : List Lexeme) (n : ℕ) (set : List Setting) (s : Splicing text out rest all n set) (f : First (drop n all)) where
  seen : Known text out rest all n set f.own f.right
  seen = known text out rest all n set f.own f.right s f.parts

  -- nothing is put
  kept : cut_of (pending set (take n all)) f.own ≡ None → Splicing text out rest all (n + length f.own) set → ((name : List ℕ) → left_after (pending set (take n all)) f.own name ≡ pending set (take n all ++ f.own) name) → Turned text out rest all f.own n set
  kept none next left = record {
    some = f.some;
    within = seen.within;
    can = λ c e. absurd (some_none c (sym e ∙ none));
    next = subst (λ (o : Option Cut). Splicing text (out_after text rest out o) (rest_after text rest o) all (n + length f.own) set) (sym none) next;
    left = λ name. left name ∙ ap (λ (l : List Lexeme). pending set l name) (sym seen.before);
  }

  by_value : (m : Name) (t : Tree) (p : changed.Parts f.own m t) (o : Option ℕ) → pending set (take n all) m.text ≡ o → Turned text out rest all f.own n set
  by_value m t p None e =
      let none : cut_of (pending set (take n all)) f.own ≡ None = cut_one (pending set (take n all)) f.own m t p ∙ ap (option_map (λ v. record { from = p.equals.start + 1; to = p.semi.start; value = v })) e in
      kept none (turn_kept text out rest all n set f.own f.right f.more s f.parts f.reads m t p e)
      (λ name. left_one (pending set (take n all)) f.own m t p name ∙ sym (pending_declared set (take n all) f.own m t p name s.apart))
  by_value m t p (Some v) e =
      let c : Cut = record { from = p.equals.start + 1; to = p.semi.start; value = v } in
      let is : cut_of (pending set (take n all)) f.own ≡ Some c = cut_one (pending set (take n all)) f.own m t p ∙ ap (option_map (λ v. record { from = p.equals.start + 1; to = p.semi.start; value = v })) e in
      let made = turn_cut text out rest all n set f.own f.right f.more s f.parts f.reads m t p v e in
      record {
        some = f.some;
        within = seen.within;
        can = λ d same. subst (CanCut text rest) (same_Some c d (sym is ∙ same)) made.can;
        next = subst (λ (o : Option Cut). Splicing text (out_after text rest out o) (rest_after text rest o) all (n + length f.own) set) (sym is) made.next;
        left = λ name. left_one (pending set (take n all)) f.own m t p name ∙ sym (pending_declared set (take n all) f.own m t p name s.apart) ∙ ap (λ (l : List Lexeme). pending set l name) (sym seen.before);
      }

  by_kind : Kind f.own → Turned text out rest all f.own n set
  by_kind (free h) =
      kept (cut_free (pending set (take n all)) f.own h) (turn_free text out rest all n set f.own f.right f.more s f.parts f.reads h)
      (λ name. left_free (pending set (take n all)) f.own name h ∙ sym (pending_free set (take n all) f.own name s.apart h))
  by_kind (declared m t p) = by_value m t p (pending set (take n all) m.text) refl

pub turned : (text out rest : List ℕ) (all own : List Lexeme) (n : ℕ) (set : List Setting) → Splicing text out rest all n set → n < length all → own ≡ take (statement_len (drop n all)) (drop n all) → Turned text out rest all own n set
turned text out rest all own n set s lt is =
    let f = statement text out rest all n set s lt in
    subst (λ (l : List Lexeme). Turned text out rest all l n set) (sym (is ∙ own_is (drop n all) f)) (by_kind text out rest all n set s f f.kind)

-- ---- at the start and at the end

pub starts : (text out : List ℕ) (all : List Lexeme) (set : List Setting) (code : List StmtTree) → IsUtf8 text → Divides text 0 all (length text) → ReadsCode all code → out ≡ [] → Splicing text out text all 0 set
starts text out all set code utf8 d r e =
    let zero_at : length text - length text ≡ 0 = omega arith in
    record {
      some = omega arith;
      utf8 = utf8;
      within = omega arith;
      back = ap (λ (i : ℕ). drop i text) (sym zero_at);
      offset = 0;
      low = omega arith;
      divides = d;
      code = code;
      reads = r;
      left = set;
      values = λ name. refl;
      apart = refl;
      so_far = ap (λ (l : List ℕ). l ++ spliced_text text (length text - length text) (cuts set all)) e ∙ ap (λ (i : ℕ). spliced_text text i (cuts set all)) zero_at;
    }

pub ends_with : (text out rest : List ℕ) (all : List Lexeme) (n : ℕ) (set : List Setting) → Splicing text out rest all n set → length all ≤ n → out ++ rest ≡ spliced_text text 0 (cuts set all)
ends_with text out rest all n set s le =
    let none : drop n all ≡ [] = drop_all n all le in
    ap (λ (l : List ℕ). out ++ l) s.back ∙ sym (ap (λ (l : List Lexeme). out ++ spliced_text text (length text - length rest) (cuts s.left l)) none) ∙ s.so_far
