-- Code in which the values of declarations are replaced: its tokens.
use Rattle.std.proofs.Common.{◌≡◌, ℕ, ◌+◌, ◌^◌, ◌<◌, Bool, true, false, List, [], ◌∷◌, ◌++◌, Option, Some, None, refl, sym, ap, subst, ◌∙◌, append_assoc, arith}
use Rattle.std.specs.Prelude.{codes}
use Rattle.std.specs.Str.{bytes_eq}
use Rattle.std.proofs.lemmas.Option.{same_Some}
use Rattle.text_lines.specs.Hex.{hex}
use Rattle.expr_grammar.specs.declared.code.Name.{Name}
use Rattle.expr_grammar.specs.declared.token.TokenKind.TheVariants as kinds
use Rattle.expr_grammar.specs.Lexeme.{Lexeme}
use Rattle.expr_grammar.specs.Tree as t
use Rattle.expr_grammar.specs.Tree.{Tree, StmtTree}
use Rattle.expr_grammar.specs.Reading.{is_mark}
use Rattle.expr_grammar.specs.Grammar.{IsMark, IsName, Reads, ReadsStmt, ReadsCode}
use Rattle.expr_grammar.specs.Bare.{nowhere}
use Rattle.dbgconf_text.specs.Cuts.{Setting, Cut, value_of, without, semicolon, cut_after, cuts, new_value, with_values, AreSmall}
use Rattle.dbgconf_text.proofs.Numbers.{hex_number}
use Rattle.dbgconf_text.proofs.Splice.{Cutting, done, cut}
use Rattle.expr_grammar.specs.Fits.{Fits}
use Rattle.expr_grammar.proofs.Fits.{fits_after, fits_other, light}
use Rattle.expr_grammar.specs.Plain.{ArePlain}
use Rattle.expr_grammar.proofs.Plain.{name_plain, plain}

small_by : (name : List ℕ) (s : Setting) (more : List Setting) (b : Bool) → bytes_eq s.name name ≡ b → s.value < 2 ^ 64 → AreSmall (without name more) → AreSmall (without name (s ∷ more))
small_by name s more true is small rest = rw is rest
small_by name s more false is small rest = rw is (small, rest)

small_without : (name : List ℕ) (set : List Setting) → AreSmall set → AreSmall (without name set)
small_without name [] h = tt
small_without name (s ∷ more) h = small_by name s more (bytes_eq s.name name) refl h.0 (small_without name more h.1)

value_by : (name : List ℕ) (s : Setting) (more : List Setting) (v : ℕ) (b : Bool) → bytes_eq s.name name ≡ b → s.value < 2 ^ 64 → (value_of name more ≡ Some v → v < 2 ^ 64) → value_of name (s ∷ more) ≡ Some v → v < 2 ^ 64
value_by name s more v true is small rest e =
    let here : value_of name (s ∷ more) ≡ Some s.value = rw is refl in
    subst (λ (x : ℕ). x < 2 ^ 64) (same_Some s.value v (sym here ∙ e)) small
value_by name s more v false is small rest e =
    let there : value_of name (s ∷ more) ≡ value_of name more = rw is refl in
    rest (sym there ∙ e)

small_value : (name : List ℕ) (set : List Setting) (v : ℕ) → AreSmall set → value_of name set ≡ Some v → v < 2 ^ 64
small_value name [] v h e = absurd cc
small_value name (s ∷ more) v h e = value_by name s more v (bytes_eq s.name name) refl h.0 (small_value name more v h.1) e

-- ---- cuts, token by token

abbrev pub NoKeyword : Lexeme → Type 0
NoKeyword k = is_mark (codes "__var") k ≡ false

abbrev pub NoKeywords : List Lexeme → Type 0
NoKeywords [] = Unit {0}
NoKeywords (k ∷ ts) = NoKeyword k × NoKeywords ts

-- no declaration begins here
skip : (set : List Setting) (k : Lexeme) (ts : List Lexeme) → NoKeyword k → cuts set (k ∷ ts) ≡ cuts set ts
skip set k [] free = refl
skip set k (n ∷ []) free = refl
skip set k (n ∷ e ∷ ts) free = rw free refl

pub skip_all : (set : List Setting) (front ts : List Lexeme) → NoKeywords front → cuts set (front ++ ts) ≡ cuts set ts
skip_all set [] ts free = refl
skip_all set (k ∷ front) ts free = skip set k (front ++ ts) free.0 ∙ skip_all set front ts free.1

pub no_keywords : (ts : List Lexeme) → ArePlain ts → NoKeywords ts
no_keywords [] p = tt
no_keywords (k ∷ ts) p = (p.0.keyword, no_keywords ts p.1)

pub keywords_append : (a b : List Lexeme) → NoKeywords a → NoKeywords b → NoKeywords (a ++ b)
keywords_append [] b p q = q
keywords_append (k ∷ a) b p q = (p.0, keywords_append a b p.1 q)

pub semi_found : (mid : List Lexeme) (semi : Lexeme) (rest : List Lexeme) → ArePlain mid → IsMark (codes ";") semi → semicolon (mid ++ semi ∷ rest) ≡ semi.start
semi_found [] semi rest p is =
    let kind = is.kind in
    let text = is.text_is in
    rw (kind, text) refl
semi_found (k ∷ mid) semi rest p is =
    let other = p.0.semicolon in
    rw other (semi_found mid semi rest p.1 is)

pub semi_no_keyword : (semi : Lexeme) → IsMark (codes ";") semi → NoKeyword semi
semi_no_keyword semi is =
    let kind = is.kind in
    let text = is.text_is in
    rw (kind, text) refl

pub equals_no_keyword : (k : Lexeme) → IsMark (codes "=") k → NoKeyword k
equals_no_keyword k is =
    let kind = is.kind in
    let text = is.text_is in
    rw (kind, text) refl

pub keyword_is : (k : Lexeme) → IsMark (codes "__var") k → is_mark (codes "__var") k ≡ true
keyword_is k is =
    let kind = is.kind in
    let text = is.text_is in
    rw (kind, text) refl

pub semi_is : (k : Lexeme) → IsMark (codes ";") k → is_mark (codes ";") k ≡ true
semi_is k is =
    let kind = is.kind in
    let text = is.text_is in
    rw (kind, text) refl

-- neither opens a parenthesis
other_token : (k : Lexeme) (text : List ℕ) → IsMark text k → bytes_eq text (codes "(") ≡ false → is_mark (codes "(") k ≡ false
other_token k text is other =
    let kind = is.kind in
    let text_is = is.text_is in
    rw (kind, text_is, other) refl

name_token : (n : Name) (k : Lexeme) → IsName n k → is_mark (codes "(") k ≡ false
name_token n k is = let kind = is.kind in rw kind refl

pub not_end : (k : Lexeme) (text : List ℕ) → IsMark text k → bytes_eq text (codes ";") ≡ false → is_mark (codes ";") k ≡ false
not_end k text is other =
    let kind = is.kind in
    let text_is = is.text_is in
    rw (kind, text_is, other) refl

pub name_not_end : (n : Name) (k : Lexeme) → IsName n k → is_mark (codes ";") k ≡ false
name_not_end n k is = let kind = is.kind in rw kind refl

-- further tokens before those that are cut
in_front : (left : List Lexeme) {ts changed : List Lexeme} {cs : List Cut} → Cutting ts changed cs → Cutting (left ++ ts) (left ++ changed) cs
in_front left {ts} done = done
in_front left (cut front mid rest changed equals number semi v more eq_is semi_is kind_is text_is small sub) =
    let made = cut (left ++ front) mid rest changed equals number semi v more eq_is semi_is kind_is text_is small sub in
    let ts = append_assoc left front (equals ∷ (mid ++ semi ∷ rest)) in
    let us = append_assoc left front (equals ∷ number ∷ changed) in
    let cs : List Cut = record { from = equals.start + 1; to = semi.start; value = v } ∷ more in
    subst (λ (l : List Lexeme). Cutting l (left ++ (front ++ equals ∷ number ∷ changed)) cs) ts
    (subst (λ (l : List Lexeme). Cutting ((left ++ front) ++ equals ∷ (mid ++ semi ∷ rest)) l cs) us made)

-- ---- statements

-- the tokens of the code with its values replaced, and how they come from those of the code
pub record Changes (set : List Setting) (ts : List Lexeme) (code : List StmtTree) : Type 0 where
  pub changed : List Lexeme
  pub cutting : Cutting ts changed (cuts set ts)
  pub reads : ReadsCode changed (with_values set code)
  pub fits : Fits [] ts → Fits [] changed

-- ---- a statement that stays

-- the tokens of a statement end with `;`
record Ends (left : List Lexeme) : Type 0 where
  front : List Lexeme
  semi : Lexeme
  parts : left ≡ front ++ semi ∷ []
  is : IsMark (codes ";") semi

ends_whole : (left right : List Lexeme) (e : Ends left) → left ++ right ≡ e.front ++ e.semi ∷ right
ends_whole left right e = ap (λ (l : List Lexeme). l ++ right) e.parts ∙ append_assoc e.front (e.semi ∷ []) right

fits_on : (left right other : List Lexeme) → Ends left → (Fits [] right → Fits [] other) → Fits [] (left ++ right) → Fits [] (left ++ other)
fits_on left right other e g f =
    let semi = semi_is e.semi e.is in
    let here : Fits [] (e.front ++ e.semi ∷ right) = subst (Fits []) (ends_whole left right e) f in
    subst (Fits []) (sym (ends_whole left other e)) (fits_other e.front [] e.semi right other semi here (g (fits_after e.front [] e.semi right semi here)))

stays : (set : List Setting) (left right : List Lexeme) (s : StmtTree) (code : List StmtTree) → NoKeywords left → Ends left → ReadsStmt left s → with_values set (s ∷ code) ≡ s ∷ with_values set code → Changes set right code
    → Changes set (left ++ right) (s ∷ code)
stays set left right s code free ends reads is c =
    let cs : cuts set (left ++ right) ≡ cuts set right = skip_all set left right free in
    let r : ReadsCode (left ++ c.changed) (s ∷ with_values set code) = record { left = left; right = c.changed; parts = refl; first = reads; second = c.reads } in
    record {
      changed = left ++ c.changed;
      cutting = subst (λ (l : List Cut). Cutting (left ++ right) (left ++ c.changed) l) (sym cs) (in_front left c.cutting);
      reads = subst (λ (l : List StmtTree). ReadsCode (left ++ c.changed) l) (sym is) r;
      fits = fits_on left right c.changed ends c.fits;
    }

-- a number as a token
abbrev token : ℕ → Lexeme
token v = record { kind = kinds.Number; text = hex v; start = 0; at = nowhere }

-- a declaration by its tokens
pub record Parts (left : List Lexeme) (n : Name) (e : Tree) : Type 0 where
  pub var : Lexeme
  pub name : Lexeme
  pub equals : Lexeme
  pub mid : List Lexeme
  pub semi : Lexeme
  pub parts : left ≡ var ∷ name ∷ equals ∷ (mid ++ semi ∷ [])
  pub is_var : IsMark (codes "__var") var
  pub is_name : IsName n name
  pub is_equals : IsMark (codes "=") equals
  pub value : Reads 0 mid e
  pub is_semi : IsMark (codes ";") semi

pub parts_of : (left : List Lexeme) (n : Name) (e : Tree) → ReadsStmt left (t.Declare n e) → Parts left n e
parts_of left n e r =
    let p = r.inner in
    let q = p.second in
    let first : p.left ++ p.mark ∷ p.right ≡ p.first.only ∷ p.mark ∷ p.right = ap (λ (l : List Lexeme). l ++ p.mark ∷ p.right) p.first.parts in
    record {
      var = r.mark;
      name = p.first.only;
      equals = p.mark;
      mid = q.front;
      semi = q.mark;
      parts = r.parts ∙ ap (λ (l : List Lexeme). r.mark ∷ l) (p.parts ∙ first ∙ ap (λ (l : List Lexeme). p.first.only ∷ p.mark ∷ l) q.parts);
      is_var = r.is_mark;
      is_name = p.first.is;
      is_equals = p.is_mark;
      value = q.inner;
      is_semi = q.is_mark;
    }

-- a declaration by its tokens, read
reads_parts : (var name equals semi : Lexeme) (mid : List Lexeme) (n : Name) (e : Tree) → IsMark (codes "__var") var → IsName n name → IsMark (codes "=") equals → Reads 0 mid e → IsMark (codes ";") semi
    → ReadsStmt (var ∷ name ∷ equals ∷ (mid ++ semi ∷ [])) (t.Declare n e)
reads_parts var name equals semi mid n e a b c d f = record {
  mark = var;
  rest = name ∷ equals ∷ (mid ++ semi ∷ []);
  parts = refl;
  is_mark = a;
  inner = record {
    left = name ∷ [];
    mark = equals;
    right = mid ++ semi ∷ [];
    parts = refl;
    is_mark = c;
    first = record { only = name; parts = refl; is = b };
    second = record { front = mid; mark = semi; parts = refl; is_mark = f; inner = d };
  };
}

module _ (set : List Setting) (small : AreSmall set) (n : Name) (e : Tree) (code : List StmtTree) (var name equals semi : Lexeme) (mid right : List Lexeme)
    (a : IsMark (codes "__var") var) (b : IsName n name) (c : IsMark (codes "=") equals) (d : Reads 0 mid e) (f : IsMark (codes ";") semi) (rest : Changes (without n.text set) right code) where
  others : NoKeywords (name ∷ equals ∷ (mid ++ semi ∷ []))
  others = ((name_plain n name b).keyword, (equals_no_keyword equals c, keywords_append mid (semi ∷ []) (no_keywords mid (plain e 0 mid d)) (semi_no_keyword semi f, tt)))

  left : List Lexeme
  left = var ∷ name ∷ equals ∷ (mid ++ semi ∷ [])

  whole : left ++ right ≡ var ∷ name ∷ equals ∷ (mid ++ semi ∷ right)
  unfolding left
  whole = ap (λ (l : List Lexeme). var ∷ name ∷ equals ∷ l) (append_assoc mid (semi ∷ []) right)

  rest_cuts : cuts (without n.text set) (name ∷ equals ∷ (mid ++ semi ∷ right)) ≡ cuts (without n.text set) right
  rest_cuts =
      let there : (name ∷ equals ∷ (mid ++ semi ∷ [])) ++ right ≡ name ∷ equals ∷ (mid ++ semi ∷ right) = ap (λ (l : List Lexeme). name ∷ equals ∷ l) (append_assoc mid (semi ∷ []) right) in
      ap (cuts (without n.text set)) (sym there) ∙ skip_all (without n.text set) (name ∷ equals ∷ (mid ++ semi ∷ [])) right others

  all_cuts : (o : Option ℕ) → value_of n.text set ≡ o → cuts set (var ∷ name ∷ equals ∷ (mid ++ semi ∷ right)) ≡ cut_after o equals (mid ++ semi ∷ right) (cuts (without n.text set) right)
  all_cuts o is =
      let key = keyword_is var a in
      let text = b.text_is in
      rw (key, text, is, rest_cuts) refl

  -- a declaration of a number has five tokens, and no parenthesis
  short : (more : List Lexeme) (v : ℕ) → Fits [] more → Fits [] (var ∷ name ∷ equals ∷ token v ∷ semi ∷ more)
  short more v after =
      let e1 = not_end var (codes "__var") a refl in
      let e2 = name_not_end n name b in
      let e3 = not_end equals (codes "=") c refl in
      let e5 = semi_is semi f in
      let four = var ∷ name ∷ equals ∷ token v ∷ [] in
      let last : Fits four (semi ∷ more) = (light four semi (omega arith) (other_token semi (codes ";") f refl), rw e5 after) in (
        light [] var (omega arith) (other_token var (codes "__var") a refl),
        rw e1 (
          light (var ∷ []) name (omega arith) (name_token n name b),
          rw e2 (
            light (var ∷ name ∷ []) equals (omega arith) (other_token equals (codes "=") c refl),
            rw e3 (light (var ∷ name ∷ equals ∷ []) (token v) (omega arith) refl, last),
          ),
        ),
      )

  declaration : (o : Option ℕ) → value_of n.text set ≡ o → Changes set (var ∷ name ∷ equals ∷ (mid ++ semi ∷ right)) (t.Declare n e ∷ code)
  unfolding left
  declaration None is =
      let cs = all_cuts None is in
      let made : Cutting (left ++ right) (left ++ rest.changed) (cuts (without n.text set) right) = in_front left rest.cutting in
      let placed : Cutting (var ∷ name ∷ equals ∷ (mid ++ semi ∷ right)) (left ++ rest.changed) (cuts (without n.text set) right) = subst (λ (l : List Lexeme). Cutting l (left ++ rest.changed) (cuts (without n.text set) right)) whole made in
      let stmt : ReadsStmt left (t.Declare n e) = reads_parts var name equals semi mid n e a b c d f in
      let r : ReadsCode (left ++ rest.changed) (t.Declare n e ∷ with_values (without n.text set) code) = record { left = left; right = rest.changed; parts = refl; first = stmt; second = rest.reads } in
      record {
        changed = left ++ rest.changed;
        cutting = subst (λ (l : List Cut). Cutting (var ∷ name ∷ equals ∷ (mid ++ semi ∷ right)) (left ++ rest.changed) l) (sym cs) placed;
        reads = subst (λ (o : Option ℕ). ReadsCode (left ++ rest.changed) (t.Declare n (new_value o e) ∷ with_values (without n.text set) code)) (sym is) r;
        fits = λ f0. fits_on left right rest.changed (record { front = var ∷ name ∷ equals ∷ mid; semi = semi; parts = refl; is = f }) rest.fits (subst (Fits []) (sym whole) f0);
      }
  declaration (Some v) is =
      let at : semicolon (mid ++ semi ∷ right) ≡ semi.start = semi_found mid semi right (plain e 0 mid d) f in
      let cs : cuts set (var ∷ name ∷ equals ∷ (mid ++ semi ∷ right)) ≡ record { from = equals.start + 1; to = semi.start; value = v } ∷ cuts (without n.text set) right
      = all_cuts (Some v) is ∙ ap (λ (i : ℕ). record { from = equals.start + 1; to = i; value = v } ∷ cuts (without n.text set) right) at in
      let low = small_value n.text set v small is in
      let sub : Cutting (semi ∷ right) (semi ∷ rest.changed) (cuts (without n.text set) right) = in_front (semi ∷ []) rest.cutting in
      let made = cut (var ∷ name ∷ []) mid right (semi ∷ rest.changed) equals (token v) semi v (cuts (without n.text set) right) c f refl refl low sub in
      let ts = var ∷ name ∷ equals ∷ token v ∷ semi ∷ rest.changed in
      let stmt = reads_parts var name equals semi (token v ∷ []) n (t.Number v) a b c (omega arith, record { only = token v; parts = refl; is = record { kind = refl; value = hex_number v low } }) f in
      let r : ReadsCode ts (t.Declare n (t.Number v) ∷ with_values (without n.text set) code) = record { left = var ∷ name ∷ equals ∷ token v ∷ semi ∷ []; right = rest.changed; parts = refl; first = stmt; second = rest.reads } in
      record {
        changed = ts;
        cutting = subst (λ (l : List Cut). Cutting (var ∷ name ∷ equals ∷ (mid ++ semi ∷ right)) ts l) (sym cs) made;
        reads = subst (λ (o : Option ℕ). ReadsCode ts (t.Declare n (new_value o e) ∷ with_values (without n.text set) code)) (sym is) r;
        fits = λ f0.
            let after = rest.fits (fits_after (var ∷ name ∷ equals ∷ mid) [] semi right (semi_is semi f) f0) in
            short rest.changed v after;
      }

along : (set : List Setting) (ts us : List Lexeme) (code : List StmtTree) → ts ≡ us → Changes set us code → Changes set ts code
along set ts us code e c = subst (λ (l : List Lexeme). Changes set l code) (sym e) c

pub changes : (code : List StmtTree) (set : List Setting) (ts : List Lexeme) → AreSmall set → ReadsCode ts code → Changes set ts code
changes [] set ts small r = along set ts [] [] r (record { changed = []; cutting = done; reads = refl; fits = λ f. f })
changes (t.Empty at ∷ code) set ts small r =
    let one = r.first in
    let free : NoKeywords r.left = subst NoKeywords (sym one.parts) (semi_no_keyword one.only one.is.0, tt) in
    along set ts (r.left ++ r.right) (t.Empty at ∷ code) r.parts (stays set r.left r.right (t.Empty at) code free (record { front = []; semi = one.only; parts = one.parts; is = one.is.0 }) r.first refl (changes code set r.right small r.second))
changes (t.Plain at e ∷ code) set ts small r =
    let p = r.first in
    let free : NoKeywords r.left = subst NoKeywords (sym p.parts) (keywords_append p.front (p.mark ∷ []) (no_keywords p.front (plain e 0 p.front p.inner.0)) (semi_no_keyword p.mark p.is_mark, tt)) in
    along set ts (r.left ++ r.right) (t.Plain at e ∷ code) r.parts (stays set r.left r.right (t.Plain at e) code free (record { front = p.front; semi = p.mark; parts = p.parts; is = p.is_mark }) r.first refl (changes code set r.right small r.second))
changes (t.Declare n e ∷ code) set ts small r =
    let p = parts_of r.left n e r.first in
    let rest = changes code (without n.text set) r.right (small_without n.text set small) r.second in
    let made = declaration set small n e code p.var p.name p.equals p.semi p.mid r.right p.is_var p.is_name p.is_equals p.value p.is_semi rest (value_of n.text set) refl in
    let is : ts ≡ p.var ∷ p.name ∷ p.equals ∷ (p.mid ++ p.semi ∷ r.right) = r.parts ∙ ap (λ (l : List Lexeme). l ++ r.right) p.parts ∙ ap (λ (l : List Lexeme). p.var ∷ p.name ∷ p.equals ∷ l) (append_assoc p.mid (p.semi ∷ []) r.right) in
    along set ts (p.var ∷ p.name ∷ p.equals ∷ (p.mid ++ p.semi ∷ r.right)) (t.Declare n e ∷ code) is made
