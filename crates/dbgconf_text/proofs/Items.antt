-- Names and values, read from left to right.
use Rattle.std.proofs.Common.{◌≡◌, ◌≢◌, ℕ, ◌+◌, ◌*◌, ◌<◌, List, [], ◌∷◌, ◌++◌, length, take, slice_get, Some, refl, sym, ap, subst, ◌∙◌, append_assoc, arith}
use Rattle.std.specs.Prelude.{codes}
use Rattle.std.proofs.Math.Seq.{take-append-add}
use Rattle.std.proofs.lemmas.List.{length-append, append-nil, take_at}
use Rattle.std.proofs.lemmas.Option.{same_Some}
use Rattle.dap_base.specs.declared.text.Place.{Place}
use Rattle.dap_base.specs.Number.{number_value}
use Rattle.expr_grammar.specs.declared.code.Name.{Name}
use Rattle.expr_grammar.specs.declared.token.TokenKind.TheVariants as kinds
use Rattle.expr_grammar.specs.Lexeme.{Lexeme}
use Rattle.expr_grammar.specs.Grammar.{IsMark, IsName, IsNumber}
use Rattle.expr_grammar.specs.Refusal.{Begins, IsUnexpected}
use Rattle.dbgconf_text.specs.declared.conf.ConfItem.{ConfItem}
use Rattle.expr_grammar.specs.Bare.{nowhere}
use Rattle.dbgconf_text.specs.Conf.{ReadsConf}

-- ---- lists that are read

pub nil_cons : (k : Lexeme) (ts : List Lexeme) → k ∷ ts ≡ [] → ⊥
nil_cons k ts e = cc

four_tail : (a b c d e f g h : Lexeme) (x y : List Lexeme) → a ∷ b ∷ c ∷ d ∷ x ≡ e ∷ f ∷ g ∷ h ∷ y → x ≡ y
four_tail a b c d e f g h x y is = cc

record Heads (a b c d e f g h : Lexeme) : Type 0 where
  one : a ≡ e
  two : b ≡ f
  three : c ≡ g
  four : d ≡ h

four_heads : (a b c d e f g h : Lexeme) (x y : List Lexeme) → a ∷ b ∷ c ∷ d ∷ x ≡ e ∷ f ∷ g ∷ h ∷ y → Heads a b c d e f g h
four_heads a b c d e f g h x y is = record { one = cc; two = cc; three = cc; four = cc }

-- the first name and value of a list, by its tokens
pub record First (ts : List Lexeme) (made : List ConfItem) : Type 0 where
  pub item : ConfItem
  pub more : List ConfItem
  pub n : Lexeme
  pub e : Lexeme
  pub m : Lexeme
  pub s : Lexeme
  pub rest : List Lexeme
  pub made_is : made ≡ item ∷ more
  pub parts : ts ≡ n ∷ e ∷ m ∷ s ∷ rest
  pub is_name : IsName item.name n
  pub is_equals : IsMark (codes "=") e
  pub is_number : IsNumber item.value m
  pub is_semi : IsMark (codes ";") s
  pub reads : ReadsConf rest more

pub first : (made : List ConfItem) (k : Lexeme) (ts : List Lexeme) → ReadsConf (k ∷ ts) made → First (k ∷ ts) made
first [] k ts r = absurd (nil_cons k ts r)
first (item ∷ more) k ts r =
    let p = r.first in
    record {
      item = item;
      more = more;
      n = p.name;
      e = p.equals;
      m = p.number;
      s = p.semi;
      rest = r.right;
      made_is = refl;
      parts = r.parts ∙ ap (λ (l : List Lexeme). l ++ r.right) p.parts;
      is_name = p.is_name;
      is_equals = p.is_equals;
      is_number = p.is_number;
      is_semi = p.is_semi;
      reads = r.second;
    }

pub cancel : (conf : List ConfItem) (front back : List Lexeme) (made : List ConfItem) → ReadsConf front conf → ReadsConf (front ++ back) made → (rest : List ConfItem) × ReadsConf back rest
cancel [] front back made r s = (made, subst (λ (l : List Lexeme). ReadsConf l made) (ap (λ (l : List Lexeme). l ++ back) r) s)
cancel (x ∷ conf) front back [] r s =
    let p = r.first in
    let e : front ++ back ≡ p.name ∷ p.equals ∷ p.number ∷ p.semi ∷ (r.right ++ back) = ap (λ (l : List Lexeme). l ++ back) (r.parts ∙ ap (λ (l : List Lexeme). l ++ r.right) p.parts) in
    absurd (nil_cons p.name (p.equals ∷ p.number ∷ p.semi ∷ (r.right ++ back)) (sym e ∙ s))
cancel (x ∷ conf) front back (y ∷ made) r s =
    let p = r.first in
    let q = s.first in
    let e : front ++ back ≡ p.name ∷ p.equals ∷ p.number ∷ p.semi ∷ (r.right ++ back) = ap (λ (l : List Lexeme). l ++ back) (r.parts ∙ ap (λ (l : List Lexeme). l ++ r.right) p.parts) in
    let f : front ++ back ≡ q.name ∷ q.equals ∷ q.number ∷ q.semi ∷ s.right = s.parts ∙ ap (λ (l : List Lexeme). l ++ s.right) q.parts in
    let tail : r.right ++ back ≡ s.right = four_tail p.name p.equals p.number p.semi q.name q.equals q.number q.semi (r.right ++ back) s.right (sym e ∙ f) in
    cancel conf r.right back made r.second (subst (λ (l : List Lexeme). ReadsConf l made) (sym tail) s.second)

pub reads_append : (a : List ConfItem) (ts : List Lexeme) (b : List ConfItem) (us : List Lexeme) → ReadsConf ts a → ReadsConf us b → ReadsConf (ts ++ us) (a ++ b)
reads_append [] ts b us r s = subst (λ (l : List Lexeme). ReadsConf l b) (sym (ap (λ (l : List Lexeme). l ++ us) r)) s
reads_append (x ∷ a) ts b us r s = record {
  left = r.left;
  right = r.right ++ us;
  parts = ap (λ (l : List Lexeme). l ++ us) r.parts ∙ append_assoc r.left r.right us;
  first = r.first;
  second = reads_append a r.right b us r.second s;
}

pub reads_length : (conf : List ConfItem) (ts : List Lexeme) → ReadsConf ts conf → length ts ≡ 4 * length conf
reads_length [] ts r = ap length r
reads_length (x ∷ conf) ts r = omega (arith, ap length r.parts, length-append r.left r.right, ap length r.first.parts, reads_length conf r.right r.second)

name_same : (x y : Name) → x.text ≡ y.text → x.at ≡ y.at → x ≡ y
name_same x y text at =
    let one : x ≡ record { text = y.text; at = x.at } = ap (λ (t : List ℕ). record { text = t; at = x.at }) text in
    let two = ap (λ (p : Place). record { text = y.text; at = p }) at in
    one ∙ two

item_same : (x y : ConfItem) → x.name ≡ y.name → x.value ≡ y.value → x ≡ y
item_same x y name value =
    let one : x ≡ record { name = y.name; value = x.value } = ap (λ (n : Name). record { name = n; value = x.value }) name in
    let two = ap (λ (v : ℕ). record { name = y.name; value = v }) value in
    one ∙ two

pub one_conf : (x y : List ConfItem) (ts : List Lexeme) → ReadsConf ts x → ReadsConf ts y → x ≡ y
one_conf [] [] ts r s = refl
one_conf [] (b ∷ y) ts r s =
    let q = s.first in
    absurd (nil_cons q.name (q.equals ∷ q.number ∷ q.semi ∷ s.right) (sym (s.parts ∙ ap (λ (l : List Lexeme). l ++ s.right) q.parts) ∙ r))
one_conf (a ∷ x) [] ts r s =
    let p = r.first in
    absurd (nil_cons p.name (p.equals ∷ p.number ∷ p.semi ∷ r.right) (sym (r.parts ∙ ap (λ (l : List Lexeme). l ++ r.right) p.parts) ∙ s))
one_conf (a ∷ x) (b ∷ y) ts r s =
    let p = r.first in
    let q = s.first in
    let e : ts ≡ p.name ∷ p.equals ∷ p.number ∷ p.semi ∷ r.right = r.parts ∙ ap (λ (l : List Lexeme). l ++ r.right) p.parts in
    let f : ts ≡ q.name ∷ q.equals ∷ q.number ∷ q.semi ∷ s.right = s.parts ∙ ap (λ (l : List Lexeme). l ++ s.right) q.parts in
    let h = four_heads p.name p.equals p.number p.semi q.name q.equals q.number q.semi r.right s.right (sym e ∙ f) in
    let tail = four_tail p.name p.equals p.number p.semi q.name q.equals q.number q.semi r.right s.right (sym e ∙ f) in
    let text : a.name.text ≡ b.name.text = sym p.is_name.text_is ∙ ap (λ (k : Lexeme). k.text) h.one ∙ q.is_name.text_is in
    let at : a.name.at ≡ b.name.at = sym p.is_name.at_is ∙ ap (λ (k : Lexeme). k.at) h.one ∙ q.is_name.at_is in
    let value : a.value ≡ b.value = same_Some a.value b.value (sym p.is_number.value ∙ ap (λ (k : Lexeme). number_value k.text) h.three ∙ q.is_number.value) in
    let here : a ≡ b = item_same a b (name_same a.name b.name text at) value in
    let rest : x ≡ y = one_conf x y r.right r.second (subst (λ (l : List Lexeme). ReadsConf l y) (sym tail) s.second) in
    ap (λ (i : ConfItem). i ∷ x) here ∙ ap (λ (l : List ConfItem). b ∷ l) rest

-- ---- unexpected tokens

-- some more tokens complete these
pub record Completes (back : List Lexeme) : Type 0 where
  pub more : List Lexeme
  pub made : List ConfItem
  pub is : ReadsConf (back ++ more) made

-- nothing that begins with these tokens is read, if there is a first
abbrev pub Stops : List Lexeme → List Lexeme → Type 0
Stops back [] = (made : List ConfItem) → ReadsConf back made → ⊥
Stops back (k ∷ rest) = (more : List Lexeme) (made : List ConfItem) → ReadsConf (back ++ k ∷ more) made → ⊥

pub unexpected : (ts front back rest : List Lexeme) (conf : List ConfItem) → ReadsConf front conf → ts ≡ front ++ (back ++ rest) → Completes back → Stops back rest → IsUnexpected ReadsConf ts (length front + length back)
unexpected ts front back rest conf r e c stop = record {
  within = omega (arith, ap length e, length-append front (back ++ rest), length-append back rest);
  begins =
      let all = reads_append conf front c.made (back ++ c.more) r c.is in
      let here : take (length front + length back) ts ++ c.more ≡ front ++ (back ++ c.more) = ap (λ (l : List Lexeme). l ++ c.more) upto ∙ append_assoc front back c.more in
      record { more = c.more; made = conf ++ c.made; is = subst (λ (l : List Lexeme). ReadsConf l (conf ++ c.made)) (sym here) all };
  none = none_by rest e stop;
  not_whole = whole_by rest e stop;
} where
  upto : take (length front + length back) ts ≡ front ++ back
  upto = ap (take (length front + length back)) e ∙ take-append-add front (back ++ rest) (length back) ∙ ap (λ (l : List Lexeme). front ++ l) (take_at back rest (length back) refl)

  none_by : (rest : List Lexeme) → ts ≡ front ++ (back ++ rest) → Stops back rest → length front + length back < length ts → Begins ReadsConf (take (length front + length back + 1) ts) → ⊥
  none_by [] e stop lt b = absurd (omega (arith, lt, ap length e, length-append front (back ++ []), ap length (append-nil back)))
  none_by (k ∷ rest) e stop lt b =
      let n : length front + length back + 1 ≡ length front + (length back + 1) = omega arith in
      let inner : take (length back + 1) (back ++ k ∷ rest) ≡ back ++ k ∷ [] = take-append-add back (k ∷ rest) 1 in
      let upto1 : take (length front + length back + 1) ts ≡ front ++ (back ++ k ∷ []) =
      ap (λ (i : ℕ). take i ts) n ∙ ap (take (length front + (length back + 1))) e ∙ take-append-add front (back ++ k ∷ rest) (length back + 1) ∙ ap (λ (l : List Lexeme). front ++ l) inner in
      let whole : take (length front + length back + 1) ts ++ b.more ≡ front ++ (back ++ k ∷ b.more) =
      ap (λ (l : List Lexeme). l ++ b.more) upto1 ∙ append_assoc front (back ++ k ∷ []) b.more ∙ ap (λ (l : List Lexeme). front ++ l) (append_assoc back (k ∷ []) b.more) in
      let x = cancel conf front (back ++ k ∷ b.more) b.made r (subst (λ (l : List Lexeme). ReadsConf l b.made) whole b.is) in
      stop b.more x.0 x.1

  whole_by : (rest : List Lexeme) → ts ≡ front ++ (back ++ rest) → Stops back rest → length front + length back ≡ length ts → (made : List ConfItem) → ReadsConf ts made → ⊥
  whole_by [] e stop is made s =
      let x = cancel conf front back made r (subst (λ (l : List Lexeme). ReadsConf l made) (e ∙ ap (λ (l : List Lexeme). front ++ l) (append-nil back)) s) in
      stop x.0 x.1
  whole_by (k ∷ rest) e stop is made s = absurd (omega (arith, is, ap length e, length-append front (back ++ k ∷ rest), length-append back (k ∷ rest)))

-- ---- tokens that complete others

token_equals : Lexeme
token_equals = record { kind = kinds.Mark; text = codes "="; start = 0; at = nowhere }

token_zero : Lexeme
token_zero = record { kind = kinds.Number; text = codes "0"; start = 0; at = nowhere }

token_semi : Lexeme
token_semi = record { kind = kinds.Mark; text = codes ";"; start = 0; at = nowhere }

item_reads : (item : ConfItem) (a b c d : Lexeme) → IsName item.name a → IsMark (codes "=") b → IsNumber item.value c → IsMark (codes ";") d → ReadsConf (a ∷ b ∷ c ∷ d ∷ []) (item ∷ [])
item_reads item a b c d p q r s = record {
  left = a ∷ b ∷ c ∷ d ∷ [];
  right = [];
  parts = refl;
  first = record { name = a; equals = b; number = c; semi = d; parts = refl; is_name = p; is_equals = q; is_number = r; is_semi = s };
  second = refl;
}

is_equals : IsMark (codes "=") token_equals
unfolding token_equals
is_equals = record { kind = refl; text_is = refl }

is_semi : IsMark (codes ";") token_semi
unfolding token_semi
is_semi = record { kind = refl; text_is = refl }

is_zero : IsNumber 0 token_zero
unfolding token_zero
is_zero = record { kind = refl; value = refl }

pub nothing : Completes []
nothing = record { more = []; made = []; is = refl }

pub after_name : (n : Name) (a : Lexeme) → IsName n a → Completes (a ∷ [])
after_name n a is = record { more = token_equals ∷ token_zero ∷ token_semi ∷ []; made = record { name = n; value = 0 } ∷ []; is = item_reads (record { name = n; value = 0 }) a token_equals token_zero token_semi is is_equals is_zero is_semi }

pub after_equals : (n : Name) (a b : Lexeme) → IsName n a → IsMark (codes "=") b → Completes (a ∷ b ∷ [])
after_equals n a b is eq = record { more = token_zero ∷ token_semi ∷ []; made = record { name = n; value = 0 } ∷ []; is = item_reads (record { name = n; value = 0 }) a b token_zero token_semi is eq is_zero is_semi }

pub after_number : (n : Name) (v : ℕ) (a b c : Lexeme) → IsName n a → IsMark (codes "=") b → IsNumber v c → Completes (a ∷ b ∷ c ∷ [])
after_number n v a b c is eq num = record { more = token_semi ∷ []; made = record { name = n; value = v } ∷ []; is = item_reads (record { name = n; value = v }) a b c token_semi is eq num is_semi }

-- ---- where reading stops

five_ways : (a b c d e : Lexeme) (ts : List Lexeme) → a ∷ [] ≡ b ∷ c ∷ d ∷ e ∷ ts → ⊥
five_ways a b c d e ts is = cc

short_two : (a b c d e f : Lexeme) (ts : List Lexeme) → a ∷ b ∷ [] ≡ c ∷ d ∷ e ∷ f ∷ ts → ⊥
short_two a b c d e f ts is = cc

short_three : (a b c d e f g : Lexeme) (ts : List Lexeme) → a ∷ b ∷ c ∷ [] ≡ d ∷ e ∷ f ∷ g ∷ ts → ⊥
short_three a b c d e f g ts is = cc

pub stop_name : (a : Lexeme) (rest : List Lexeme) → a.kind ≢ kinds.Name → Stops [] (a ∷ rest)
stop_name a rest other = λ more made r.
    let f = first made a more r in
    let same : a ≡ f.n = cc (f.parts) in
    other (ap (λ (k : Lexeme). k.kind) same ∙ f.is_name.kind)

pub stop_equals : (a : Lexeme) (rest : List Lexeme) → ((k : Lexeme) → slice_get rest 0 ≡ Some k → IsMark (codes "=") k → ⊥) → Stops (a ∷ []) rest
stop_equals a [] other = λ made r. let f = first made a [] r in five_ways a f.n f.e f.m f.s f.rest f.parts
stop_equals a (b ∷ rest) other = λ more made r.
    let f = first made a (b ∷ more) r in
    let same : b ≡ f.e = cc (f.parts) in
    other b refl (subst (λ (k : Lexeme). IsMark (codes "=") k) (sym same) f.is_equals)

pub stop_number : (a b : Lexeme) (rest : List Lexeme) → ((k : Lexeme) (v : ℕ) → slice_get rest 0 ≡ Some k → IsNumber v k → ⊥) → Stops (a ∷ b ∷ []) rest
stop_number a b [] other = λ made r. let f = first made a (b ∷ []) r in short_two a b f.n f.e f.m f.s f.rest f.parts
stop_number a b (c ∷ rest) other = λ more made r.
    let f = first made a (b ∷ c ∷ more) r in
    let same : c ≡ f.m = cc (f.parts) in
    other c f.item.value refl (subst (λ (k : Lexeme). IsNumber f.item.value k) (sym same) f.is_number)

pub stop_semi : (a b c : Lexeme) (rest : List Lexeme) → ((k : Lexeme) → slice_get rest 0 ≡ Some k → IsMark (codes ";") k → ⊥) → Stops (a ∷ b ∷ c ∷ []) rest
stop_semi a b c [] other = λ made r. let f = first made a (b ∷ c ∷ []) r in short_three a b c f.n f.e f.m f.s f.rest f.parts
stop_semi a b c (d ∷ rest) other = λ more made r.
    let f = first made a (b ∷ c ∷ d ∷ more) r in
    let same : d ≡ f.s = cc (f.parts) in
    other d refl (subst (λ (k : Lexeme). IsMark (codes ";") k) (sym same) f.is_semi)
