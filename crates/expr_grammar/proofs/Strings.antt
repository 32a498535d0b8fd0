-- Strings: where they end.
use Rattle.std.proofs.Common.{◌≡◌, ◌≢◌, ℕ, suc, ◌+◌, ◌<◌, ◌≤◌, Bool, true, false, cond, eqb, List, [], ◌∷◌, ◌++◌, length, drop, get_or, Option, Some, None, refl, sym, ap, subst, ◌∙◌, arith, false-eqb}
use Rattle.std.specs.Prelude.{not, ◌&&◌}
use Rattle.std.proofs.lemmas.Bool.{eqb-true, ne_eqb}
use Rattle.std.proofs.lemmas.List.{drop_more, drop_all}
use Rattle.expr_grammar.specs.Spelling.{IsQuoted, nothing, plain, escaped}
use Rattle.expr_grammar.specs.Front.{string_end, one_more}

-- so many bytes more
abbrev pub plus : ℕ → Option ℕ → Option ℕ
plus n None = None
plus n (Some m) = Some (n + m)

plus_more : (n : ℕ) (o : Option ℕ) → plus n (one_more o) ≡ plus (n + 1) o
plus_more n None = refl
plus_more n (Some m) = ap (λ (k : ℕ). Some k) (omega arith)

pub plus_none : (o : Option ℕ) → plus 0 o ≡ o
plus_none None = refl
plus_none (Some m) = ap (λ (k : ℕ). Some k) (omega arith)

-- one turn of the search, at the byte b
abbrev turn : Bool → ℕ → Option ℕ → Option ℕ
turn e b rest = cond (eqb b 10) None (cond (eqb b 34 && not e) (Some 1) (one_more rest))

-- the search from i on is a turn at byte i
at_turn : (bs : List ℕ) (i d : ℕ) (e : Bool) → i < length bs → string_end e (drop i bs) ≡ turn e (get_or bs i d) (string_end (not e && eqb (get_or bs i d) 92) (drop (i + 1) bs))
at_turn bs i d e lt = ap (string_end e) (drop_more bs i d lt)

pub goes_on : (bs : List ℕ) (i d : ℕ) (e e' : Bool) (total : Option ℕ) → i < length bs → eqb (get_or bs i d) 10 ≡ false → (eqb (get_or bs i d) 34 && not e) ≡ false → e' ≡ (not e && eqb (get_or bs i d) 92)
    → plus i (string_end e (drop i bs)) ≡ total → plus (i + 1) (string_end e' (drop (i + 1) bs)) ≡ total
goes_on bs i d e e' total lt no_feed no_end next so_far =
    let one : string_end e (drop i bs) ≡ one_more (string_end (not e && eqb (get_or bs i d) 92) (drop (i + 1) bs)) = at_turn bs i d e lt ∙ rw (no_feed, no_end) refl in
    rw next (sym (plus_more i (string_end (not e && eqb (get_or bs i d) 92) (drop (i + 1) bs))) ∙ sym (ap (plus i) one) ∙ so_far)

pub feed : (bs : List ℕ) (i d : ℕ) (e : Bool) (total : Option ℕ) → i < length bs → eqb (get_or bs i d) 10 ≡ true → plus i (string_end e (drop i bs)) ≡ total → None ≡ total
feed bs i d e total lt is so_far =
    let one : string_end e (drop i bs) ≡ None = at_turn bs i d e lt ∙ rw is refl in
    sym (ap (plus i) one) ∙ so_far

pub ends : (bs : List ℕ) (i d : ℕ) (e : Bool) (total : Option ℕ) → i < length bs → eqb (get_or bs i d) 10 ≡ false → (eqb (get_or bs i d) 34 && not e) ≡ true → plus i (string_end e (drop i bs)) ≡ total → Some (i + 1) ≡ total
ends bs i d e total lt no_feed is so_far =
    let one : string_end e (drop i bs) ≡ Some 1 = at_turn bs i d e lt ∙ rw (no_feed, is) refl in
    sym (ap (plus i) one) ∙ so_far

pub runs_out : (bs : List ℕ) (i : ℕ) (e : Bool) (total : Option ℕ) → length bs ≤ i → plus i (string_end e (drop i bs)) ≡ total → None ≡ total
runs_out bs i e total le so_far = sym (ap (λ (l : List ℕ). plus i (string_end e l)) (drop_all i bs le)) ∙ so_far

-- ---- where the search ends, a string ends

pub record Ends (bs : List ℕ) (n : ℕ) : Type 0 where
  pub body : List ℕ
  pub rest : List ℕ
  pub parts : bs ≡ body ++ 34 ∷ rest
  pub quoted : IsQuoted body
  pub size : n ≡ length body + 1

abbrev some : ℕ → Option ℕ
some n = Some n

some_is : (n m : ℕ) → some n ≡ some m → n ≡ m
some_is n m e = cc

one_more_is : (o : Option ℕ) (n : ℕ) → one_more o ≡ Some n → (m : ℕ) × (o ≡ Some m) × (n ≡ suc m)
one_more_is None n e = absurd cc
one_more_is (Some m) n e = (m, refl, sym (some_is (suc m) n e))

ne_by : (b c : ℕ) → eqb b c ≡ false → b ≢ c
ne_by b c e = false-eqb b c (sym e)

plain_ends : (b : ℕ) (bs : List ℕ) (n m : ℕ) → b ≢ 34 → b ≢ 92 → b ≢ 10 → n ≡ suc m → Ends bs m → Ends (b ∷ bs) n
plain_ends b bs n m q k l size f = record {
  body = b ∷ f.body;
  rest = f.rest;
  parts = ap (λ (r : List ℕ). b ∷ r) f.parts;
  quoted = plain q k l f.quoted;
  size = omega (arith, size, f.size);
}

escaped_ends : (b : ℕ) (bs : List ℕ) (n m : ℕ) → b ≢ 10 → n ≡ suc (suc m) → Ends bs m → Ends (92 ∷ b ∷ bs) n
escaped_ends b bs n m l size f = record {
  body = 92 ∷ b ∷ f.body;
  rest = f.rest;
  parts = ap (λ (r : List ℕ). 92 ∷ b ∷ r) f.parts;
  quoted = escaped l f.quoted;
  size = omega (arith, size, f.size);
}

some_none : (n : ℕ) → some n ≡ None → ⊥
some_none n e = cc

and_false : (v : Bool) (o : Option ℕ) → cond (v && false) (Some 1) (one_more o) ≡ one_more o
and_false true o = refl
and_false false o = refl

escape_step : (b : ℕ) (bs : List ℕ) (n : ℕ) → ((m : ℕ) → string_end false bs ≡ Some m → Ends bs m) → (v : Bool) → eqb b 10 ≡ v → string_end true (b ∷ bs) ≡ Some n → Ends (92 ∷ b ∷ bs) (suc n)
escape_step b bs n h true is e = let no : string_end true (b ∷ bs) ≡ None = rw is refl in absurd (some_none n (sym e ∙ no))
escape_step b bs n h false is e =
    let step : string_end true (b ∷ bs) ≡ one_more (string_end false bs) = rw is (and_false (eqb b 34) (string_end false bs)) in
    let m = one_more_is (string_end false bs) n (sym step ∙ e) in
    escaped_ends b bs (suc n) m.0 (ne_by b 10 is) (ap suc m.2) (h m.0 m.1)

plain_step : (b : ℕ) (bs : List ℕ) (n : ℕ) → ((m : ℕ) → string_end false bs ≡ Some m → Ends bs m) → ((m : ℕ) → string_end true bs ≡ Some m → Ends (92 ∷ bs) (suc m)) → (v w x : Bool) → eqb b 10 ≡ v → eqb b 34 ≡ w → eqb b 92 ≡ x
    → cond v None (cond (w && true) (Some 1) (one_more (string_end x bs))) ≡ some n → Ends (b ∷ bs) n
plain_step b bs n h g true w x feed quote slash e = absurd (some_none n (sym e))
plain_step b bs n h g false true x feed quote slash e = record {
  body = [];
  rest = bs;
  parts = ap (λ (c : ℕ). c ∷ bs) (eqb-true b 34 quote);
  quoted = nothing;
  size = sym (some_is 1 n e);
}
plain_step b bs n h g false false true feed quote slash e =
    let m = one_more_is (string_end true bs) n e in
    let f : Ends (92 ∷ bs) n = subst (Ends (92 ∷ bs)) (sym m.2) (g m.0 m.1) in
    subst (λ (c : ℕ). Ends (c ∷ bs) n) (sym (eqb-true b 92 slash)) f
plain_step b bs n h g false false false feed quote slash e =
    let m = one_more_is (string_end false bs) n e in
    plain_ends b bs n m.0 (ne_by b 34 quote) (ne_by b 92 slash) (ne_by b 10 feed) m.2 (h m.0 m.1)

mutual
  pub ends_from : (bs : List ℕ) (n : ℕ) → string_end false bs ≡ Some n → Ends bs n
  ends_from [] n e = absurd (some_none n (sym e))
  ends_from (b ∷ bs) n e = plain_step b bs n (λ m is. ends_from bs m is) (λ m is. ends_escaped bs m is) (eqb b 10) (eqb b 34) (eqb b 92) refl refl refl e

  ends_escaped : (bs : List ℕ) (n : ℕ) → string_end true bs ≡ Some n → Ends (92 ∷ bs) (suc n)
  ends_escaped [] n e = absurd (some_none n (sym e))
  ends_escaped (b ∷ bs) n e = escape_step b bs n (λ m is. ends_from bs m is) (eqb b 10) refl e

-- ---- where a string ends, the search ends

ne_test : (b c : ℕ) → b ≢ c → eqb b c ≡ false
ne_test b c ne = ne_eqb b c ne

pub ends_at : {body : List ℕ} → IsQuoted body → (rest : List ℕ) → string_end false (body ++ 34 ∷ rest) ≡ Some (length body + 1)
ends_at nothing rest = refl
ends_at (plain {b} {bs} q k l more) rest =
    let step : string_end false (b ∷ (bs ++ 34 ∷ rest)) ≡ one_more (string_end false (bs ++ 34 ∷ rest)) = rw (ne_test b 10 l, ne_test b 34 q, ne_test b 92 k) refl in
    step ∙ ap one_more (ends_at more rest) ∙ ap (λ (n : ℕ). Some n) (omega arith)
ends_at (escaped {b} {bs} l more) rest =
    let step : string_end true (b ∷ (bs ++ 34 ∷ rest)) ≡ one_more (string_end false (bs ++ 34 ∷ rest)) = rw (ne_test b 10 l) (and_false (eqb b 34) (string_end false (bs ++ 34 ∷ rest))) in
    ap one_more (step ∙ ap one_more (ends_at more rest)) ∙ ap (λ (n : ℕ). Some n) (omega arith)
