-- Tokens of one text that stand in another text, at another place.
use Rattle.std.proofs.Common.{◌≡◌, ℕ, suc, ◌+◌, ◌-◌, ◌≤◌, List, [], ◌∷◌, length, take, drop, refl, sym, ap, subst, ◌∙◌, arith}
use Rattle.std.proofs.lemmas.List.{drop-drop, drop-take}
use Rattle.expr_grammar.specs.Lexeme.{Lexeme}
use Rattle.expr_grammar.specs.Lexing.{place_at, Gap, nothing, more, IsTokenOf, Divides}
use Rattle.expr_grammar.specs.Moved.{SameFront, AreMoved}
use Rattle.expr_grammar.proofs.Local.{same_less, gap_local, token_local}

-- where two texts agree on a length, they agree on what is left of it after n bytes
pub same_on : (text new : List ℕ) (a c n len : ℕ) → SameFront (suc len) (drop a text) (drop c new) → n ≤ len → SameFront (suc (len - n)) (drop (a + n) text) (drop (c + n) new)
same_on text new a c n len s le =
    let e : suc len ≡ n + suc (len - n) = omega (arith, le) in
    let s2 : SameFront (n + suc (len - n)) (drop a text) (drop c new) = subst (λ (k : ℕ). SameFront k (drop a text) (drop c new)) e s in
    ap (take (suc (len - n))) (sym (drop-drop n a text)) ∙ sym (drop-take n (suc (len - n)) (drop a text)) ∙ ap (drop n) s2 ∙ drop-take n (suc (len - n)) (drop c new) ∙ ap (take (suc (len - n))) (drop-drop n c new)

-- offsets go up
pub gap_order : {text : List ℕ} {a b : ℕ} → Gap text a b → a ≤ b
gap_order nothing = omega arith
gap_order (more g rest) = omega (arith, gap_order rest)

pub divides_order : (text : List ℕ) (a : ℕ) (ts : List Lexeme) (b : ℕ) → Divides text a ts b → a ≤ b
divides_order text a [] b d = gap_order d
divides_order text a (t ∷ ts) b d = omega (arith, gap_order d.0, divides_order text (t.start + length t.text) ts b d.2)

pub gap_moves : {text : List ℕ} {a b : ℕ} → Gap text a b → (new : List ℕ) (c len : ℕ) → b ≡ a + len → SameFront (suc len) (drop a text) (drop c new) → Gap new c (c + len)
gap_moves {text} {a} nothing new c len e s = let none : c ≡ c + len = omega (arith, e) in subst (Gap new c) none nothing
gap_moves {text} {a} (more {n = n} g rest) new c len e s =
    let le : n ≤ len = omega (arith, e, gap_order rest) in
    let front = gap_local n (drop a text) (drop c new) (same_less (suc len) (suc n) (drop a text) (drop c new) s (omega (arith, le))) g in
    let after = gap_moves rest new (c + n) (len - n) (omega (arith, e, le)) (same_on text new a c n len s le) in
    let there : c + n + (len - n) ≡ c + len = omega (arith, le) in
    more front (subst (Gap new (c + n)) there after)

pub token_moves : (text new : List ℕ) (t : Lexeme) (there : ℕ) → IsTokenOf text t → SameFront (suc (length t.text)) (drop t.start text) (drop there new)
    → IsTokenOf new (record { kind = t.kind; text = t.text; start = there; at = place_at new there })
token_moves text new t there is s = record {
  is_slice = is.is_slice ∙ same_less (suc (length t.text)) (length t.text) (drop t.start text) (drop there new) s (omega arith);
  front = token_local t.kind (length t.text) (drop t.start text) (drop there new) s is.front;
  place = refl;
}

-- tokens of a text from one offset to another that are these except for their places
pub record MovedTo (new : List ℕ) (c d : ℕ) (ts : List Lexeme) : Type 0 where
  pub us : List Lexeme
  pub divides : Divides new c us d
  pub moved : AreMoved ts us

-- where two texts agree on a length and one byte more, the tokens of that length are the same except for their places
pub divides_moves : (text new : List ℕ) (a b c len : ℕ) (ts : List Lexeme) → Divides text a ts b → b ≡ a + len → SameFront (suc len) (drop a text) (drop c new) → MovedTo new c (c + len) ts
divides_moves text new a b c len [] d e s = record { us = []; divides = gap_moves d new c len e s; moved = tt }
divides_moves text new a b c len (t ∷ ts) d e s =
    let n = length t.text in
    let k = t.start - a in
    let low : a ≤ t.start = gap_order d.0 in
    let high : t.start + n ≤ b = divides_order text (t.start + n) ts b d.2 in
    let le : k ≤ len = omega (arith, e, low, high) in
    let le2 : n ≤ len - k = omega (arith, e, low, high) in
    let at : t.start ≡ a + k = omega (arith, low) in
    let gap = gap_moves d.0 new c k at (same_less (suc len) (suc k) (drop a text) (drop c new) s (omega (arith, le))) in
    let s1 : SameFront (suc (len - k)) (drop t.start text) (drop (c + k) new) = subst (λ (i : ℕ). SameFront (suc (len - k)) (drop i text) (drop (c + k) new)) (sym at) (same_on text new a c k len s le) in
    let tok = token_moves text new t (c + k) d.1 (same_less (suc (len - k)) (suc n) (drop t.start text) (drop (c + k) new) s1 (omega (arith, le2))) in
    let s2 = same_on text new t.start (c + k) n (len - k) s1 le2 in
    let rest = divides_moves text new (t.start + n) b (c + k + n) (len - k - n) ts d.2 (omega (arith, e, low, high)) s2 in
    let end : c + k + n + (len - k - n) ≡ c + len = omega (arith, le, le2) in
    record {
      us = record { kind = t.kind; text = t.text; start = c + k; at = place_at new (c + k) } ∷ rest.us;
      divides = (gap, tok, subst (λ (i : ℕ). Divides new (c + k + n) rest.us i) end rest.divides);
      moved = (record { kind = refl; text = refl }, rest.moved);
    }
