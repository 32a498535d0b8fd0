-- What stands between two quotes.
use Rattle.std.proofs.Common.{◌≡◌, ◌≢◌, ℕ, Bool, true, false, cond, eqb, List, [], ◌∷◌, ◌++◌, Option, Some, None, refl, sym, ap, ◌∙◌}
use Rattle.std.specs.Prelude.{MatchOption}
use Rattle.std.specs.Borrow.{Bor}
use Rattle.std.proofs.lemmas.Bool.{eqb-true}
use Rattle.expr_grammar.specs.Reading.{put_before, before_quote, between_quotes}

abbrev some : List ℕ → Option (List ℕ)
some t = Some t

some_is : (t u : List ℕ) → some t ≡ some u → t ≡ u
some_is t u e = cc

none_some : (t : List ℕ) → None ≡ some t → ⊥
none_some t e = cc

pub before_is : (t : List ℕ) → before_quote (t ++ 34 ∷ []) ≡ Some t
before_is [] = refl
before_is (b ∷ []) = refl
before_is (b ∷ c ∷ t) = ap (put_before b) (before_is (c ∷ t))

put_is : (b : ℕ) (o : Option (List ℕ)) (t : List ℕ) → put_before b o ≡ Some t → (u : List ℕ) × (o ≡ Some u) × (t ≡ b ∷ u)
put_is b None t e = absurd (none_some t e)
put_is b (Some u) t e = (u, refl, sym (some_is (b ∷ u) t e))

last_by : (b : ℕ) (t : List ℕ) (v : Bool) → eqb b 34 ≡ v → cond v (some []) None ≡ Some t → b ∷ [] ≡ t ++ 34 ∷ []
last_by b t true is e = ap (λ (c : ℕ). c ∷ []) (eqb-true b 34 is) ∙ ap (λ (u : List ℕ). u ++ 34 ∷ []) (some_is [] t e)
last_by b t false is e = absurd (none_some t e)

pub before_from : (bs t : List ℕ) → before_quote bs ≡ Some t → bs ≡ t ++ 34 ∷ []
before_from [] t e = absurd (none_some t e)
before_from (b ∷ []) t e = last_by b t (eqb b 34) refl e
before_from (b ∷ c ∷ bs) t e =
    let u = put_is b (before_quote (c ∷ bs)) t e in
    ap (λ (l : List ℕ). b ∷ l) (before_from (c ∷ bs) u.0 u.1) ∙ ap (λ (l : List ℕ). l ++ 34 ∷ []) (sym u.2)

first_by : (b : ℕ) (bs t : List ℕ) (v : Bool) → eqb b 34 ≡ v → cond v (before_quote bs) None ≡ Some t → b ∷ bs ≡ 34 ∷ t ++ 34 ∷ []
first_by b bs t true is e = ap (λ (c : ℕ). c ∷ bs) (eqb-true b 34 is) ∙ ap (λ (l : List ℕ). 34 ∷ l) (before_from bs t e)
first_by b bs t false is e = absurd (none_some t e)

pub between_from : (bs t : List ℕ) → between_quotes bs ≡ Some t → bs ≡ 34 ∷ t ++ 34 ∷ []
between_from [] t e = absurd (none_some t e)
between_from (b ∷ bs) t e = first_by b bs t (eqb b 34) refl e

pub between_is : (bs t : List ℕ) → bs ≡ 34 ∷ t ++ 34 ∷ [] → between_quotes bs ≡ Some t
between_is bs t e = ap between_quotes e ∙ before_is t

none_by : (bs : List ℕ) (o : Option (List ℕ)) → before_quote bs ≡ o → ((front : List ℕ) → bs ≢ front ++ 34 ∷ []) → o ≡ None
none_by bs None is h = refl
none_by bs (Some t) is h = absurd (h t (before_from bs t is))

pub between_suffix : (bs rest : List ℕ) (r : Option (Bor (List ℕ))) → bs ≡ 34 ∷ rest → MatchOption r ((front : List ℕ) → rest ≢ front ++ 34 ∷ []) (λ x. rest ≡ x.now ++ 34 ∷ [])
    → MatchOption r (between_quotes bs ≡ None) (λ x. between_quotes bs ≡ Some x.now)
between_suffix bs rest None is h = ap between_quotes is ∙ none_by rest (before_quote rest) refl h
between_suffix bs rest (Some x) is h = ap between_quotes is ∙ ap before_quote h ∙ before_is x.now

between_none_by : (bs : List ℕ) (o : Option (List ℕ)) → between_quotes bs ≡ o → ((rest : List ℕ) → bs ≢ 34 ∷ rest) → o ≡ None
between_none_by bs None is h = refl
between_none_by bs (Some t) is h = absurd (h (t ++ 34 ∷ []) (between_from bs t is))

pub between_none : (bs : List ℕ) → ((rest : List ℕ) → bs ≢ 34 ∷ rest) → between_quotes bs ≡ None
between_none bs h = between_none_by bs (between_quotes bs) refl h
