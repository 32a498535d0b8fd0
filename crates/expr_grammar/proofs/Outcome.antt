-- What a reader did with a list: what it took, and that nothing after the next token matters.
use Rattle.std.proofs.Common.{◌≡◌, ℕ, List, [], ◌∷◌, ◌++◌, length, Result, Ok, Err, refl, sym, ap, subst, ◌∙◌, append_assoc}
use Rattle.expr_grammar.specs.Lexeme.{Lexeme}
use Rattle.dap_base.specs.Outcome.{◌>>=◌}

abbrev pub Reader : Type 0 → Type 0
Reader X = List Lexeme → Result (X × List Lexeme) ℕ

-- both end, or begin with the same token
abbrev pub SameHead : List Lexeme → List Lexeme → Type 0
SameHead [] [] = Unit {0}
SameHead [] (v ∷ vs) = ⊥
SameHead (u ∷ us) [] = ⊥
SameHead (u ∷ us) (v ∷ vs) = u ≡ v

pub record Good {X : Type 0} (P : List Lexeme → X → Type 0) (f : Reader X) (ts : List Lexeme) (x : X × List Lexeme) : Type 0 where
  pub front : List Lexeme
  pub parts : ts ≡ front ++ x.1
  pub is : P front x.0
  pub only : (us : List Lexeme) → SameHead x.1 us → f (front ++ us) ≡ Ok (x.0, us)

pub record Bad {X : Type 0} (V : List Lexeme → Type 0) (f : Reader X) (ts : List Lexeme) (k : ℕ) : Type 0 where
  pub front : List Lexeme
  pub rest : List Lexeme
  pub parts : ts ≡ front ++ rest
  pub left : k ≡ length rest
  pub goes_on : V front
  pub only : (us : List Lexeme) → SameHead rest us → f (front ++ us) ≡ Err (length us)

abbrev pub Outcome : {X : Type 0} → (List Lexeme → X → Type 0) → (List Lexeme → Type 0) → Reader X → List Lexeme → Result (X × List Lexeme) ℕ → Type 0
Outcome P V f ts (Ok x) = Good P f ts x
Outcome P V f ts (Err k) = Bad V f ts k

pub same_self : (ts : List Lexeme) → SameHead ts ts
same_self [] = tt
same_self (t ∷ ts) = refl

pub same_after : (front rest us : List Lexeme) → SameHead rest us → SameHead (front ++ rest) (front ++ us)
same_after [] rest us h = h
same_after (t ∷ front) rest us h = refl

-- ---- one after the other

module _ {X Y : Type 0} (P : List Lexeme → Y → Type 0) (V : List Lexeme → Type 0) (f : Reader X) (g : X → Reader Y) where
  abbrev pub both : Reader Y
  both ts = f ts >>= λ x. g x.0 x.1

  after_good : (ts : List Lexeme) (R : List Lexeme → X → Type 0) (x : X × List Lexeme) → f ts ≡ Ok x → (first : Good R f ts x) → (r : Result (Y × List Lexeme) ℕ)
      → Outcome (λ back y. P (first.front ++ back) y) (λ back. V (first.front ++ back)) (g x.0) x.1 r → Outcome P V both ts r
  after_good ts R x e first (Ok y) second = record {
    front = first.front ++ second.front;
    parts = first.parts ∙ ap (λ (l : List Lexeme). first.front ++ l) second.parts ∙ sym (append_assoc first.front second.front y.1);
    is = second.is;
    only = λ us same.
        let head : SameHead x.1 (second.front ++ us) = subst (λ (l : List Lexeme). SameHead l (second.front ++ us)) (sym second.parts) (same_after second.front y.1 us same) in
        ap both (append_assoc first.front second.front us) ∙ ap (λ r. r >>= λ z. g z.0 z.1) (first.only (second.front ++ us) head) ∙ second.only us same;
  }
  after_good ts R x e first (Err k) second = record {
    front = first.front ++ second.front;
    rest = second.rest;
    parts = first.parts ∙ ap (λ (l : List Lexeme). first.front ++ l) second.parts ∙ sym (append_assoc first.front second.front second.rest);
    left = second.left;
    goes_on = second.goes_on;
    only = λ us same.
        let head : SameHead x.1 (second.front ++ us) = subst (λ (l : List Lexeme). SameHead l (second.front ++ us)) (sym second.parts) (same_after second.front second.rest us same) in
        ap both (append_assoc first.front second.front us) ∙ ap (λ r. r >>= λ z. g z.0 z.1) (first.only (second.front ++ us) head) ∙ second.only us same;
  }

  seq_at : (ts : List Lexeme) (R : List Lexeme → X → Type 0) (W : List Lexeme → Type 0) (r : Result (X × List Lexeme) ℕ) → f ts ≡ r → Outcome R W f ts r
      → ((front : List Lexeme) → W front → V front)
      → ((front : List Lexeme) (x : X × List Lexeme) → f ts ≡ Ok x → ts ≡ front ++ x.1 → R front x.0 → Outcome (λ back y. P (front ++ back) y) (λ back. V (front ++ back)) (g x.0) x.1 (g x.0 x.1))
      → Outcome P V both ts (r >>= λ x. g x.0 x.1)
  seq_at ts R W (Ok x) e first weak then' = after_good ts R x e first (g x.0 x.1) (then' first.front x e first.parts first.is)
  seq_at ts R W (Err k) e first weak then' = record {
    front = first.front;
    rest = first.rest;
    parts = first.parts;
    left = first.left;
    goes_on = weak first.front first.goes_on;
    only = λ us same. ap (λ r. r >>= λ z. g z.0 z.1) (first.only us same);
  }

  pub seq : (ts : List Lexeme) (R : List Lexeme → X → Type 0) (W : List Lexeme → Type 0) → Outcome R W f ts (f ts)
      → ((front : List Lexeme) → W front → V front)
      → ((front : List Lexeme) (x : X × List Lexeme) → f ts ≡ Ok x → ts ≡ front ++ x.1 → R front x.0 → Outcome (λ back y. P (front ++ back) y) (λ back. V (front ++ back)) (g x.0) x.1 (g x.0 x.1))
      → Outcome P V both ts (both ts)
  seq ts R W first weak then' = seq_at ts R W (f ts) refl first weak then'

-- ---- a reader that begins with a known token
pub after : {X : Type 0} (P : List Lexeme → X → Type 0) (V : List Lexeme → Type 0) (f g : Reader X) (k : Lexeme) (ts : List Lexeme) (r : Result (X × List Lexeme) ℕ) → ((us : List Lexeme) → f (k ∷ us) ≡ g us)
    → Outcome (λ back x. P (k ∷ back) x) (λ back. V (k ∷ back)) g ts r → Outcome P V f (k ∷ ts) r
after P V f g k ts (Ok x) same o = record {
  front = k ∷ o.front;
  parts = ap (λ (l : List Lexeme). k ∷ l) o.parts;
  is = o.is;
  only = λ us h. same (o.front ++ us) ∙ o.only us h;
}
after P V f g k ts (Err n) same o = record {
  front = k ∷ o.front;
  rest = o.rest;
  parts = ap (λ (l : List Lexeme). k ∷ l) o.parts;
  left = o.left;
  goes_on = o.goes_on;
  only = λ us h. same (o.front ++ us) ∙ o.only us h;
}

-- ---- a reader that takes nothing, by the next token alone
pub nothing_taken : {X : Type 0} (P : List Lexeme → X → Type 0) (V : List Lexeme → Type 0) (f : Reader X) (ts : List Lexeme) (x : X) → P [] x → ((us : List Lexeme) → SameHead ts us → f us ≡ Ok (x, us)) → Outcome P V f ts (Ok (x, ts))
nothing_taken P V f ts x is only = record { front = []; parts = refl; is = is; only = only }

pub refused : {X : Type 0} (P : List Lexeme → X → Type 0) (V : List Lexeme → Type 0) (f : Reader X) (ts : List Lexeme) → V [] → ((us : List Lexeme) → SameHead ts us → f us ≡ Err (length us)) → Outcome P V f ts (Err (length ts))
refused P V f ts goes_on only = record { front = []; rest = ts; parts = refl; left = refl; goes_on = goes_on; only = only }

-- ---- the same reader, more loosely
pub loosen : {X : Type 0} (P Q : List Lexeme → X → Type 0) (V W : List Lexeme → Type 0) (f g : Reader X) (ts : List Lexeme) (r : Result (X × List Lexeme) ℕ) → ((us : List Lexeme) → g us ≡ f us)
    → ((front : List Lexeme) (x : X) → P front x → Q front x) → ((front : List Lexeme) → V front → W front) → Outcome P V f ts r → Outcome Q W g ts r
loosen P Q V W f g ts (Ok x) same up on o = record { front = o.front; parts = o.parts; is = up o.front x.0 o.is; only = λ us h. same (o.front ++ us) ∙ o.only us h }
loosen P Q V W f g ts (Err k) same up on o = record { front = o.front; rest = o.rest; parts = o.parts; left = o.left; goes_on = on o.front o.goes_on; only = λ us h. same (o.front ++ us) ∙ o.only us h }

-- ---- a reader that only looks at the next token

pub by_head : (F : List Lexeme → Type 0) (k : Lexeme) (ts : List Lexeme) → ((us : List Lexeme) → F (k ∷ us)) → (us : List Lexeme) → SameHead (k ∷ ts) us → F us
by_head F k ts h [] same = absurd same
by_head F k ts h (v ∷ us) same = subst (λ (w : Lexeme). F (w ∷ us)) same (h us)

pub at_end : (F : List Lexeme → Type 0) → F [] → (us : List Lexeme) → SameHead [] us → F us
at_end F h [] same = h
at_end F h (v ∷ us) same = absurd same

-- two readers that do the same where this token comes first
pub headed : {X : Type 0} (P : List Lexeme → X → Type 0) (V : List Lexeme → Type 0) (f g : Reader X) (k : Lexeme) (ts : List Lexeme) (r : Result (X × List Lexeme) ℕ) → ((us : List Lexeme) → f (k ∷ us) ≡ g (k ∷ us))
    → Outcome P V g (k ∷ ts) r → Outcome P V f (k ∷ ts) r
headed P V f g k ts (Ok x) same o = record {
  front = o.front;
  parts = o.parts;
  is = o.is;
  only = λ us h. by_head (λ l. f l ≡ g l) k ts same (o.front ++ us) (subst (λ (l : List Lexeme). SameHead l (o.front ++ us)) (sym o.parts) (same_after o.front x.1 us h)) ∙ o.only us h;
}
headed P V f g k ts (Err n) same o = record {
  front = o.front;
  rest = o.rest;
  parts = o.parts;
  left = o.left;
  goes_on = o.goes_on;
  only = λ us h. by_head (λ l. f l ≡ g l) k ts same (o.front ++ us) (subst (λ (l : List Lexeme). SameHead l (o.front ++ us)) (sym o.parts) (same_after o.front o.rest us h)) ∙ o.only us h;
}
