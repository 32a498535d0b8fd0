-- Lists of all that are so, put together from parts.
use Rattle.std.proofs.Common.{◌≡◌, ◌∙◌, sym, ap, subst, ℕ, zero, suc, ◌<◌, Bool, true, List, [], ◌∷◌, ◌++◌, map, length, get_or, refl, arith, inl, inr, ◌⊎◌}
use Rattle.std.specs.Prelude.{Contains}
use Rattle.std.specs.List.{AllByRecursion}
use Rattle.std.proofs.lemmas.List.Elements.{Contains-append_left, Contains-append_right, Contains-append_cases}
use Rattle.code_check.specs.First.{Nowhere, InEither, here, there}
use Rattle.set_faults.specs.Listed.{Rises, IsListOf}
use Rattle.dap_base.proofs.Basics.{contains_map}

-- ---- elements

pub contains_none : {F : Type 0} (y : F) → Contains [] y → ⊥
contains_none y h = omega (arith, h.1)

-- an element is the first, or one of the others
pub contains_cases : {F : Type 0} (x : F) (xs : List F) (y : F) → Contains (x ∷ xs) y → (x ≡ y) ⊎ Contains xs y
contains_cases {F} x xs y h = at h.0 h.1 h.2 where
  at : (k : ℕ) → k < length (x ∷ xs) → get_or (x ∷ xs) k y ≡ y → (x ≡ y) ⊎ Contains xs y
  at zero lt e = inl e
  at (suc k) lt e = inr (k, omega arith, e)

pub contains_first : {F : Type 0} (x : F) (xs : List F) → Contains (x ∷ xs) x
contains_first x xs = (0, omega arith, refl)

pub contains_more : {F : Type 0} (x : F) (xs : List F) (y : F) → Contains xs y → Contains (x ∷ xs) y
contains_more x xs y h = let lt = h.1 in (suc h.0, omega arith, h.2)

pub map_contains : {F G : Type 0} (m : F → G) (xs : List F) (z : G) → Contains (map m xs) z → (x : F) × Contains xs x × (z ≡ m x)
map_contains m [] z h = absurd (contains_none z h)
map_contains m (y ∷ ys) z h = elim (contains_cases (m y) (map m ys) z h) [
  | inl e ↦ (y, contains_first y ys, sym e)
  | inr more ↦ let r = map_contains m ys z more in (r.0, contains_more y ys r.0 r.1, r.2)
]

pub all_from : {F : Type 0} (P : F → Type 0) (xs : List F) → ((x : F) → Contains xs x → P x) → AllByRecursion P xs
all_from P [] h = tt
all_from P (x ∷ xs) h = (h x (contains_first x xs), all_from P xs (λ y c. h y (contains_more x xs y c)))

pub all_at : {F : Type 0} (P : F → Type 0) (xs : List F) → AllByRecursion P xs → (x : F) → Contains xs x → P x
all_at P [] h x c = absurd (contains_none x c)
all_at P (y ∷ ys) h x c = elim (contains_cases y ys x c) [ inl e ↦ subst P e h.0 | inr more ↦ all_at P ys h.1 x more ]

-- ---- in an order

module _ {F : Type 0} (before : F → F → Bool) where
  pub rises_two : (a b : List F) → ((x y : F) → Contains a x → Contains b y → before x y ≡ true) → Rises before a → Rises before b → Rises before (a ++ b)
  rises_two [] b order h k = k
  rises_two (x ∷ a) b order h k = (
    all_from (λ y. before x y ≡ true) (a ++ b) (λ y c. elim (Contains-append_cases a b y c) [
      | inl front ↦ all_at (λ z. before x z ≡ true) a h.0 y front
      | inr back ↦ order x y (contains_first x a) back
    ]),
    rises_two a b (λ y z c d. order y z (contains_more x a y c) d) h.1 k,
  )

  pub listed_none : IsListOf before Nowhere []
  listed_none = record { rises = tt; holds = λ f c. absurd (contains_none f c); has = λ f s. elim s [ ] }

  pub listed_nothing : (P : F → Type 0) → ((f : F) → P f → ⊥) → IsListOf before P []
  listed_nothing P none = record { rises = tt; holds = λ f c. absurd (contains_none f c); has = λ f p. absurd (none f p) }

  pub listed_one : (P : F → Type 0) (f : F) → P f → ((g : F) → P g → g ≡ f) → IsListOf before P (f ∷ [])
  listed_one P f p one = record {
    rises = (tt, tt);
    holds = λ g c. elim (contains_cases f [] g c) [ inl e ↦ subst P e p | inr more ↦ absurd (contains_none g more) ];
    has = λ g q. subst (λ x. Contains (f ∷ []) x) (sym (one g q)) (contains_first f []);
  }

  -- where the same are so, the list is the same
  pub listed_same : (P Q : F → Type 0) (list : List F) → ((f : F) → P f → Q f) → ((f : F) → Q f → P f) → IsListOf before P list → IsListOf before Q list
  listed_same P Q list to from h = record { rises = h.rises; holds = λ f c. to f (h.holds f c); has = λ f q. h.has f (from f q) }

  -- all of the first part are before those of the other
  pub listed_two : (P Q : F → Type 0) (a b : List F) → ((p q : F) → P p → Q q → before p q ≡ true) → IsListOf before P a → IsListOf before Q b → IsListOf before (InEither P Q) (a ++ b)
  listed_two P Q a b order h k = record {
    rises = rises_two a b (λ x y c d. order x y (h.holds x c) (k.holds y d)) h.rises k.rises;
    holds = λ f c. elim (Contains-append_cases a b f c) [ inl front ↦ here (h.holds f front) | inr back ↦ there (k.holds f back) ];
    has = λ f s. elim s [ here p ↦ Contains-append_left a b f (h.has f p) | there q ↦ Contains-append_right a b f (k.has f q) ];
  }

  -- ---- one list at most

  pub one_rising : ((f g : F) → before f g ≡ true → before g f ≡ true → ⊥) → (a b : List F) → Rises before a → Rises before b → ((f : F) → Contains a f → Contains b f) → ((f : F) → Contains b f → Contains a f) → a ≡ b
  one_rising one_way [] [] h k to from = refl
  one_rising one_way [] (y ∷ b) h k to from = absurd (contains_none y (from y (contains_first y b)))
  one_rising one_way (x ∷ a) [] h k to from = absurd (contains_none x (to x (contains_first x a)))
  one_rising one_way (x ∷ a) (y ∷ b) h k to from =
      let same : x ≡ y = elim (contains_cases y b x (to x (contains_first x a))) [
        | inl e ↦ sym e
        | inr in_b ↦ elim (contains_cases x a y (from y (contains_first y b))) [
          | inl e ↦ e
          | inr in_a ↦ absurd (one_way x y (all_at (λ z. before x z ≡ true) a h.0 y in_a) (all_at (λ z. before y z ≡ true) b k.0 x in_b))
        ]
      ] in
      let to_rest : (f : F) → Contains a f → Contains b f = λ f c. elim (contains_cases y b f (to f (contains_more x a f c))) [
        | inl e ↦ (let after = all_at (λ z. before x z ≡ true) a h.0 f c in let itself : before f f ≡ true = subst (λ z. before z f ≡ true) (same ∙ e) after in absurd (one_way f f itself itself))
        | inr more ↦ more
      ] in
      let from_rest : (f : F) → Contains b f → Contains a f = λ f c. elim (contains_cases x a f (from f (contains_more y b f c))) [
        | inl e ↦ (let after = all_at (λ z. before y z ≡ true) b k.0 f c in let itself : before f f ≡ true = subst (λ z. before z f ≡ true) (sym same ∙ e) after in absurd (one_way f f itself itself))
        | inr more ↦ more
      ] in
      ap (λ z. z ∷ a) same ∙ ap (λ l. y ∷ l) (one_rising one_way a b h.1 k.1 to_rest from_rest)

  pub one_list : ((f g : F) → before f g ≡ true → before g f ≡ true → ⊥) → (P : F → Type 0) (a b : List F) → IsListOf before P a → IsListOf before P b → a ≡ b
  one_list one_way P a b h k = one_rising one_way a b h.rises k.rises (λ f c. k.has f (h.holds f c)) (λ f c. h.has f (k.holds f c))

-- ---- seen through a map that keeps the order

rises_mapped : {F G : Type 0} (before : F → F → Bool) (before' : G → G → Bool) (m : F → G) (list : List F) → ((f g : F) → before' (m f) (m g) ≡ before f g) → Rises before list → Rises before' (map m list)
rises_mapped before before' m [] keeps h = tt
rises_mapped before before' m (f ∷ list) keeps h = (
  all_from (λ g. before' (m f) g ≡ true) (map m list) (λ g c. (let x = map_contains m list g c in
      subst (λ z. before' (m f) z ≡ true) (sym x.2) (keeps f x.0 ∙ all_at (λ z. before f z ≡ true) list h.0 x.0 x.1))),
  rises_mapped before before' m list keeps h.1,
)

pub listed_mapped : {F G : Type 0} (before : F → F → Bool) (before' : G → G → Bool) (m : F → G) (P : F → Type 0) (Q : G → Type 0) (list : List F)
    → ((f g : F) → before' (m f) (m g) ≡ before f g) → ((f : F) → P f → Q (m f)) → ((g : G) → Q g → (f : F) × P f × (g ≡ m f)) → IsListOf before P list → IsListOf before' Q (map m list)
listed_mapped before before' m P Q list keeps to from h = record {
  rises = rises_mapped before before' m list keeps h.rises;
  holds = λ g c. (let x = map_contains m list g c in subst Q (sym x.2) (to x.0 (h.holds x.0 x.1)));
  has = λ g q. (let x = from g q in subst (Contains (map m list)) (sym x.2) (contains_map m list x.0 (h.has x.0 x.1)));
}
