-- The lines of a text, byte by byte.
use Rattle.std.proofs.Common.{◌≡◌, ◌∙◌, ℕ, zero, suc, ◌+◌, ◌-◌, ◌<◌, ◌≤◌, ◌==◌, Bool, true, false, cond, List, [], ◌∷◌, ◌++◌, length, take, drop, drop-cons, get_or, refl, sym, ap, arith}
use Rattle.hex_image.specs.Records.{Line, in_front, lines_of}

-- bytes before the first line
abbrev pub fronted : List ℕ → List Line → List Line
fronted [] ls = ls
fronted (c ∷ xs) ls = in_front c (fronted xs ls)

-- one more
pub fronted_more : (xs : List ℕ) (c : ℕ) (ls : List Line) → fronted (xs ++ c ∷ []) ls ≡ fronted xs (in_front c ls)
fronted_more [] c ls = refl
fronted_more (x ∷ xs) c ls = ap (in_front x) (fronted_more xs c ls)

-- before a line that begins with its line feed
pub fronted_closed : (xs : List ℕ) (ls : List Line) → fronted xs (record { bytes = []; is_closed = true } ∷ ls) ≡ record { bytes = xs; is_closed = true } ∷ ls
fronted_closed [] ls = refl
fronted_closed (x ∷ xs) ls = ap (in_front x) (fronted_closed xs ls)

-- before nothing
pub fronted_open : (x : ℕ) (xs : List ℕ) → fronted (x ∷ xs) [] ≡ record { bytes = x ∷ xs; is_closed = false } ∷ []
fronted_open x [] = refl
fronted_open x (y ∷ xs) = ap (in_front x) (fronted_open y xs)

-- ---- a text, byte by byte

pub drop_twice : {A : Type 0} (m n : ℕ) (xs : List A) → drop m (drop n xs) ≡ drop (n + m) xs
drop_twice m zero xs = ap (λ (k : ℕ). drop k xs) (omega arith)
drop_twice zero (suc n) [] = ap (λ (k : ℕ). drop k []) {x = suc n} (omega arith)
drop_twice (suc m) (suc n) [] = ap (λ (k : ℕ). drop k []) {x = suc (n + suc m)} (omega arith)
drop_twice m (suc n) (x ∷ xs) = drop_twice m n xs ∙ ap (λ (k : ℕ). drop k (x ∷ xs)) {x = suc (n + m)} (omega arith)

-- one byte more of a text
pub take_more : {A : Type 0} (n : ℕ) (xs : List A) (x : A) (rest : List A) → drop n xs ≡ x ∷ rest → take (suc n) xs ≡ take n xs ++ x ∷ []
take_more zero [] x rest e = absurd cc
take_more zero (y ∷ xs) x rest e = (let same : y ≡ x = cc in ap (λ (z : _). z ∷ []) same)
take_more (suc n) [] x rest e = absurd cc
take_more (suc n) (y ∷ xs) x rest e = ap (λ (l : List _). y ∷ l) (take_more n xs x rest e)

module _ (t : List ℕ) (s i : ℕ) (within : s ≤ i) (less : i < length t) where
  -- what stands from the start of a line up to a place
  abbrev mid : ℕ → List ℕ
  mid k = take (k - s) (drop s t)

  at_place : drop i t ≡ get_or t i 0 ∷ drop (suc i) t
  at_place = drop-cons t i 0 less

  mid_more : mid (suc i) ≡ mid i ++ get_or t i 0 ∷ []
  mid_more =
      let there : drop (i - s) (drop s t) ≡ get_or t i 0 ∷ drop (suc i) t = drop_twice (i - s) s t ∙ ap (λ (k : ℕ). drop k t) (omega (arith, within)) ∙ at_place in
      let count : suc i - s ≡ suc (i - s) = omega (arith, within) in
      ap (λ (k : ℕ). take k (drop s t)) count ∙ take_more (i - s) (drop s t) (get_or t i 0) (drop (suc i) t) there

  pub other : (get_or t i 0 == 10) ≡ false → fronted (mid i) (lines_of (drop i t)) ≡ fronted (mid (suc i)) (lines_of (drop (suc i) t))
  other differs =
      ap (λ (l : List ℕ). fronted (mid i) (lines_of l)) at_place
      ∙ ap (λ (b : Bool). fronted (mid i) (cond b (record { bytes = []; is_closed = true } ∷ lines_of (drop (suc i) t)) (in_front (get_or t i 0) (lines_of (drop (suc i) t))))) differs
      ∙ sym (fronted_more (mid i) (get_or t i 0) (lines_of (drop (suc i) t)))
      ∙ ap (λ (l : List ℕ). fronted l (lines_of (drop (suc i) t))) (sym mid_more)

  pub feed : (get_or t i 0 == 10) ≡ true → fronted (mid i) (lines_of (drop i t)) ≡ record { bytes = mid i; is_closed = true } ∷ lines_of (drop (suc i) t)
  feed is =
      ap (λ (l : List ℕ). fronted (mid i) (lines_of l)) at_place
      ∙ ap (λ (b : Bool). fronted (mid i) (cond b (record { bytes = []; is_closed = true } ∷ lines_of (drop (suc i) t)) (in_front (get_or t i 0) (lines_of (drop (suc i) t))))) is
      ∙ fronted_closed (mid i) (lines_of (drop (suc i) t))

  -- a place after the last line feed
  pub mid_next : mid (suc i) ≡ mid i ++ get_or t i 0 ∷ []
  mid_next = mid_more
