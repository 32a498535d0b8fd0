-- What is found in one more set, after what was found before.
use Rattle.std.proofs.Common.{◌≡◌, ◌∙◌, ℕ, suc, ◌+◌, ◌-◌, ◌<◌, ◌==◌, Bool, true, false, cond, ◌||◌, List, [], ◌∷◌, ◌++◌, map, length, append_assoc, append-nil, refl, ap, sym, subst, true≢false, eq-eqb, ne_eqb, arith}
use Rattle.std.specs.List.{AllByRecursion, list_any}
use Rattle.std.proofs.lemmas.List.{map-append}
use Rattle.std.proofs.lemmas.List.Folds.{list_any-append}
use Rattle.std.proofs.Math.Bool.{or-false, or_assoc}
use Rattle.std.proofs.lemmas.Bool.{or_parts}
use Rattle.pack_faults.specs.declared.answer.Found.{Found}
use Rattle.pack_faults.specs.Merged.{same_found, all_found, found_added, each_once, sets_having, with_sets, merged_faults}
use Rattle.pack_faults.specs.Steps.{is_last_number, numbers_with, with_found, with_each}
use Rattle.pack_faults.proofs.SameLemmas.{same_equal, same_itself}

-- ---- tests

abbrev Lists : Type 0
Lists = List (List Found)

-- whether it was found
abbrev has : Found → List Found → Bool
has x fs = list_any (same_found x) fs

false_or : (a b : Bool) → a ≡ false → b ≡ false → a || b ≡ false
false_or a b p q = rw (p, q) refl

or_self : (a b : Bool) → (b ≡ true → a ≡ true) → (a || b) ≡ a
or_self true b h = refl
or_self false true h = absurd (true≢false (sym (h refl)))
or_self false false h = refl

not_same : (x y : Found) (b : Bool) → same_found y x ≡ b → same_found x y ≡ false → b ≡ false
not_same x y true is lacks =
    let equal : y ≡ x = same_equal y x is in
    absurd (true≢false (sym (subst (λ (z : Found). same_found x z ≡ true) (sym equal) (same_itself x)) ∙ lacks))
not_same x y false is lacks = refl

-- a fault that is not the same as another, seen from the other
turned : (x y : Found) → same_found x y ≡ false → same_found y x ≡ false
turned x y lacks = not_same x y (same_found y x) refl lacks

-- ---- each once

each_once-append : (seen xs : List Found) (x : Found) → each_once seen (xs ++ x ∷ []) ≡ found_added (each_once seen xs) x
each_once-append seen [] x = refl
each_once-append seen (f ∷ xs) x = each_once-append (found_added seen f) xs x

all_found-append : (done : Lists) (found : List Found) → all_found (done ++ found ∷ []) ≡ all_found done ++ found
all_found-append [] found = append-nil found
all_found-append (l ∷ done) found = ap (λ r. l ++ r) (all_found-append done found) ∙ sym (append_assoc l (all_found done) found)

has_added_at : (seen : List Found) (f x : Found) (b : Bool) → has f seen ≡ b → has x (cond b seen (seen ++ f ∷ [])) ≡ (has x seen || same_found x f)
has_added_at seen f x true is = sym (or_self (has x seen) (same_found x f) (λ same. subst (λ (z : Found). has z seen ≡ true) (sym (same_equal x f same)) is))
has_added_at seen f x false is = list_any-append (same_found x) seen (f ∷ []) ∙ ap (λ b. has x seen || b) (or-false (same_found x f))

has_added : (seen : List Found) (f x : Found) → has x (found_added seen f) ≡ (has x seen || same_found x f)
has_added seen f x = has_added_at seen f x (has f seen) refl

-- what is found is among those that are each once, and no others
pub has-each_once : (seen fs : List Found) (x : Found) → has x (each_once seen fs) ≡ (has x seen || has x fs)
has-each_once seen [] x = sym (or-false (has x seen))
has-each_once seen (f ∷ fs) x =
    has-each_once (found_added seen f) fs x ∙ ap (λ b. b || has x fs) (has_added seen f x) ∙ or_assoc (has x seen) (same_found x f) (has x fs)

-- none is the same as one after it
abbrev Apart : List Found → Type 0
Apart [] = Unit {0}
Apart (f ∷ fs) = (has f fs ≡ false) × Apart fs

apart_last : (seen : List Found) (f : Found) → has f seen ≡ false → Apart seen → Apart (seen ++ f ∷ [])
apart_last [] f lacks apart = (refl, tt)
apart_last (g ∷ seen) f lacks apart =
    let parts = or_parts (same_found f g) (has f seen) lacks in (
      list_any-append (same_found g) seen (f ∷ []) ∙ false_or (has g seen) (same_found g f || false) apart.0 (or-false (same_found g f) ∙ turned f g parts.0),
      apart_last seen f parts.1 apart.1,
    )

apart_added_at : (seen : List Found) (f : Found) (b : Bool) → has f seen ≡ b → Apart seen → Apart (cond b seen (seen ++ f ∷ []))
apart_added_at seen f true is apart = apart
apart_added_at seen f false is apart = apart_last seen f is apart

apart-each_once : (seen fs : List Found) → Apart seen → Apart (each_once seen fs)
apart-each_once seen [] apart = apart
apart-each_once seen (f ∷ fs) apart = apart-each_once (found_added seen f) fs (apart_added_at seen f (has f seen) refl apart)

-- ---- the sets that have it

abbrev one_if : Bool → ℕ → List ℕ
one_if b n = cond b (n ∷ []) []

having_at : (b : Bool) (n : ℕ) (xs ys : List ℕ) → cond b (n ∷ (xs ++ ys)) (xs ++ ys) ≡ cond b (n ∷ xs) xs ++ ys
having_at true n xs ys = refl
having_at false n xs ys = refl

sets_having-append : (f : Found) (n : ℕ) (done : Lists) (found : List Found) → sets_having f n (done ++ found ∷ []) ≡ sets_having f n done ++ one_if (has f found) (n + length done)
sets_having-append f n [] found = let e : n + 0 ≡ n = omega arith in rw e refl
sets_having-append f n (l ∷ done) found =
    let e : (n + 1) + length done ≡ n + length (l ∷ done) = omega arith in
    ap (λ r. cond (has f l) (n ∷ r) r) (sets_having-append f (n + 1) done found ∙ ap (λ m. sets_having f (n + 1) done ++ one_if (has f found) m) e)
    ∙ having_at (has f l) n (sets_having f (n + 1) done) (one_if (has f found) (n + length (l ∷ done)))

abbrev AllUnder : ℕ → List ℕ → Type 0
AllUnder n ns = AllByRecursion (λ k. k < n) ns

under_at : (b : Bool) (n end : ℕ) (ns : List ℕ) → n < end → AllUnder end ns → AllUnder end (cond b (n ∷ ns) ns)
under_at true n end ns lt all = (lt, all)
under_at false n end ns lt all = all

having_under : (f : Found) (n end : ℕ) (done : Lists) → n + length done ≡ end → AllUnder end (sets_having f n done)
having_under f n end [] e = tt
having_under f n end (l ∷ done) e =
    let lt : n < end = omega arith in
    let next : (n + 1) + length done ≡ end = omega arith in
    under_at (has f l) n end (sets_having f (n + 1) done) lt (having_under f (n + 1) end done next)

-- ---- the last number

is_last-later : (k x y : ℕ) (ns : List ℕ) → is_last_number k (x ∷ y ∷ ns) ≡ is_last_number k (y ∷ ns)
is_last-later k x y ns = let e : length (x ∷ y ∷ ns) - 1 ≡ suc (length (y ∷ ns) - 1) = omega arith in rw e refl

is_last-append : (k : ℕ) (ns : List ℕ) → is_last_number k (ns ++ k ∷ []) ≡ true
is_last-append k [] = eq-eqb k k refl
is_last-append k (x ∷ []) = is_last-later k x k [] ∙ eq-eqb k k refl
is_last-append k (x ∷ y ∷ ns) = is_last-later k x y (ns ++ k ∷ []) ∙ is_last-append k (y ∷ ns)

not_equal : (x k : ℕ) → x < k → x == k ≡ false
not_equal x k lt = ne_eqb x k (λ (e : x ≡ k). omega arith)

is_last-under : (k : ℕ) (ns : List ℕ) → AllUnder k ns → is_last_number k ns ≡ false
is_last-under k [] all = refl
is_last-under k (x ∷ []) all = not_equal x k all.0
is_last-under k (x ∷ y ∷ ns) all = is_last-later k x y ns ∙ is_last-under k (y ∷ ns) all.1

noted_at : (b : Bool) (k : ℕ) (ns : List ℕ) → AllUnder k ns → numbers_with k (ns ++ one_if b k) ≡ ns ++ k ∷ []
noted_at true k ns all = rw (is_last-append k ns) refl
noted_at false k ns all = rw (append-nil ns, is_last-under k ns all) refl

-- ---- one more in the last set

abbrev before : Lists → List Found → Lists
before done found = done ++ found ∷ []

abbrev after : Lists → List Found → Found → Lists
after done found x = done ++ (found ++ x ∷ []) ∷ []

has_last : (found : List Found) (x : Found) → has x (found ++ x ∷ []) ≡ true
has_last found x = list_any-append (same_found x) found (x ∷ []) ∙ at (has x found) where
  at : (b : Bool) → (b || (same_found x x || false)) ≡ true
  at true = refl
  at false = rw (same_itself x) refl

has_other : (found : List Found) (x g : Found) → same_found g x ≡ false → has g (found ++ x ∷ []) ≡ has g found
has_other found x g lacks = list_any-append (same_found g) found (x ∷ []) ∙ ap (λ b. has g found || (b || false)) lacks ∙ or-false (has g found)

sets_noted : (done : Lists) (found : List Found) (x : Found) → sets_having x 0 (after done found x) ≡ numbers_with (length done) (sets_having x 0 (before done found))
sets_noted done found x =
    let k : 0 + length done ≡ length done = omega arith in
    let ns = sets_having x 0 done in
    let new : sets_having x 0 (after done found x) ≡ ns ++ length done ∷ [] =
    sets_having-append x 0 done (found ++ x ∷ []) ∙ ap (λ b. ns ++ one_if b (0 + length done)) (has_last found x) ∙ ap (λ m. ns ++ m ∷ []) k in
    let old : sets_having x 0 (before done found) ≡ ns ++ one_if (has x found) (length done) =
    sets_having-append x 0 done found ∙ ap (λ m. ns ++ one_if (has x found) m) k in
    new ∙ sym (noted_at (has x found) (length done) ns (having_under x 0 (length done) done k)) ∙ ap (numbers_with (length done)) (sym old)

sets_other : (done : Lists) (found : List Found) (x g : Found) → same_found g x ≡ false → sets_having g 0 (after done found x) ≡ sets_having g 0 (before done found)
sets_other done found x g lacks =
    sets_having-append g 0 done (found ++ x ∷ []) ∙ ap (λ b. sets_having g 0 done ++ one_if b (0 + length done)) (has_other found x g lacks) ∙ sym (sets_having-append g 0 done found)

-- what was not found has no sets
pub no_sets : (x : Found) (n : ℕ) (lists : Lists) → has x (all_found lists) ≡ false → sets_having x n lists ≡ []
no_sets x n [] lacks = refl
no_sets x n (l ∷ lists) lacks =
    let parts = or_parts (has x l) (has x (all_found lists)) (sym (list_any-append (same_found x) l (all_found lists)) ∙ lacks) in
    rw parts.0 (no_sets x (n + 1) lists parts.1)

-- ---- the list so far

with_equal : (lists : Lists) (f : Found) (ns : List ℕ) → sets_having f 0 lists ≡ ns → with_sets lists f ≡ record { found = f; sets = ns }
with_equal lists f ns e = ap (λ sets. record { found = f; sets = sets }) e

others : (done : Lists) (found : List Found) (x : Found) (es : List Found) → has x es ≡ false → map (with_sets (after done found x)) es ≡ map (with_sets (before done found)) es
others done found x [] lacks = refl
others done found x (g ∷ es) lacks =
    let parts = or_parts (same_found x g) (has x es) lacks in
    let first : with_sets (after done found x) g ≡ with_sets (before done found) g =
    with_equal (after done found x) g (sets_having g 0 (before done found)) (sets_other done found x g (turned x g parts.0)) in
    let rest = others done found x es parts.1 in
    ap (λ p. p ∷ map (with_sets (after done found x)) es) first ∙ ap (λ ps. with_sets (before done found) g ∷ ps) rest

present_at : (done : Lists) (found : List Found) (x g : Found) (es : List Found) (b : Bool) → same_found x g ≡ b → has g es ≡ false
    → (b ≡ false → with_found (length done) x (map (with_sets (before done found)) es) ≡ map (with_sets (after done found x)) es)
    → cond b (record { found = g; sets = numbers_with (length done) (sets_having g 0 (before done found)) } ∷ map (with_sets (before done found)) es)
    (with_sets (before done found) g ∷ with_found (length done) x (map (with_sets (before done found)) es))
    ≡ with_sets (after done found x) g ∷ map (with_sets (after done found x)) es
present_at done found x g es true is apart rest =
    let equal : x ≡ g = same_equal x g is in
    let lacks : has x es ≡ false = subst (λ (z : Found). has z es ≡ false) (sym equal) apart in
    let sets : sets_having g 0 (after done found x) ≡ numbers_with (length done) (sets_having g 0 (before done found)) =
    subst (λ (z : Found). sets_having z 0 (after done found x) ≡ numbers_with (length done) (sets_having z 0 (before done found))) equal (sets_noted done found x) in
    let first = with_equal (after done found x) g _ sets in
    ap (λ p. p ∷ map (with_sets (before done found)) es) (sym first) ∙ ap (λ ps. with_sets (after done found x) g ∷ ps) (sym (others done found x es lacks))
present_at done found x g es false is apart rest =
    let first : with_sets (after done found x) g ≡ with_sets (before done found) g =
    with_equal (after done found x) g (sets_having g 0 (before done found)) (sets_other done found x g (turned x g is)) in
    ap (λ p. p ∷ with_found (length done) x (map (with_sets (before done found)) es)) (sym first) ∙ ap (λ ps. with_sets (after done found x) g ∷ ps) (rest refl)

or_true : (a b : Bool) → a || b ≡ true → a ≡ false → b ≡ true
or_true true b e lacks = absurd (true≢false lacks)
or_true false b e lacks = e

present : (done : Lists) (found : List Found) (x : Found) (es : List Found) → has x es ≡ true → Apart es
    → with_found (length done) x (map (with_sets (before done found)) es) ≡ map (with_sets (after done found x)) es
present done found x [] is apart = absurd (true≢false (sym is))
present done found x (g ∷ es) is apart =
    present_at done found x g es (same_found x g) refl apart.0 (λ lacks. present done found x es (or_true (same_found x g) (has x es) is lacks) apart.1)

absent : (k : ℕ) (lists : Lists) (x : Found) (es : List Found) → has x es ≡ false
    → with_found k x (map (with_sets lists) es) ≡ map (with_sets lists) es ++ record { found = x; sets = k ∷ [] } ∷ []
absent k lists x [] lacks = refl
absent k lists x (g ∷ es) lacks =
    let parts = or_parts (same_found x g) (has x es) lacks in
    rw parts.0 (ap (λ ps. with_sets lists g ∷ ps) (absent k lists x es parts.1))

either : (done : Lists) (found : List Found) (x : Found) (es : List Found) (b : Bool) → has x es ≡ b → Apart es → (has x es ≡ false → sets_having x 0 (before done found) ≡ [])
    → with_found (length done) x (map (with_sets (before done found)) es) ≡ map (with_sets (after done found x)) (cond b es (es ++ x ∷ []))
either done found x es true is apart none = present done found x es is apart
either done found x es false is apart none =
    let sets : sets_having x 0 (after done found x) ≡ length done ∷ [] = sets_noted done found x ∙ ap (numbers_with (length done)) (none is) in
    let last = with_equal (after done found x) x (length done ∷ []) sets in
    absent (length done) (before done found) x es is
    ∙ ap (λ ps. ps ++ record { found = x; sets = length done ∷ [] } ∷ []) (sym (others done found x es is))
    ∙ ap (λ p. map (with_sets (after done found x)) es ++ p ∷ []) (sym last)
    ∙ sym (map-append (with_sets (after done found x)) es (x ∷ []))

-- one more in the last set
merged_one : (done : Lists) (found : List Found) (x : Found) → with_found (length done) x (merged_faults (before done found)) ≡ merged_faults (after done found x)
merged_one done found x =
    let es = each_once [] (all_found (before done found)) in
    let none : has x es ≡ false → sets_having x 0 (before done found) ≡ [] =
    (λ (lacks : has x es ≡ false). no_sets x 0 (before done found) (sym (has-each_once [] (all_found (before done found)) x) ∙ lacks)) in
    let list : all_found (after done found x) ≡ all_found (before done found) ++ x ∷ [] =
    all_found-append done (found ++ x ∷ []) ∙ sym (append_assoc (all_found done) found (x ∷ [])) ∙ ap (λ fs. fs ++ x ∷ []) (sym (all_found-append done found)) in
    either done found x es (has x es) refl (apart-each_once [] (all_found (before done found)) tt) none
    ∙ ap (map (with_sets (after done found x))) (sym (ap (each_once []) list ∙ each_once-append [] (all_found (before done found)) x))

merged_more : (done : Lists) (found fs : List Found) → with_each (length done) fs (merged_faults (before done found)) ≡ merged_faults (done ++ (found ++ fs) ∷ [])
merged_more done found [] = ap (λ l. merged_faults (done ++ l ∷ [])) (sym (append-nil found))
merged_more done found (f ∷ fs) =
    ap (with_each (length done) fs) (merged_one done found f) ∙ merged_more done (found ++ f ∷ []) fs ∙ ap (λ l. merged_faults (done ++ l ∷ [])) (append_assoc found (f ∷ []) fs)

map_same : (lists more : Lists) (es : List Found) → ((f : Found) → sets_having f 0 lists ≡ sets_having f 0 more) → map (with_sets lists) es ≡ map (with_sets more) es
map_same lists more [] h = refl
map_same lists more (f ∷ es) h = ap (λ p. p ∷ map (with_sets lists) es) (with_equal lists f _ (h f)) ∙ ap (λ ps. with_sets more f ∷ ps) (map_same lists more es h)

merged_none : (done : Lists) → merged_faults (before done []) ≡ merged_faults done
merged_none done =
    ap (λ fs. map (with_sets (before done [])) (each_once [] fs)) (all_found-append done [] ∙ append-nil (all_found done))
    ∙ map_same (before done []) done (each_once [] (all_found done)) (λ f. sets_having-append f 0 done [] ∙ append-nil (sets_having f 0 done))

-- one more set
pub merged_set : (done : Lists) (fs : List Found) → with_each (length done) fs (merged_faults done) ≡ merged_faults (done ++ fs ∷ [])
merged_set done fs = ap (with_each (length done) fs) (sym (merged_none done)) ∙ merged_more done [] fs
