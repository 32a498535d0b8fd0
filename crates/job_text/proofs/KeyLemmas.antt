-- Numbers as keys of ordered sets, and keys that were seen.
use Rattle.std.proofs.Common.{◌≡◌, ℕ, ◌<◌, ◌==◌, ◌||◌, Bool, true, false, cond, nat_lt, nat_cmp, Less, Equal, Greater, List, [], ◌∷◌, ◌++◌, ◌+◌, length, take, get_or, refl, ap, sym, ◌∙◌, arith, if◌then◌else◌}
use Rattle.std.proofs.lemmas.List.{take_more}
use Rattle.target_machine.specs.declared.job.WordJob.{WordJob}
use Rattle.std.proofs.lemmas.Bool.Decides.{nat_tests}
use Rattle.std.specs.Ordering.{is_eq}
use Rattle.std.specs.List.{list_any}
use Rattle.json_form.proofs.SeenLemmas.{list_any-append}

eq_at : (a b : Bool) → (a ≡ true → b ≡ false) → is_eq (cond a Less (cond b Equal Greater)) ≡ b
eq_at true b h = sym (h refl)
eq_at false true h = refl
eq_at false false h = refl

less_apart : (x y : ℕ) → nat_lt x y ≡ true → (x == y) ≡ false
less_apart x y h = grind (arith, nat_tests)

pub is_eq-nat_cmp : (x y : ℕ) → is_eq (nat_cmp x y) ≡ (x == y)
is_eq-nat_cmp x y = eq_at (nat_lt x y) (x == y) (less_apart x y)

pub ruleset keys = (is_eq-nat_cmp)

-- one more key beside those of two lists
pub either-append : {A : Type 0} (p : A → Bool) (xs : List A) (x : A) (others : Bool) → list_any p (xs ++ x ∷ []) || others ≡ (if p x then true else list_any p xs || others)
either-append p xs x others = ap (λ b. b || others) (list_any-append p xs x) ∙ split (p x) (list_any p xs) where
  split : (a b : Bool) → (if a then true else b) || others ≡ (if a then true else b || others)
  split true b = refl
  split false b = refl

pub ruleset seeing = (is_eq-nat_cmp, list_any-append, either-append)

-- the addresses of one word more
pub seen_more : (words : List WordJob) (i : ℕ) (d : WordJob) (old new : ℕ → Bool) → i < length words
    → ((key : ℕ) → old key ≡ list_any (λ word. word.address == key) (take i words))
    → ((key : ℕ) → new key ≡ (if is_eq (nat_cmp (get_or words i d).address key) then true else old key))
    → (key : ℕ) → new key ≡ list_any (λ word. word.address == key) (take (i + 1) words)
seen_more words i d old new lt before kept key =
    kept key
    ∙ ap (λ b. cond b true (old key)) (is_eq-nat_cmp (get_or words i d).address key)
    ∙ ap (λ b. cond ((get_or words i d).address == key) true b) (before key)
    ∙ sym (list_any-append (λ word. word.address == key) (take i words) (get_or words i d))
    ∙ sym (ap (list_any (λ (word : WordJob). word.address == key)) (take_more words i d lt))
